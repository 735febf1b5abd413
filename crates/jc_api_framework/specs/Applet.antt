-- Applet (API specification).
pub mod Register
use Rattle.std.specs.Prelude.{ℕ, nat_le, true, List, length, if◌then◌else◌, Option, Some, None}
use Rattle.std.specs.Option.{option_map}
use Rattle.jc_frames.specs.declared.cell.Cell.{Cell}
use Rattle.jc_frames.specs.declared.cell.Cell.TheVariants.{Reference}
use Rattle.jc_frames.specs.Reasons.{illegal_aid, illegal_value}
use Rattle.jc_memory.specs.declared.registers.Installation.{Installation}
use Rattle.jc_memory.specs.declared.registers.Installation.TheVariants.{Idle, Open, Registered}
use Rattle.jc_memory.specs.State.{MemoryState}
use Rattle.jc_linker.specs.Values.{Packages}
use Rattle.jc_linker.specs.Lookups.{applet_entry}
use Rattle.jc_platform.specs.declared.names.AppletsMethod.{AppletsMethod}
use Rattle.jc_platform.specs.declared.names.AppletsMethod.TheVariants.{AppletDeselect, AppletGetShareableInterfaceObject, AppletRegister, AppletRegisterBytes}
use Rattle.jc_platform.specs.declared.names.AppletsMethod.TheVariants.{AppletInit, AppletProcess, AppletSelect, AppletSelectingApplet, AppletReSelectingApplet}
use Rattle.jc_world.specs.declared.native_result.NativeResult.TheVariants.{ReturnVoid, ReturnValue}
use Rattle.jc_world.specs.NativeCalls.{NativeProgram, return_value, throw_exception, code_fault, if_some, if_ok}
use Rattle.jc_world.specs.Objects.{reference_argument}
use Rattle.jc_world.specs.Answers.{returns_bool}
use Rattle.jc_world.specs.Arrays.{bytes_in}
use Rattle.jc_api.specs.Arguments.{counted_of}
use Rattle.jc_api_framework.specs.Aid.Cells.{is_aid_length}
use Rattle.jc_api_framework.specs.Applet.Register.{registration}

-- the AID of the entry in the Applet component whose install runs; none outside an installation
abbrev pub install_aid : Packages → Installation → Option (List ℕ)
install_aid p Idle = None
install_aid p (Open k entry) = option_map (λ a. a.aid) (applet_entry p k.0 entry)
install_aid p (Registered k) = None

-- an instance is registered with the AID of its entry, if there is one and it is short enough
abbrev pub register_with : ℕ → Packages → MemoryState → Option (List ℕ) → NativeProgram
register_with instance p m None = throw_exception illegal_aid
register_with instance p m (Some aid) = if nat_le (length aid) 16 then registration aid instance p m else throw_exception illegal_aid

-- Applet.register: the instance is registered with the AID of its entry
unfoldable pub applet_register : List Cell → Packages → MemoryState → NativeProgram
applet_register args p m = if_some (reference_argument args 0) (λ instance. register_with instance p m (install_aid p m.registers.installation))

-- Applet.register(byte[], short, byte): the instance is registered with the AID that is given
unfoldable pub applet_register_bytes : List Cell → Packages → MemoryState → NativeProgram
applet_register_bytes args p m =
    if_some (reference_argument args 0) (λ instance. if_ok (counted_of 1 args p m)
    (λ e. if is_aid_length e.count then registration (bytes_in m e) instance p m else throw_exception illegal_value))

-- what a call of a method of Applet may do, where no class below overrides it: a constructor that does nothing; true, nothing, null and
-- the selecting flags; registration; process is abstract
unfoldable pub applet_call : AppletsMethod → List Cell → Packages → MemoryState → NativeProgram
applet_call AppletInit args p m = return_value ReturnVoid
applet_call AppletSelect args p m = returns_bool true
applet_call AppletDeselect args p m = return_value ReturnVoid
applet_call AppletGetShareableInterfaceObject args p m = return_value (ReturnValue (Reference 0))
applet_call AppletSelectingApplet args p m = returns_bool m.registers.selecting
applet_call AppletReSelectingApplet args p m = returns_bool m.registers.reselecting
applet_call AppletRegister args p m = applet_register args p m
applet_call AppletRegisterBytes args p m = applet_register_bytes args p m
applet_call AppletProcess args p m = code_fault
