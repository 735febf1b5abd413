-- AIDs of applets, and sharing (API specification, JCSystem).
use Rattle.std.specs.Prelude.{ℕ, ℤ, ◌==◌, if◌then◌else◌, Bool, false, List, Option, Some, None, unwrap_or}
use Rattle.std.specs.Option.{option_and_then}
use Rattle.jc_heap.specs.declared.object.Facts.{Facts}
use Rattle.jc_heap.specs.Heap.{HeapState}
use Rattle.jc_frames.specs.declared.cell.Cell.{Cell}
use Rattle.jc_frames.specs.declared.cell.Cell.TheVariants.{Reference}
use Rattle.jc_transient.specs.declared.owner.AppletNumber.{AppletNumber}
use Rattle.jc_transient.specs.declared.owner.Owner.{Owner}
use Rattle.jc_transient.specs.declared.owner.Owner.TheVariants.{Runtime, Applet, Package}
use Rattle.jc_memory.specs.State.{MemoryState}
use Rattle.jc_memory.specs.Cells.{header_at}
use Rattle.jc_platform.specs.declared.names.PlatformClass.TheVariants.{Aid}
use Rattle.jc_platform.specs.NamePlaces.{class_word}
use Rattle.jc_linker.specs.Values.{Packages}
use Rattle.jc_world.specs.declared.native_result.NativeResult.TheVariants.{ReturnValue, CallServer}
use Rattle.jc_world.specs.NativeCalls.{NativeProgram, return_value, code_fault, if_some, if_ok}
use Rattle.jc_world.specs.Objects.{is_instance_of, short_argument, reference_argument}
use Rattle.jc_world.specs.Answers.{returns_bool}
use Rattle.jc_environment.specs.Aid.{aid_at}
use Rattle.jc_environment.specs.Registry.{aid_of_applet, instance_of_applet, applet_with_aid}
use Rattle.jc_world.specs.declared.arrays.Stretch.{Stretch}
use Rattle.jc_world.specs.Arrays.{bytes_in}
use Rattle.jc_api.specs.Arguments.{counted_of}
use Rattle.jc_api_framework.specs.Aid.Cells.{is_aid_length}

-- it returns this reference
abbrev pub returns_reference : ℕ → NativeProgram
returns_reference r = return_value (ReturnValue (Reference r))

-- the AID object of an applet, or null
abbrev pub aid_or_null : HeapState → Option AppletNumber → ℕ
aid_or_null h None = 0
aid_or_null h (Some n) = unwrap_or (aid_of_applet h n.0) 0

-- the applet among the owners
abbrev pub applet_of : Owner → Option AppletNumber
applet_of Runtime = None
applet_of (Applet n) = Some n
applet_of (Package p) = None

-- JCSystem.getAID: the AID object of the applet for which code runs; null for the environment, and for an
-- applet that is not registered yet
abbrev pub jc_system_get_aid : MemoryState → ℕ
jc_system_get_aid m = aid_or_null m.heap.now (applet_of m.registers.active)

-- JCSystem.getPreviousContextAID: the AID object of the applet for which code ran before the last context
-- switch, or null
abbrev pub jc_system_get_previous_context_aid : MemoryState → ℕ
jc_system_get_previous_context_aid m = aid_or_null m.heap.now (applet_of m.registers.previous)

-- the AID object of the applet whose AID some elements are, or null
abbrev pub aid_of_elements : MemoryState → Stretch → ℕ
aid_of_elements m e = if is_aid_length e.count then aid_or_null m.heap.now (applet_with_aid m (bytes_in m e)) else 0

-- JCSystem.lookupAID: the AID object with these bytes, or null
unfoldable pub jc_system_lookup_aid : List Cell → Packages → MemoryState → NativeProgram
jc_system_lookup_aid args p m = if_ok (counted_of 0 args p m) (λ e. returns_reference (aid_of_elements m e))

-- the server is asked; null where there is none
abbrev pub server_call_result : MemoryState → ℤ → AppletNumber → Option ℕ → NativeProgram
server_call_result m parameter n None = returns_reference 0
server_call_result m parameter n (Some server) = return_value (CallServer (record
    { server = server; owner = n; client = jc_system_get_aid m; parameter = parameter }))

abbrev pub server_call_if_known : MemoryState → ℤ → Option AppletNumber → NativeProgram
server_call_if_known m parameter None = returns_reference 0
server_call_if_known m parameter (Some n) = server_call_result m parameter n (instance_of_applet m.heap.now n.0)

-- the applet with the AID that an AID object holds; another object is a cell of the wrong kind
abbrev pub server_call_by_aid : Packages → MemoryState → ℕ → ℤ → Facts → NativeProgram
server_call_by_aid p m aid parameter f = if is_instance_of p f (class_word p.platform Aid) then server_call_if_known m parameter
    (option_and_then (λ bytes. applet_with_aid m bytes) (aid_at m aid)) else code_fault

-- there is such an applet, and it is the other one
abbrev pub are_one : Option AppletNumber → Option AppletNumber → Bool
are_one None other = false
are_one (Some a) None = false
are_one (Some a) (Some b) = a.0 == b.0

-- whether the applet with the AID that an AID object holds is the selected one; another object is a cell of the wrong kind
abbrev pub activity_by_aid : Packages → MemoryState → ℕ → Facts → NativeProgram
activity_by_aid p m aid f = if is_instance_of p f (class_word p.platform Aid) then returns_bool
    (are_one (option_and_then (λ bytes. applet_with_aid m bytes) (aid_at m aid)) m.registers.selected) else code_fault

-- JCSystem.isAppletActive: whether the selected applet has this AID; false for null
unfoldable pub jc_system_is_applet_active : List Cell → Packages → MemoryState → NativeProgram
jc_system_is_applet_active args p m = if_some (reference_argument args 0) (λ aid.
    if aid == 0 then returns_bool false else if_some (header_at m aid) (activity_by_aid p m aid))

-- JCSystem.getAppletShareableInterfaceObject: the server's method is called, with the client's AID and the
-- parameter; null where there is no server
unfoldable pub jc_system_get_applet_shareable_interface_object : List Cell → Packages → MemoryState → NativeProgram
jc_system_get_applet_shareable_interface_object args p m = if_some (reference_argument args 0) (λ aid. if_some (short_argument args 1) (λ parameter.
    if aid == 0 then returns_reference 0 else if_some (header_at m aid) (server_call_by_aid p m aid parameter)))
