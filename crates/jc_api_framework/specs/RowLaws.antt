-- What calls read of their arguments, by the rows of their methods.
use Rattle.std.specs.Prelude.{◌≡◌, Bool, true, false, List}
use Rattle.jc_platform.specs.declared.names.AidsMethod.{AidsMethod}
use Rattle.jc_platform.specs.declared.names.AidsMethod.TheVariants as aids
use Rattle.jc_platform.specs.declared.names.ApdusMethod.{ApdusMethod}
use Rattle.jc_platform.specs.declared.names.AppletsMethod.{AppletsMethod}
use Rattle.jc_platform.specs.declared.names.ExceptionsMethod.{ExceptionsMethod}
use Rattle.jc_platform.specs.declared.names.PinsMethod.{PinsMethod}
use Rattle.jc_platform.specs.declared.names.PinsMethod.TheVariants as pins
use Rattle.jc_platform.specs.declared.names.PlatformMethod.{PlatformMethod}
use Rattle.jc_platform.specs.declared.names.PlatformMethod.TheVariants.{Aids, Apdus, Applets, Exceptions, Pins, System, Utilities}
use Rattle.jc_platform.specs.declared.names.SystemMethod.{SystemMethod}
use Rattle.jc_platform.specs.declared.names.UtilitiesMethod.{UtilitiesMethod}
use Rattle.jc_platform.specs.Signatures.{parameters_of}
use Rattle.jc_linker.specs.Values.{Packages}
use Rattle.jc_memory.specs.State.{MemoryState}
use Rattle.jc_frames.specs.declared.cell.Cell.{Cell}
use Rattle.jc_world.specs.NativeCalls.{NativeProgram}
use Rattle.jc_api_framework.specs.ArgumentReading.{AreFaultsByKinds, IsReadByRow, IsWeighedByRow, has_array}
use Rattle.jc_api_framework.specs.Aid.{aid_call}
use Rattle.jc_api_framework.specs.Apdu.{apdu_call}
use Rattle.jc_api_framework.specs.Applet.{applet_call}
use Rattle.jc_api_framework.specs.Exceptions.{exception_call}
use Rattle.jc_api_framework.specs.OwnerPin.{pin_call}
use Rattle.jc_api_framework.specs.System.{system_call}
use Rattle.jc_api_framework.specs.Util.{util_call}

-- an AID equals no null, and begins with none: these two answer that, and do not throw
abbrev pub aid_weighs : AidsMethod → Bool
aid_weighs aids.AidEqualsBytes = true
aid_weighs aids.AidPartialEquals = true
aid_weighs _ = false

-- the check of a PIN counts a try first
abbrev pub pin_weighs : PinsMethod → Bool
pin_weighs pins.OwnerPinCheck = true
pin_weighs _ = false

abbrev pub IsReadSo : Bool → PlatformMethod → (List Cell → Packages → MemoryState → NativeProgram) → Type 0
IsReadSo true method call = IsWeighedByRow method call
IsReadSo false method call = IsReadByRow method call

-- each method that takes an array is read by its row; and each that is called on no object, whose arguments nothing looks at before the call, takes
-- those of other kinds for a code fault
pub record AreReadByRows : Type 0 where
  pub utilities : (method : UtilitiesMethod) → IsReadByRow (Utilities method) (util_call method)
  pub system : (method : SystemMethod) → has_array (parameters_of (System method)) ≡ true → IsReadByRow (System method) (system_call method)
  pub aids : (method : AidsMethod) → has_array (parameters_of (Aids method)) ≡ true → IsReadSo (aid_weighs method) (Aids method) (aid_call method)
  pub pins : (method : PinsMethod) → has_array (parameters_of (Pins method)) ≡ true → IsReadSo (pin_weighs method) (Pins method) (pin_call method)
  pub applets : (method : AppletsMethod) → has_array (parameters_of (Applets method)) ≡ true → IsReadByRow (Applets method) (applet_call method)
  pub apdus : (method : ApdusMethod) → has_array (parameters_of (Apdus method)) ≡ true → IsReadByRow (Apdus method) (apdu_call method)
  pub exceptions : (method : ExceptionsMethod) → AreFaultsByKinds (Exceptions method) (λ args p m. exception_call method args m)
  pub system_kinds : (method : SystemMethod) → AreFaultsByKinds (System method) (system_call method)
