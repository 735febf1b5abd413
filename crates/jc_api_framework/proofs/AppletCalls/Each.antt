-- Applet: what each call that registers an applet may do.
use Rattle.std.specs.Prelude.{nat_le}
use Rattle.std.proofs.Common.{◌≡◌, ℕ, List, length, Option, Some, None, Result, Err, refl}
use Rattle.jc_memory.specs.State.{MemoryState, Effect}
use Rattle.jc_platform.specs.declared.names.AppletsMethod.TheVariants as applets
use Rattle.jc_platform.specs.declared.names.PlatformMethod.{PlatformMethod}
use Rattle.jc_platform.specs.declared.names.PlatformMethod.TheVariants as rooms
use Rattle.jc_linker.specs.Values.{Packages}
use Rattle.jc_frames.specs.Reasons.{illegal_aid, illegal_value}
use Rattle.jc_frames.specs.declared.cell.Cell.{Cell}
use Rattle.jc_frames.specs.declared.outcome.FrameExit.{FrameExit}
use Rattle.jc_frames.specs.declared.outcome.FrameExit.TheVariants.{Throw}
use Rattle.jc_world.specs.Arrays.{bytes_in}
use Rattle.jc_world.specs.Objects.{reference_argument}
use Rattle.jc_world.specs.declared.native_result.NativeResult.{NativeResult}
use Rattle.jc_api.specs.Arguments.{counted_of}
use Rattle.jc_api_framework.proofs.ArgumentExits.{plain_counted}
use Rattle.jc_api.proofs.Due.{DueThen, then_if, then_some, then_ok}
use Rattle.jc_api.proofs.Exits.{IsPlainExit}
use Rattle.jc_api_framework.specs.Aid.Cells.{is_aid_length}
use Rattle.jc_api_framework.specs.Applet.{install_aid, register_with, applet_register, applet_register_bytes}
use Rattle.jc_api_framework.proofs.AppletCalls.Registering.{registered_then}
use Rattle.jc_api_framework.proofs.Passing.{RegistersSo}

module _ (P : Effect → MemoryState → Type 0) (R : Result NativeResult FrameExit → MemoryState → Type 0) (method : PlatformMethod) (args : List Cell)
    (p : Packages) (m : MemoryState) (exits : (e : FrameExit) → IsPlainExit e → R (Err e) m) (registers : RegistersSo P R method args p m) where
  as_due : method ≡ rooms.Applets applets.AppletRegister → (instance : ℕ) → reference_argument args 0 ≡ Some instance → (aid : Option (List ℕ))
      → install_aid p m.registers.installation ≡ aid → DueThen P R (register_with instance p m aid) m
  as_due is instance own None there = exits (Throw illegal_aid) tt
  as_due is instance own (Some aid) there = then_if P R m exits (nat_le (length aid) 16) _ _ (λ on. registered_then P R p m exits aid instance (registers.own is aid instance own there))
      (λ off. exits (Throw illegal_aid) tt)

  pub own_registered_due : method ≡ rooms.Applets applets.AppletRegister → DueThen P R (applet_register args p m) m
  unfolding applet_register
  own_registered_due is = then_some P R m exits (reference_argument args 0) _
      (λ instance own. as_due is instance own (install_aid p m.registers.installation) refl)

  pub given_registered_due : method ≡ rooms.Applets applets.AppletRegisterBytes → DueThen P R (applet_register_bytes args p m) m
  unfolding applet_register_bytes
  given_registered_due is = then_some P R m exits (reference_argument args 0) _ (λ instance own.
      then_ok P R m exits (counted_of 1 args p m) _ (plain_counted args 1 p m) (λ e fine.
      then_if P R m exits (is_aid_length e.count) _ _
      (λ on. registered_then P R p m exits (bytes_in m e) instance (registers.given is e instance own on)) (λ off. exits (Throw illegal_value) tt)))
