-- Applet: what its calls may do.
pub mod Each
pub mod Checks
pub mod Registering
use Rattle.std.proofs.Common.{ℕ, List, Result, Err, refl}
use Rattle.jc_memory.specs.State.{MemoryState, Effect}
use Rattle.jc_platform.specs.declared.names.AppletsMethod.{AppletsMethod}
use Rattle.jc_platform.specs.declared.names.AppletsMethod.TheVariants as applets
use Rattle.jc_platform.specs.declared.names.PlatformMethod.TheVariants as rooms
use Rattle.jc_linker.specs.Values.{Packages}
use Rattle.jc_frames.specs.declared.cell.Cell.{Cell}
use Rattle.jc_frames.specs.declared.outcome.FrameExit.{FrameExit}
use Rattle.jc_world.specs.declared.native_result.NativeResult.{NativeResult}
use Rattle.jc_api.proofs.Due.{IsPlainCall, DueThen}
use Rattle.jc_api.proofs.Exits.{IsPlainExit}
use Rattle.jc_api_framework.specs.Applet.{applet_call}
use Rattle.jc_api_framework.proofs.AppletCalls.Each.{own_registered_due, given_registered_due}
use Rattle.jc_api_framework.proofs.Passing.{AnswersSo, RegistersSo}

-- methods that register nothing
abbrev pub IsPlainAppletMethod : AppletsMethod → Type 0
IsPlainAppletMethod applets.AppletRegister = ⊥
IsPlainAppletMethod applets.AppletRegisterBytes = ⊥
IsPlainAppletMethod method = Unit {0}

module _ (P : Effect → MemoryState → Type 0) (L : MemoryState → ℕ → Type 0) (args : List Cell) (p : Packages) (m : MemoryState) (refers : AnswersSo L m) where
  pub applets_due : (method : AppletsMethod) → IsPlainAppletMethod method → IsPlainCall P L (applet_call method args p m) m
  unfolding applet_call
  applets_due applets.AppletRegister plain = absurd plain
  applets_due applets.AppletRegisterBytes plain = absurd plain
  applets_due applets.AppletGetShareableInterfaceObject plain = refers.null
  applets_due _ plain = tt

-- where it is so of such a method, it is so of each
module _ (P : Effect → MemoryState → Type 0) (R : Result NativeResult FrameExit → MemoryState → Type 0) (args : List Cell) (p : Packages) (m : MemoryState)
    (exits : (e : FrameExit) → IsPlainExit e → R (Err e) m) where
  pub applets_then : (method : AppletsMethod) → RegistersSo P R (rooms.Applets method) args p m
      → (IsPlainAppletMethod method → DueThen P R (applet_call method args p m) m) → DueThen P R (applet_call method args p m) m
  unfolding applet_call
  applets_then applets.AppletRegister registers plain = own_registered_due P R (rooms.Applets applets.AppletRegister) args p m exits registers refl
  applets_then applets.AppletRegisterBytes registers plain = given_registered_due P R (rooms.Applets applets.AppletRegisterBytes) args p m exits registers refl
  applets_then _ registers plain = plain tt
