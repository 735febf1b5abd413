-- JCSystem: what its calls may do.
pub mod Each
pub mod Checks
pub mod Transactions
use Rattle.std.proofs.Common.{ℕ, List, Result}
use Rattle.jc_heap.specs.declared.object.Kind.TheVariants.{BooleanArray, ByteArray, ShortArray, ReferenceArray}
use Rattle.jc_memory.specs.State.{MemoryState, Effect}
use Rattle.jc_platform.specs.declared.names.PlatformMethod.TheVariants as rooms
use Rattle.jc_platform.specs.declared.names.SystemMethod.{SystemMethod}
use Rattle.jc_platform.specs.declared.names.SystemMethod.TheVariants as system
use Rattle.jc_linker.specs.Values.{Packages}
use Rattle.jc_frames.specs.declared.cell.Cell.{Cell}
use Rattle.jc_frames.specs.declared.outcome.FrameExit.{FrameExit}
use Rattle.jc_world.specs.declared.native_result.NativeResult.{NativeResult}
use Rattle.jc_api.proofs.Due.{IsPlainCall, DueThen}
use Rattle.jc_api.proofs.Passing.{Turns}
use Rattle.jc_api_framework.specs.System.{system_call}
use Rattle.jc_api_framework.specs.System.Sharing.{applet_of}
use Rattle.jc_api_framework.proofs.Passing.{AnswersSo, MethodPasses, Bears, EndsSo}
use Rattle.jc_api_framework.proofs.SystemCalls.Each.{memory_told_due, looked_up_due, event_due, active_due, memory_set_due, server_due, transient_due}
use Rattle.jc_api_framework.proofs.SystemCalls.Transactions.{begun_due, committed_due, aborted_due}

-- methods that begin and end no transaction
abbrev pub IsPlainSystemMethod : SystemMethod → Type 0
IsPlainSystemMethod system.JcSystemAbortTransaction = ⊥
IsPlainSystemMethod system.JcSystemBeginTransaction = ⊥
IsPlainSystemMethod system.JcSystemCommitTransaction = ⊥
IsPlainSystemMethod method = Unit {0}

module _ (P : Effect → MemoryState → Type 0) (L : MemoryState → ℕ → Type 0) (Q : MemoryState → Type 0) (turns : Turns P Q) (args : List Cell) (p : Packages)
    (m : MemoryState) (so : Q m) (refers : AnswersSo L m) where
  pub systems_due : (method : SystemMethod) → IsPlainSystemMethod method → MethodPasses P (rooms.System method) args p m → IsPlainCall P L (system_call method args p m) m
  unfolding system_call
  systems_due system.JcSystemAbortTransaction plain pass = absurd plain
  systems_due system.JcSystemBeginTransaction plain pass = absurd plain
  systems_due system.JcSystemCommitTransaction plain pass = absurd plain
  systems_due system.JcSystemGetAid plain pass = refers.aid (applet_of m.registers.active)
  systems_due system.JcSystemGetAppletShareableInterfaceObject plain pass = server_due P L args p m refers
  systems_due system.JcSystemGetAvailableMemory plain pass = memory_told_due P L args p m
  systems_due system.JcSystemGetAvailableMemoryShorts plain pass = memory_set_due P L Q turns (rooms.System system.JcSystemGetAvailableMemoryShorts) args p m so pass
  systems_due system.JcSystemGetPreviousContextAid plain pass = refers.aid (applet_of m.registers.previous)
  systems_due system.JcSystemIsAppletActive plain pass = active_due P L args p m
  systems_due system.JcSystemIsTransient plain pass = event_due P L args p m
  systems_due system.JcSystemLookupAid plain pass = looked_up_due P L args p m refers
  systems_due system.JcSystemMakeTransientBooleanArray plain pass = transient_due P L args p m refers (rooms.System system.JcSystemMakeTransientBooleanArray) pass BooleanArray (λ e. cc)
  systems_due system.JcSystemMakeTransientByteArray plain pass = transient_due P L args p m refers (rooms.System system.JcSystemMakeTransientByteArray) pass ByteArray (λ e. cc)
  systems_due system.JcSystemMakeTransientObjectArray plain pass = transient_due P L args p m refers (rooms.System system.JcSystemMakeTransientObjectArray) pass ReferenceArray (λ e. cc)
  systems_due system.JcSystemMakeTransientShortArray plain pass = transient_due P L args p m refers (rooms.System system.JcSystemMakeTransientShortArray) pass ShortArray (λ e. cc)
  systems_due _ plain pass = tt

-- where it is so of such a method, it is so of each
module _ (P : Effect → MemoryState → Type 0) (R : Result NativeResult FrameExit → MemoryState → Type 0) (Q : MemoryState → Type 0) (bears : Bears P Q)
    (args : List Cell) (p : Packages) (m : MemoryState) (so : Q m) (ends : EndsSo R m) where
  pub systems_then : (method : SystemMethod) → (IsPlainSystemMethod method → DueThen P R (system_call method args p m) m) → DueThen P R (system_call method args p m) m
  unfolding system_call
  systems_then system.JcSystemAbortTransaction plain = aborted_due P R Q bears m so ends m.registers.depth
  systems_then system.JcSystemBeginTransaction plain = begun_due P R Q bears m so ends m.registers.depth
  systems_then system.JcSystemCommitTransaction plain = committed_due P R Q bears m so ends m.registers.depth
  systems_then _ plain = plain tt
