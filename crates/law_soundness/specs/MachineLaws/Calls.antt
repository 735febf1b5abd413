-- What calls of the platform's methods leave: a memory between two instructions.
use Rattle.std.specs.Prelude.{◌≡◌, true, List, Result, Ok, Err}
use Rattle.jc_frames.specs.declared.cell.Cell.{Cell}
use Rattle.jc_frames.specs.declared.outcome.FrameExit.{FrameExit}
use Rattle.jc_frames.specs.declared.outcome.FrameExit.TheVariants.{Throw, End}
use Rattle.jc_frames.specs.Frames.{Caller}
use Rattle.jc_memory.specs.State.{MemoryState}
use Rattle.jc_memory.specs.Reading.{AllResults}
use Rattle.jc_platform.specs.declared.names.PlatformMethod.{PlatformMethod}
use Rattle.jc_linker.specs.Values.{Packages}
use Rattle.jc_world.specs.declared.native_result.NativeResult.{NativeResult}
use Rattle.jc_world.specs.declared.native_result.NativeResult.TheVariants.{ReturnVoid, ReturnValue, CallServer, Aborted}
use Rattle.jc_interp.specs.Natives.{native_call}
use Rattle.jc_heap.specs.WholeHeap.{IsReference}
use Rattle.law_soundness.specs.LivingReferences.{IsLivingCell, IsLivingOutcome, KeepsReferences, KeepsReferencesBelow}
use Rattle.law_soundness.specs.MemoryLaws.State.{IsSteady, is_owner_up_to, most_owner}
use Rattle.law_soundness.specs.MachineLaws.Natives.{IsSoundCall}
use Rattle.law_soundness.specs.Machines.{KnowOwners}

-- the new memory stands as between two instructions; for whom callers ran is there, where it was before; code runs for the same owner
pub record IsSteadyAgain (m n : MemoryState) : Type 0 where
  pub steady : IsSteady n
  pub owners : (callers : List Caller) → KnowOwners callers m → KnowOwners callers n
  pub active : n.registers.active ≡ m.registers.active

-- and what referred refers
pub record IsReadyAgain (m n : MemoryState) : Type 0 where
  pub again : IsSteadyAgain m n
  pub references : KeepsReferences m.heap.now n.heap.now

-- a reference that is handed over is null or names an object; a server that is to be asked is an applet that is there
abbrev pub AnswersWell : NativeResult → MemoryState → MemoryState → Type 0
AnswersWell ReturnVoid m n = IsReadyAgain m n
AnswersWell (ReturnValue cell) m n = IsReadyAgain m n × IsLivingCell n.heap.now cell
AnswersWell (CallServer asked) m n = IsReadyAgain m n × (is_owner_up_to (most_owner n) n.heap.now asked.owner.0 ≡ true) × (asked.owner.0 ≡ 0 → ⊥)
    × IsReference n.heap.now asked.server × IsReference n.heap.now asked.client
AnswersWell Aborted m n = IsSteadyAgain m n × KeepsReferencesBelow m.heap.now n.heap.now

-- how a call leaves the memory
abbrev pub IsCallResult : MemoryState → Result NativeResult FrameExit → MemoryState → Type 0
IsCallResult m (Ok answer) n = AnswersWell answer m n
IsCallResult m (Err (Throw e)) n = IsReadyAgain m n
IsCallResult m (Err (End o)) n = IsLivingOutcome n.heap.now o

-- so each sound call of a method of the platform leaves the memory
abbrev pub NativesLeave : Type 0
NativesLeave = (method : PlatformMethod) (args : List Cell) (p : Packages) (m : MemoryState) → IsSoundCall method args p m
    → AllResults (native_call method args p m) m (IsCallResult m)
