-- A PIN's change is answered.
use Rattle.std.proofs.Common.{refl, Result, Ok, Err}
use Rattle.jc_memory.specs.State.{MemoryState}
use Rattle.jc_memory.specs.Programs.{Program, Executes}
use Rattle.jc_heap.specs.Completions.{Completed}
use Rattle.jc_memory.proofs.ProgramLemmas.{bind_made, bind_cut}
use Rattle.jc_environment.specs.declared.pins.updates.PinRefusal.{PinRefusal}
use Rattle.jc_environment.specs.declared.pins.updates.PinRefusal.TheVariants.{StoreDown, CommitFull, IllegalValue, HeapFull}
use Rattle.jc_environment.specs.Pins.Updates.{after_pin}
use Rattle.jc_frames.specs.declared.outcome.FrameExit.TheVariants.{Throw}
use Rattle.jc_world.specs.declared.native_result.NativeResult.TheVariants.{ReturnVoid}
use Rattle.jc_world.specs.NativeCalls.{after_call}
use Rattle.jc_api_framework.specs.OwnerPin.{answer_of, exception_of, changed_or_thrown, return_unless_refused}

pub answered : (d : Program (Result (Unit {0}) PinRefusal)) (m new : MemoryState) (change : Result (Unit {0}) PinRefusal) → Executes d m (after_pin change new)
    → Executes (changed_or_thrown d m) m (after_call (answer_of change) new)
answered d m new (Ok u) made = bind_made (λ r v. return_unless_refused r) d m new (Ok u) (Completed (Ok ReturnVoid) new) made (refl, refl)
answered d m new (Err StoreDown) made = bind_cut (λ r v. return_unless_refused r) d m new made
answered d m new (Err CommitFull) made = bind_made (λ r v. return_unless_refused r) d m new (Err CommitFull)
    (Completed (Err (Throw (exception_of CommitFull))) new) made (refl, refl)
answered d m new (Err IllegalValue) made = bind_made (λ r v. return_unless_refused r) d m new (Err IllegalValue)
    (Completed (Err (Throw (exception_of IllegalValue))) new) made (refl, refl)
answered d m new (Err HeapFull) made = bind_made (λ r v. return_unless_refused r) d m new (Err HeapFull)
    (Completed (Err (Throw (exception_of HeapFull))) new) made
    (refl, refl)
