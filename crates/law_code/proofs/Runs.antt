-- Runs.
use Rattle.std.proofs.Common.{◌≡◌, ℕ, zero, suc, List, ◌++◌, sym, subst}
use Rattle.jc_heap.specs.Object.{Object, AnObject}
use Rattle.jc_heap.specs.Heap.{heap_item_at}
use Rattle.jc_memory.specs.State.{MemoryState, Effect, apply_effects}
use Rattle.jc_memory.specs.Reading.{AllEffectsDue, HasTrace}
use Rattle.jc_memory.proofs.ProgramLemmas.{due_before, due_taken}
use Rattle.jc_linker.specs.Values.{Packages}
use Rattle.jc_frames.specs.Frames.{Frames, Next, GoesOn}
use Rattle.jc_interp.specs.Step.{machine_step}
use Rattle.law_code.specs.Reach.{IsOutside}
use Rattle.law_code.specs.IsolationLaws.SparingEffects.{IsSet, LeavesObject}
use Rattle.law_code.proofs.ObjectsOutside.{behind, keeps_cells, outside_still, stands_after, stands_first}
use Rattle.law_code.proofs.SparedObjects.{Stands}
use Rattle.law_code.specs.IsolationLaws.Runs.{AreIsolated, RunStepsWithin}
use Rattle.law_code.specs.IsolationLaws.Steps.{NamesStatics, Stays}
use Rattle.law_code.proofs.Steps.{steps_spare}

-- an object stands as it stood when the run began
module _ (p : Packages) (statics : NamesStatics p) (lent : List ℕ) (start : MemoryState) (set : IsSet start) (q : ℕ) (out : IsOutside p start q) (o : Object)
    (is : heap_item_at start.heap.now q ≡ AnObject o) where
  step_taken : (s : Frames) (m : MemoryState) (es : List Effect) (next : Next Frames) → Stands q o start m → Stays lent p s m
      → HasTrace (machine_step lent p s m) m es next → AllEffectsDue (LeavesObject q) es m
  step_taken s m es next st stays takes = due_taken (LeavesObject q) (machine_step lent p s m) m es next
      (steps_spare lent p s m q statics (outside_still p q o start m is out st) stays) takes

  ran_stands : (k : ℕ) (s : Frames) (m : MemoryState) (t : Frames) (n : MemoryState) → RunStepsWithin k lent p s m t n → Stands q o start m → Stands q o start n
  ran_stands zero s m t n ran st = subst (Stands q o start) (sym ran.1) st
  ran_stands (suc k) s m t n ran st = ran_stands k ran.2 (apply_effects ran.0 m) t n ran.7
      (stands_after q o start m ran.0 (step_taken ran.1 m ran.0 (GoesOn ran.2) st ran.6 ran.4) ran.5 st)

pub isolated : AreIsolated
isolated = record {
  ran = λ k q lent p s m t n runs.
      let b = behind m q runs.outside.there in
      let st = ran_stands p runs.statics lent m runs.set q runs.outside b.0 b.1 k s m t n runs.steps (stands_first m q b.0 runs.set b.1) in
      (keeps_cells q b.0 m n b.1 st, outside_still p q b.0 m n b.1 runs.outside st);
  ends = λ k q lent p s m t n runs during after next takes stays quiet.
      let b = behind m q runs.outside.there in
      let st = ran_stands p runs.statics lent m runs.set q runs.outside b.0 b.1 k s m t n runs.steps (stands_first m q b.0 runs.set b.1) in
      let due = due_before (LeavesObject q) during after n
      (step_taken p runs.statics lent m runs.set q runs.outside b.0 b.1 t n (during ++ after) next st stays takes) in
      keeps_cells q b.0 m (apply_effects during n) b.1 (stands_after q b.0 m n during due quiet st);
}
