-- Runs, pause by pause.
use Rattle.std.proofs.Common.{◌≡◌, ℕ, ◌+◌, ◌-◌, ◌<◌, List, Option, Some, None, Result, Ok, Err, refl, sym, ◌∙◌, subst, arith}
use Rattle.jc_memory.specs.State.{MemoryState}
use Rattle.jc_memory.specs.Programs.{Completes, IsTornIn, Executes}
use Rattle.jc_heap.specs.Completions.{Completion, Completed, Torn}
use Rattle.jc_memory.proofs.ProgramLemmas.{bind_cut, bind_made}
use Rattle.jc_linker.specs.Values.{Packages}
use Rattle.jc_frames.specs.declared.exceptions.Exception.{Exception}
use Rattle.jc_frames.specs.declared.outcome.Outcome.{Outcome}
use Rattle.jc_frames.specs.declared.outcome.Outcome.TheVariants.{Fault}
use Rattle.jc_frames.specs.Frames.{Frames, GoesOn, Throws, Ends}
use Rattle.jc_interp.specs.declared.attacks.Attack.{Attack}
use Rattle.jc_interp.specs.declared.frames_only.PausedStep.{PausedStep}
use Rattle.jc_interp.specs.Run.{or_end, run_of, Continues, IsPartOfRun}
use Rattle.jc_interp.specs.PausedSteps.{step_rest, run_rest}

-- a run that this many steps are left of after a pause
module _ (attack : Option Attack) (n left : ℕ) (pause : PausedStep) (lent : List ℕ) (p : Packages) (s at : Frames) (m new : MemoryState)
    (paused : run_of attack n lent p s m ≡ run_rest attack (left, pause) lent p at m) where
  behind : (after : Completion MemoryState (ℕ × Outcome)) → Executes (run_rest attack (left, pause) lent p at m) m after
      → Executes (run_of attack n lent p s m) m after
  behind after made = subst (λ d. Executes d m after) (sym paused) made

  pub run_more : (t : Frames) (after : Completion MemoryState (ℕ × Outcome)) → Completes (step_rest pause p at m) m (GoesOn t) new
      → Executes (run_of attack left lent p t new) new after → Executes (run_of attack n lent p s m) m after
  run_more t after did rest = behind after (bind_made (λ next v. or_end left next (λ t. run_of attack left lent p t v)) (step_rest pause p at m) m new
      (GoesOn t) after did rest)

  pub run_ended : (o : Outcome) → Completes (step_rest pause p at m) m (Ends o) new → Executes (run_of attack n lent p s m) m (Completed (left, o) new)
  run_ended o did = behind (Completed (left, o) new) (bind_made (λ next v. or_end left next (λ t. run_of attack left lent p t v)) (step_rest pause p at m)
      m new (Ends o) (Completed (left, o) new) did (refl, refl))

  pub run_thrown : (e : Exception) (t : Frames) → Completes (step_rest pause p at m) m (Throws e t) new
      → Executes (run_of attack n lent p s m) m (Completed (left, Fault) new)
  run_thrown e t did = behind (Completed (left, Fault) new) (bind_made (λ next v. or_end left next (λ t. run_of attack left lent p t v))
      (step_rest pause p at m) m new (Throws e t) (Completed (left, Fault) new) did (refl, refl))

  pub run_cut : IsTornIn (step_rest pause p at m) m new → Executes (run_of attack n lent p s m) m (Torn new)
  run_cut cut = behind (Torn new) (bind_cut (λ next v. or_end left next (λ t. run_of attack left lent p t v)) (step_rest pause p at m) m new cut)

-- one more step, after which the run ended, goes on, or was cut
one_of : (limit turn later : ℕ) → turn < limit → 1 + (limit - (turn + 1) + later) ≡ limit - turn + later
one_of limit turn later lt = omega (arith, lt)

module _ (attack : Option Attack) (limit turn later : ℕ) (lt : turn < limit) (lent : List ℕ) (p : Packages) (first s : Frames) (start m : MemoryState)
    (so_far : Continues attack (limit + later) lent p first start attack (limit - turn + later) s m) where
  pub one_more : (after : Completion MemoryState (ℕ × Outcome)) → Executes (run_of attack (1 + (limit - (turn + 1) + later)) lent p s m) m after
      → Executes (run_of attack (limit + later) lent p first start) start after
  one_more after made = so_far after (subst (λ (k : ℕ). Executes (run_of attack k lent p s m) m after) (one_of limit turn later lt) made)

-- what has not ended with its steps ends by a code fault
pub not_ended : {E : Type 0} (r : Result (Option (ℕ × Outcome)) E) (attack : Option Attack) (limit : ℕ) (rest : Option Attack) (lent : List ℕ)
    (p : Packages) (first s : Frames) (start m : MemoryState) → r ≡ Ok None → IsPartOfRun r attack limit rest 0 lent p first start s m
    → Completes (run_of attack limit lent p first start) start (0, Fault) m
unfolding run_of
not_ended r attack limit rest lent p first s start m e part = let none = rw e at part in none.1 (Completed (0, Fault) m) (refl, refl)

-- no steps more are none
pub none_more : {E : Type 0} (r : Result (Option (ℕ × Outcome)) E) (attack : Option Attack) (limit : ℕ) (rest : Option Attack) (lent : List ℕ)
    (p : Packages) (first s : Frames) (start m : MemoryState) → IsPartOfRun r attack (limit + 0) rest 0 lent p first start s m
    → IsPartOfRun r attack limit rest 0 lent p first start s m
none_more r attack limit rest lent p first s start m part =
    let same : limit + 0 ≡ limit = omega arith in
    subst (λ n. IsPartOfRun r attack n rest 0 lent p first start s m) same part

-- what was done after a part of a run was done in the run
module _ (attack : Option Attack) (limit : ℕ) (planned : Option Attack) (n : ℕ) (lent : List ℕ) (p : Packages) (first s : Frames) (start m : MemoryState)
    (so_far : Continues attack limit lent p first start planned n s m) (down : m.heap.down ≡ start.heap.down) where
  pub part_after : {E : Type 0} (r : Result (Option (ℕ × Outcome)) E) (rest : Option Attack) (later : ℕ) (u : Frames) (v : MemoryState)
      → IsPartOfRun r planned n rest later lent p s m u v → IsPartOfRun r attack limit rest later lent p first start u v
  part_after (Ok (Some end)) rest later u v part = so_far (Completed end v) part
  part_after (Ok None) rest later u v part = (part.0 ∙ down, λ after made. so_far after (part.1 after made))
  part_after (Err e) rest later u v part = so_far (Torn v) part
