-- Calls in a row.
use Rattle.std.proofs.Common.{◌≡◌, ℤ, refl, subst, Result, Ok, Err}
use Rattle.jc_frames.specs.declared.outcome.FrameExit.{FrameExit}
use Rattle.jc_frames.specs.declared.outcome.FrameExit.TheVariants as stop
use Rattle.jc_memory.specs.State.{MemoryState}
use Rattle.jc_memory.specs.Programs.{Executes}
use Rattle.jc_heap.specs.Completions.{Completion, Completed}
use Rattle.jc_memory.proofs.ProgramLemmas.{bind_made, bind_cut}
use Rattle.jc_world.specs.declared.native_result.NativeResult.{NativeResult}
use Rattle.jc_world.specs.declared.step_exit.StepExit.{StepExit}
use Rattle.jc_world.specs.declared.step_exit.StepExit.TheVariants.{Throw, End, Down}
use Rattle.jc_world.specs.NativeCalls.{NativeProgram, after_call, if_ok}
use Rattle.jc_api_framework.specs.Apdu.{then_call}

-- what the first one ended with
pub then_broken : (first next : MemoryState → NativeProgram) (m mid : MemoryState) (e : StepExit) → Executes (first m) m (after_call (Err e) mid)
    → Executes (then_call m first next) m (after_call (Err e) mid)
then_broken first next m mid (Throw e) made = bind_made (λ answer v. if_ok answer (λ a. next v)) (first m) m mid (Err (stop.Throw e))
    (Completed (Err (stop.Throw e)) mid) made (refl, refl)
then_broken first next m mid (End o) made = bind_made (λ answer v. if_ok answer (λ a. next v)) (first m) m mid (Err (stop.End o))
    (Completed (Err (stop.End o)) mid) made (refl, refl)
then_broken first next m mid Down cut = bind_cut (λ answer v. if_ok answer (λ a. next v)) (first m) m mid cut

-- what the second one ends with
pub then_made : (first next : MemoryState → NativeProgram) (m mid : MemoryState) (a : NativeResult)
    (after : Completion MemoryState (Result NativeResult FrameExit)) → Executes (first m) m (after_call (Ok a) mid) → Executes (next mid) mid after →
    Executes (then_call m first next) m after
then_made first next m mid a after first_made next_made = bind_made (λ answer v. if_ok answer (λ b. next v)) (first m) m mid (Ok a) after first_made next_made

-- at two equal numbers
pub at_both : (P : ℤ → ℤ → Type 0) (x y a b : ℤ) → x ≡ a → y ≡ b → P x y → P a b
at_both P x y a b e f p = subst (P a) f (subst (λ z. P z y) e p)
