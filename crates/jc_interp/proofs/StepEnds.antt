-- The end of a step: an instruction was carried out, and what it throws is thrown.
use Rattle.std.proofs.Common.{ℕ, sym, subst}
use Rattle.jc_memory.specs.State.{MemoryState}
use Rattle.jc_memory.specs.Programs.{Program, Executes, bind}
use Rattle.jc_heap.specs.Completions.{Completion, Completed, Torn}
use Rattle.jc_memory.proofs.ProgramLemmas.{bind_cut, bind_made}
use Rattle.jc_linker.specs.Values.{Packages}
use Rattle.jc_frames.specs.Frames.{Frames, Next}
use Rattle.jc_interp.specs.Step.{throw_from}
use Rattle.jc_interp.specs.PausedSteps.{EndsStep}

-- first the instruction, and then what it throws
pub ended_step : (d : Program (Next Frames)) (s : MemoryState) (ended end : Completion MemoryState (Next Frames)) (place : ℕ) (p : Packages)
    → Executes d s ended → EndsStep ended place p end → Executes (bind d s (λ next v. throw_from place p next v)) s end
ended_step d s (Completed next m) end place p made rest = bind_made (λ next v. throw_from place p next v) d s m next end made rest
ended_step d s (Torn m) end place p cut same =
    subst (λ e. Executes (bind d s (λ next v. throw_from place p next v)) s e) (sym same) (bind_cut (λ next v. throw_from place p next v) d s m cut)
