-- Turns: steps that need nothing but frames, before which no attack comes.
use Rattle.std.proofs.Common.{◌≡◌, ℕ, suc, ◌+◌, ◌-◌, ◌<◌, ◌≤◌, List, Option, Some, None, refl, ◌∙◌, ap, arith}
use Rattle.jc_memory.specs.State.{MemoryState}
use Rattle.jc_linker.specs.Values.{Packages}
use Rattle.jc_frames.specs.Frames.{Frames, GoesOn}
use Rattle.jc_world.specs.Instructions.{continue_with}
use Rattle.jc_interp.specs.declared.attacks.Attack.{Attack}
use Rattle.jc_interp.specs.declared.frames_only.PausedStep.{PausedStep}
use Rattle.jc_interp.specs.Attacks.{IsAway, attacked}
use Rattle.jc_interp.specs.Step.{code_of, instruction_step, machine_step}
use Rattle.jc_interp.specs.Run.{run_of}
use Rattle.jc_interp.specs.declared.frames_only.FramesExit.{FramesExit}
use Rattle.jc_interp.specs.declared.frames_only.FramesExit.TheVariants.{Exit, Needs}
use Rattle.jc_frames.specs.declared.outcome.FrameExit.TheVariants.{Throw, End}
use Rattle.jc_interp.specs.PausedSteps.{run_behind, run_rest, paused_rest, WhereNeeded}

-- where no attack is planned, none comes
pub none_away : (most least : ℕ) → IsAway None most least
none_away most least = λ left below above lent p s. refl

-- what is away from some steps is away from fewer of them
pub away_less : (attack : Option Attack) (most least more less : ℕ) → more ≤ most → least ≤ less → IsAway attack most least → IsAway attack more less
away_less attack most least more less high low away = λ left below above. away left (omega (arith, low, below)) (omega (arith, high, above))

pub away_fewer : (attack : Option Attack) (budget left later : ℕ) → left ≤ budget → IsAway attack (budget + later) later
    → IsAway attack (left + later) later
away_fewer attack budget left later few away = away_less attack (budget + later) later (left + later) later (omega (arith, few)) (omega arith) away

-- then the step finds the frames as they are
away_goes : (attack : Option Attack) (n : ℕ) (lent : List ℕ) (p : Packages) (s : Frames) → IsAway attack (suc n) n
    → attacked attack (suc n) lent p s ≡ GoesOn s
away_goes attack n lent p s away = away (suc n) (omega arith) (omega arith) lent p s

module _ (attack : Option Attack) (lent code : List ℕ) (p : Packages) (s t : Frames) (m : MemoryState)
    (own : code ≡ code_of lent p s.current.origin.package_number) (n : ℕ) (away : IsAway attack (suc n) n) where
  one_goes : continue_with t ≡ instruction_step code p s m → run_of attack (suc n) lent p s m ≡ run_of attack n lent p t m
  unfolding run_of machine_step
  one_goes e = rw (away_goes attack n lent p s away, ← own, ← e) refl

  one_pauses : (pause : PausedStep) → pause.place ≡ s.current.place → paused_rest pause.why pause.place p t m ≡ instruction_step code p s m
      → run_of attack (suc n) lent p s m ≡ run_rest attack (n, pause) lent p t m
  unfolding run_of machine_step
  one_pauses pause at e = rw (away_goes attack n lent p s away, ← own, ← e, ← at) refl

one_left : (left more : ℕ) → 0 < left → left + more ≡ suc (left - 1 + more)
one_left left more lt = omega (arith, lt)

-- a turn of a run of this many steps, after which this many more may follow
module _ (attack : Option Attack) (lent code : List ℕ) (p : Packages) (s t : Frames) (m : MemoryState)
    (own : code ≡ code_of lent p s.current.origin.package_number) (left more : ℕ) (lt : 0 < left)
    (away : IsAway attack (left + more) more) where
  away_here : IsAway attack (suc (left - 1 + more)) (left - 1 + more)
  away_here = away_less attack (left + more) more (suc (left - 1 + more)) (left - 1 + more) (omega (arith, lt)) (omega arith) away

  pub goes_on : continue_with t ≡ instruction_step code p s m
      → run_of attack (left + more) lent p s m ≡ run_of attack (left - 1 + more) lent p t m
  goes_on e = ap (λ n. run_of attack n lent p s m) (one_left left more lt)
      ∙ one_goes attack lent code p s t m own (left - 1 + more) away_here e

  pub pauses : (pause : PausedStep) → pause.place ≡ s.current.place → paused_rest pause.why pause.place p t m ≡ instruction_step code p s m
      → run_of attack (left + more) lent p s m ≡ run_behind (Some (left - 1, pause)) attack more lent p t m
  pauses pause at e = ap (λ n. run_of attack n lent p s m) (one_left left more lt)
      ∙ one_pauses attack lent code p s t m own (left - 1 + more) away_here pause at e

-- an instruction that is done at once needed more than frames
pub needed : (why : FramesExit) (T : Type 0) (place : ℕ) (p : Packages) (s t : Frames) (m : MemoryState) → paused_rest why place p s m ≡ continue_with t
    → WhereNeeded why T → T
needed (Exit (Throw e)) T place p s t m done kept = cc
needed (Exit (End o)) T place p s t m done kept = cc
needed (Needs instr) T place p s t m done kept = kept

pub used_up : (attack : Option Attack) (n more : ℕ) (lent : List ℕ) (p : Packages) (s : Frames) (m : MemoryState) → n ≡ 0
    → run_of attack (n + more) lent p s m ≡ run_behind None attack more lent p s m
used_up attack n more lent p s m e = ap (λ (k : ℕ). run_of attack k lent p s m) (omega (arith, e))
