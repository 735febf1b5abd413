-- Isolation over runs: between two switches, and with no abort and no clear event. Before each step a fault may come.
use Rattle.std.specs.Prelude.{ℕ, zero, suc, ◌≡◌, ◌<◌, ◌+◌, ◌⊎◌, List, ◌++◌, Option}
use Rattle.jc_frames.specs.declared.outcome.Outcome.{Outcome}
use Rattle.jc_frames.specs.Frames.{Frames, Next, GoesOn}
use Rattle.jc_memory.specs.State.{MemoryState, Effect, apply_effects}
use Rattle.jc_memory.specs.Programs.{Completes}
use Rattle.jc_memory.specs.Reading.{HasTrace}
use Rattle.jc_linker.specs.Values.{Packages}
use Rattle.jc_interp.specs.declared.attacks.Attack.{Attack}
use Rattle.jc_interp.specs.Attacks.{attacked, attacked_step}
use Rattle.jc_interp.specs.Run.{run_of}
use Rattle.jc_interp.specs.Step.{machine_step}
use Rattle.law_code.specs.Reach.{IsOutside, KeepsCells}
use Rattle.law_code.specs.IsolationLaws.SparingEffects.{AreQuiet, IsSet}
use Rattle.law_code.specs.IsolationLaws.Steps.{NamesStatics, Stays}

-- a step may find these frames where others were left: the same, or those after a fault
abbrev pub MayBecome : List ℕ → Packages → Frames → Frames → Type 0
MayBecome lent p s t = (attack : Option Attack) × (left : ℕ) × (attacked attack left lent p s ≡ GoesOn t)

-- this many steps of a run in a row, none of which switches, aborts or clears, lead from frames and a memory to others
abbrev pub RunStepsWithin : ℕ → List ℕ → Packages → Frames → MemoryState → Frames → MemoryState → Type 0
RunStepsWithin zero lent p s m t n = (t ≡ s) × (n ≡ m)
RunStepsWithin (suc k) lent p s m t n =
    (es : List Effect) × (v : Frames) × (u : Frames) × MayBecome lent p s v × HasTrace (machine_step lent p v m) m es (GoesOn u) × AreQuiet es m
    × Stays lent p v m × RunStepsWithin k lent p u (apply_effects es m) t n

-- such steps begin, in a memory of a card that is up, while an object is outside the reach of the code that runs
pub record RunsOutside (k q : ℕ) (lent : List ℕ) (p : Packages) (s : Frames) (m : MemoryState) (t : Frames) (n : MemoryState) : Type 0 where
  pub statics : NamesStatics p
  pub set : IsSet m
  pub outside : IsOutside p m q
  pub steps : RunStepsWithin k lent p s m t n

-- the object keeps its cells in all such steps, and in the step after them as far as that is quiet; and it stays outside reach
pub record AreIsolated : Type 0 where
  pub ran : (k q : ℕ) (lent : List ℕ) (p : Packages) (s : Frames) (m : MemoryState) (t : Frames) (n : MemoryState) → RunsOutside k q lent p s m t n
      → KeepsCells q m n × IsOutside p n q
  pub ends : (k q : ℕ) (lent : List ℕ) (p : Packages) (s : Frames) (m : MemoryState) (t : Frames) (n : MemoryState) → RunsOutside k q lent p s m t n
      → (during after : List Effect) (next : Next Frames) → HasTrace (machine_step lent p t n) n (during ++ after) next → Stays lent p t n → AreQuiet during n
      → KeepsCells q m (apply_effects during n)

-- ---- what a run is

-- this many steps of a run in a row, where an attack may come and, before the first, this many instructions are left
abbrev pub RunSteps : Option Attack → ℕ → ℕ → List ℕ → Packages → Frames → MemoryState → Frames → MemoryState → Type 0
RunSteps attack zero left lent p s m t n = (t ≡ s) × (n ≡ m)
RunSteps attack (suc k) zero lent p s m t n = ⊥
RunSteps attack (suc k) (suc left) lent p s m t n = (es : List Effect) × (u : Frames) × HasTrace (attacked_step attack (suc left) lent p s m) m es (GoesOn u)
    × RunSteps attack k left lent p u (apply_effects es m) t n

-- steps of a run in a row, as many as it may have; or fewer, and then one that ends it
pub record IsRunTrace (attack : Option Attack) (limit : ℕ) (lent : List ℕ) (p : Packages) (s : Frames) (m new : MemoryState) : Type 0 where
  pub steps : ℕ
  pub left : ℕ
  pub all : steps + left ≡ limit
  pub last : Frames
  pub found : MemoryState
  pub ran : RunSteps attack steps limit lent p s m last found
  pub ends : ((left ≡ 0) × (new ≡ found)) ⊎ ((0 < left) × (es : List Effect) × (next : Next Frames)
      × HasTrace (attacked_step attack left lent p last found) found es next × (new ≡ apply_effects es found))

-- each run is such steps
abbrev pub RunsAreSteps : Type 0
RunsAreSteps = (attack : Option Attack) (limit : ℕ) (lent : List ℕ) (p : Packages) (s : Frames) (m new : MemoryState) (answer : ℕ × Outcome)
    → Completes (run_of attack limit lent p s m) m answer new → IsRunTrace attack limit lent p s m new
