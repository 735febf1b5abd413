-- Contexts stay isolated over whole commands.
use Rattle.std.specs.Prelude.{ℕ, zero, suc, ◌≡◌, List, ◌++◌}
use Rattle.jc_heap.specs.Moves.{Abort}
use Rattle.jc_frames.specs.Frames.{Frames, Next, GoesOn}
use Rattle.jc_memory.specs.State.{MemoryState, Effect, HeapMove, SetRegisters, apply_effects}
use Rattle.jc_memory.specs.Reading.{AllEffectsDue, HasTrace}
use Rattle.jc_linker.specs.Values.{Packages}
use Rattle.jc_platform.specs.Tokens.{Tokens}
use Rattle.jc_interp.specs.Step.{machine_step}
use Rattle.jc_card.specs.Card.{CardState}
use Rattle.law_code.specs.Reach.{IsOutside, KeepsCells}
use Rattle.law_code.specs.IsolationLaws.Runs.{MayBecome}
use Rattle.law_code.specs.IsolationLaws.Steps.{Stays}
use Rattle.law_soundness.specs.MachineLaws.OwnerSwitches.{Cause, SwitchesHaveCauses}
use Rattle.law_theorems.specs.Outcomes.{AddNone, ComesWithin, memory_at}

-- an effect of a step takes nothing back, and code goes on running for the same owner: where a method is called in another context, a server
-- is asked, or a method ends, it does so for an owner who is the same
abbrev pub StaysApart : List ℕ → Packages → Frames → MemoryState → Effect → MemoryState → Type 0
StaysApart lent p s m (HeapMove Abort) n = ⊥
StaysApart lent p s m (SetRegisters g) n = Cause lent p s m g n → g.active ≡ n.registers.active
StaysApart lent p s m e n = Unit {0}

-- this many steps in a row, none of which calls a method in another context, lead from frames and a memory to others; before each a fault
-- may come
abbrev pub StepsApart : ℕ → List ℕ → Packages → Frames → MemoryState → Frames → MemoryState → Type 0
StepsApart zero lent p s m u n = (u ≡ s) × (n ≡ m)
StepsApart (suc k) lent p s m u n =
    (es : List Effect) × (v : Frames) × (t : Frames) × MayBecome lent p s v × HasTrace (machine_step lent p v m) m es (GoesOn t)
    × AllEffectsDue (StaysApart lent p v m) es m × Stays lent p v m × StepsApart k lent p t (apply_effects es m) u n

-- After these effects of a command of a session an object is outside the reach of the code that runs, and this many steps in a row, from
-- whatever frames to others, are so. The load whose end adds a package runs no code
pub record RunsApart (t : Tokens) (card : CardState) (bytes : List ℕ) (es : List Effect) (q k : ℕ) (lent : List ℕ) (s u : Frames) (n : MemoryState) : Type 0 where
  pub comes : ComesWithin t card bytes es
  pub same : AddNone es
  pub outside : IsOutside card.packages (memory_at card es) q
  pub steps : StepsApart k lent card.packages s (memory_at card es) u n

-- it keeps its header, its cells and its flag in all of them, and in the step after them as far as that is so; and it stays outside reach
pub record StayApart : Type 0 where
  pub ran : (t : Tokens) (card : CardState) (bytes : List ℕ) (es : List Effect) (q k : ℕ) (lent : List ℕ) (s u : Frames) (n : MemoryState)
      → RunsApart t card bytes es q k lent s u n → KeepsCells q (memory_at card es) n × IsOutside card.packages n q
  pub ends : (t : Tokens) (card : CardState) (bytes : List ℕ) (es : List Effect) (q k : ℕ) (lent : List ℕ) (s u : Frames) (n : MemoryState)
      → RunsApart t card bytes es q k lent s u n → (during after : List Effect) (next : Next Frames)
      → HasTrace (machine_step lent card.packages u n) n (during ++ after) next → Stays lent card.packages u n
      → AllEffectsDue (StaysApart lent card.packages u n) during n → KeepsCells q (memory_at card es) (apply_effects during n)
  -- and whatever sets registers, in any step of any code, so that it runs for another owner, has one of these causes
  pub switches : SwitchesHaveCauses
