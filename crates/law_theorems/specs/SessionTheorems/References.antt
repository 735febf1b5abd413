-- No reference names what is not there.
use Rattle.std.specs.Prelude.{ℕ, ◌≡◌, List, Option, Err}
use Rattle.jc_heap.specs.WholeHeap.{IsReference}
use Rattle.jc_frames.specs.declared.outcome.FrameExit.TheVariants.{End}
use Rattle.jc_frames.specs.declared.outcome.Outcome.TheVariants.{Fault}
use Rattle.jc_frames.specs.Frames.{Frames}
use Rattle.jc_memory.specs.State.{MemoryState, Effect}
use Rattle.jc_platform.specs.Tokens.{Tokens}
use Rattle.jc_world.specs.Objects.{object_at}
use Rattle.jc_interp.specs.declared.attacks.Attack.{Attack}
use Rattle.jc_card.specs.Card.{CardState}
use Rattle.law_code.specs.IsolationLaws.Runs.{RunSteps}
use Rattle.law_soundness.specs.LivingReferences.{AreLivingFrames}
use Rattle.law_soundness.specs.References.{EndsLiving, HandsObjects, MayBegin, NamesObjects}
use Rattle.law_soundness.specs.MemoryLaws.State.{TransientCells}
use Rattle.law_theorems.specs.Outcomes.{AddNone, ComesWithin, memory_at}

-- this many steps of code, from where a method may begin, lead, after these effects of a command of a session, to these frames and this memory;
-- an attack may come before one of them
pub record RunsFrom (t : Tokens) (card : CardState) (bytes : List ℕ) (es : List Effect) (k : ℕ) (lent : List ℕ) (s u : Frames) (n : MemoryState) : Type 0 where
  pub comes : ComesWithin t card bytes es
  pub same : AddNone es
  pub begins : MayBegin s (memory_at card es)
  pub attack : Option Attack
  pub left : ℕ
  pub steps : RunSteps attack k left lent card.packages s (memory_at card es) u n

pub record ReferencesNameObjects : Type 0 where
  -- at each moment of each command, and so after an abort, of each transient cell, and each element of a transient array of references is
  -- such a reference or the zero that a reset leaves
  pub transients : (t : Tokens) (card : CardState) (bytes : List ℕ) (es : List Effect) → ComesWithin t card bytes es
      → TransientCells (memory_at card es).heap.now (memory_at card es).ram
  -- of arrays, fields and static fields (the load whose end adds a package runs no code)
  pub memory : (t : Tokens) (card : CardState) (bytes : List ℕ) (es : List Effect) → ComesWithin t card bytes es → AddNone es
      → NamesObjects card.packages (memory_at card es) × HandsObjects (memory_at card es)
  -- however many steps code then takes: in locals and on stacks, where an exception stands that was caught, in what its memory is then,
  -- and in what its run ends with
  pub frames : (t : Tokens) (card : CardState) (bytes : List ℕ) (es : List Effect) (k : ℕ) (lent : List ℕ) (s u : Frames) (n : MemoryState)
      → RunsFrom t card bytes es k lent s u n → AreLivingFrames n.heap.now u × NamesObjects card.packages n × EndsLiving lent card.packages u n
  -- such a reference is no code fault
  pub found : (m : MemoryState) (r : ℕ) → IsReference m.heap.now r → object_at m r ≡ Err (End Fault) → ⊥
