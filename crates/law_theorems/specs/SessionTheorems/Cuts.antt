-- A cut leaves the changes before it.
use Rattle.std.specs.Prelude.{ℕ, ◌+◌, ◌≡◌, ◌<◌, ◌≤◌, true, List, [], ◌∷◌, ◌++◌, Some}
use Rattle.jc_heap.specs.Heap.{HeapState}
use Rattle.jc_heap.specs.HeapLaws.{durable_behind, writes_of_moves}
use Rattle.jc_heap.specs.Moves.{Commit, WriteNonAtomic}
use Rattle.jc_memory.specs.State.{MemoryState, Effect, HeapMove, apply_effect, moves_of}
use Rattle.jc_memory.specs.Reading.{HasTracePrefix}
use Rattle.jc_environment.specs.Pins.{counter}
use Rattle.jc_platform.specs.Tokens.{Tokens}
use Rattle.jc_card.specs.Answers.{exchange}
use Rattle.jc_card.specs.Card.{CardState}
use Rattle.jc_card.specs.Session.Requests.{Request, Reset, Reply, Ready, Down}
use Rattle.jc_card.specs.State.Power.{KeptState, Up, Off}
use Rattle.jc_card.specs.Session.Serving.{AnswersCommand, SessionRun}
use Rattle.law_code.specs.PinChanges.{IsChanged}
use Rattle.law_theorems.specs.Outcomes.{AreDown, ComesTo, memory_at}
use Rattle.law_theorems.specs.Losses.{IsLeft}
use Rattle.law_soundness.specs.LoadedPackages.{AreBytes}
use Rattle.law_theorems.specs.Tries.{SetsAnew, is_owner_pin, tries_in}

-- a command is cut when exactly k of its writes have passed: it began with these effects, the refused write is one of theirs, and this is the
-- durable heap after those of their moves that are complete by then
pub record IsHeapCutAt (card : CardState) (bytes : List ℕ) (k : ℕ) (h : HeapState) : Type 0 where
  pub effects : List Effect
  pub begins : HasTracePrefix (exchange bytes card) card.memory effects
  pub within : k < writes_of_moves (moves_of effects) card.memory.heap
  pub is : h ≡ durable_behind (moves_of effects) card.memory.heap k

-- an effect counts the tries of the PIN, updates it or sets it up
abbrev pub SetsTries : ℕ → Effect → MemoryState → Type 0
SetsTries q (HeapMove (WriteNonAtomic place v)) m = place ≡ counter q
SetsTries q e m = SetsAnew q e m

-- none of these effects does
abbrev pub SetNoTries : ℕ → List Effect → MemoryState → Type 0
SetNoTries q [] m = Unit {0}
SetNoTries q (e ∷ es) m = (SetsTries q e m → ⊥) × SetNoTries q es (apply_effect e m)

-- it is what is durable after these effects and some first ones of the others
abbrev pub IsBehind : CardState → List Effect → List Effect → HeapState → Type 0
IsBehind card before after h = (front rest : List Effect) × (after ≡ front ++ rest) × (h ≡ (memory_at card (before ++ front)).heap.durable)

pub record LeaveTheChangesBeforeThem : Type 0 where
  -- the power is cut within a command, and within each of any number of resets; meanwhile commands are answered down, and the fuse may be
  -- armed. Then a reset completes
  pub cut : (card next : CardState) (bytes : List ℕ) (off : KeptState) (requests : List Request) (replies : List Reply) → AreDown replies
      → AnswersCommand (Up card) bytes Down (Off card.budget.left off) → SessionRun (Off card.budget.left off) (requests ++ (Reset ∷ [])) (replies ++ (Ready ∷ [])) (Up next)
      → off.passed < 18446744073709551615 → (k : ℕ) × (off.passed ≡ card.memory.heap.passed + k) × IsHeapCutAt card bytes k next.memory.heap.now
  -- where a fuse was set K writes ahead, and the store below refused nothing by itself, k is K
  pub stopped : (card : CardState) (bytes : List ℕ) (off : KeptState) (ahead : ℕ) → AnswersCommand (Up card) bytes Down (Off card.budget.left off)
      → card.memory.heap.refusals.fuse ≡ Some (card.memory.heap.passed + ahead) → card.memory.heap.refusals.faults < 18446744073709551615
      → off.refusals.faults ≡ card.memory.heap.refusals.faults → off.passed ≡ card.memory.heap.passed + ahead

pub record KeepWhatWasDone : Type 0 where
  -- what was complete before the cut stays, whatever it was
  pub complete : (card : CardState) (bytes : List ℕ) (k : ℕ) (h : HeapState) (c : IsHeapCutAt card bytes k h) (before after : List Effect)
      → c.effects ≡ before ++ after → writes_of_moves (moves_of before) card.memory.heap ≤ k → IsBehind card before after h
  -- what was committed, above all
  pub committed : (card : CardState) (bytes : List ℕ) (k : ℕ) (h : HeapState) (c : IsHeapCutAt card bytes k h) (before after : List Effect)
      → c.effects ≡ (before ++ (HeapMove Commit ∷ [])) ++ after → writes_of_moves (moves_of (before ++ (HeapMove Commit ∷ []))) card.memory.heap ≤ k
      → IsBehind card (before ++ (HeapMove Commit ∷ [])) after h
  -- and a try of an OwnerPIN that was counted, where the open transaction had not changed the PIN before, and until something else sets its tries
  pub counted : (t : Tokens) (card : CardState) (bytes : List ℕ) (k q v : ℕ) (h : HeapState) (c : IsHeapCutAt card bytes k h) (before after : List Effect)
      → ComesTo t (Up card) → AreBytes bytes → c.effects ≡ (before ++ (HeapMove (WriteNonAtomic (counter q) v) ∷ [])) ++ after
      → writes_of_moves (moves_of (before ++ (HeapMove (WriteNonAtomic (counter q) v) ∷ []))) card.memory.heap ≤ k
      → is_owner_pin card.packages (memory_at card before).heap.durable q ≡ true → (IsChanged (memory_at card before) q → ⊥)
      → SetNoTries q after (memory_at card (before ++ (HeapMove (WriteNonAtomic (counter q) v) ∷ []))) → tries_in h q ≡ v
  -- and after effects of a session's command that is the heap as it is, where no transaction is open; else what its beginning found, but
  -- for what was set for good since and stays
  pub left : (t : Tokens) (card : CardState) (bytes : List ℕ) (effects : List Effect) (h : HeapState) → ComesTo t (Up card) → AreBytes bytes
      → HasTracePrefix (exchange bytes card) card.memory effects → h ≡ (memory_at card effects).heap.durable → IsLeft card effects h
