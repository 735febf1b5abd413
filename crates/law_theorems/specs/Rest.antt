-- Heaps at rest between commands.
use Rattle.std.specs.Prelude.{ℕ, ◌≡◌, List}
use Rattle.jc_heap.specs.Heap.{HeapView, heap_at_rest}
use Rattle.jc_memory.specs.State.{MemoryState}
use Rattle.jc_memory.specs.Programs.{Completes}
use Rattle.jc_card.specs.Answers.{exchange}
use Rattle.jc_card.specs.Card.{CardState}
use Rattle.jc_card.specs.Loading.{LoadResponse}

-- no transaction is open, and a loss of power leaves the heap as it is
abbrev pub IsResting : HeapView → Type 0
IsResting v = v ≡ heap_at_rest v.now v.passed v.refusals v.size

-- a command that was done leaves the heap of a card at rest, as it found it
abbrev pub LeaveAtRest : Type 0
LeaveAtRest = (bytes : List ℕ) (card : CardState) (a : LoadResponse) (new : MemoryState) → IsResting card.memory.heap
    → Completes (exchange bytes card) card.memory a new → IsResting new.heap
