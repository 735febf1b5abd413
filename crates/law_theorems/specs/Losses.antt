-- What an abort and a loss of power leave.
use Rattle.std.specs.Prelude.{◌≡◌, ◌⊎◌, true, false, List, ◌∷◌, ◌++◌}
use Rattle.jc_heap.specs.Heap.{HeapState}
use Rattle.jc_heap.specs.Moves.{Begin, IsInside}
use Rattle.jc_memory.specs.State.{Effect, HeapMove, apply_effect, moves_of}
use Rattle.jc_memory.specs.Reading.{HasTracePrefix}
use Rattle.jc_card.specs.Answers.{exchange}
use Rattle.jc_card.specs.Card.{CardState}
use Rattle.jc_card.specs.Session.Requests.{Request, Command, Reset, ArmFuse, PlanFault}
use Rattle.law_theorems.specs.Outcomes.{memory_at}
use Rattle.law_theorems.specs.Tries.{IsAsFound}

-- a transaction is open after these effects of a command, and this is what its beginning found, but for what was set for good
pub record IsWhatWasFound (card : CardState) (es : List Effect) (left : HeapState) : Type 0 where
  pub earlier : List Effect
  pub during : List Effect
  pub are : es ≡ earlier ++ (HeapMove Begin ∷ during)
  pub inside : IsInside (moves_of during)
  pub found : IsAsFound card.packages during (apply_effect (HeapMove Begin) (memory_at card earlier)) (memory_at card earlier).heap.now left

-- what a loss of power leaves after these effects of a command: the heap as it is, where no transaction is open, and else what its
-- beginning found
abbrev pub IsLeft : CardState → List Effect → HeapState → Type 0
IsLeft card es left = (((memory_at card es).heap.begun ≡ false) × (left ≡ (memory_at card es).heap.now))
    ⊎ (((memory_at card es).heap.begun ≡ true) × IsWhatWasFound card es left)

-- what a loss of power leaves within a request
abbrev pub IsLeftBy : CardState → Request → HeapState → Type 0
IsLeftBy card (Command bytes) left = (es : List Effect) × HasTracePrefix (exchange bytes card) card.memory es × IsLeft card es left
IsLeftBy card Reset left = left ≡ card.memory.heap.now
IsLeftBy card (ArmFuse k) left = left ≡ card.memory.heap.now
IsLeftBy card (PlanFault fault) left = left ≡ card.memory.heap.now
