-- What changes the tries of PINs.
use Rattle.std.specs.Prelude.{ℕ, ◌≡◌, true, List, [], ◌∷◌, ◌++◌}
use Rattle.jc_heap.specs.Moves.{WriteNonAtomic, Abort}
use Rattle.jc_memory.specs.State.{MemoryState, Effect, HeapMove}
use Rattle.jc_environment.specs.Pins.{counter}
use Rattle.jc_platform.specs.Tokens.{Tokens}
use Rattle.jc_card.specs.Card.{CardState}
use Rattle.law_theorems.specs.Outcomes.{ComesWithin, memory_at}
use Rattle.law_theorems.specs.Tries.{SetsAnew, is_owner_pin, tries_in}

-- an effect counts the tries of the PIN, updates it or sets it up, or takes back what the transaction changed
abbrev pub Renews : ℕ → Effect → MemoryState → Type 0
Renews q (HeapMove (WriteNonAtomic place v)) m = place ≡ counter q
Renews q (HeapMove Abort) m = Unit {0}
Renews q e m = SetsAnew q e m

-- after effects of a command, one that does nothing of this leaves the tries of an OwnerPIN as they are
abbrev pub TriesChangeByPinCalls : Type 0
TriesChangeByPinCalls = (t : Tokens) (card : CardState) (bytes : List ℕ) (es : List Effect) (e : Effect) (q : ℕ) → ComesWithin t card bytes (es ++ (e ∷ []))
    → is_owner_pin card.packages (memory_at card es).heap.now q ≡ true → (Renews q e (memory_at card es) → ⊥)
    → tries_in (memory_at card (es ++ (e ∷ []))).heap.now q ≡ tries_in (memory_at card es).heap.now q
