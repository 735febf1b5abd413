-- The objects with which a heap begins.
use Rattle.std.specs.Prelude.{ℕ, ◌≡◌, List, [], ◌∷◌, Some}
use Rattle.jc_heap.specs.declared.object.Facts.{Facts}
use Rattle.jc_heap.specs.Heap.{HeapState, facts, next_object}

-- after an address stand objects with these headers, one after another
abbrev pub HeadersFollow : HeapState → ℕ → List Facts → Type 0
HeadersFollow h r [] = Unit {0}
HeadersFollow h r (f ∷ more) = (q : ℕ) × (next_object h r ≡ Some q) × (facts h q ≡ f) × HeadersFollow h q more

-- the first objects of the heap have these headers
unfoldable pub HeapBeginsWith : HeapState → List Facts → Type 0
HeapBeginsWith h first = HeadersFollow h 0 first
