-- Bytes that are put into an array as one change.
use Rattle.std.proofs.Common.{◌≡◌, ℕ, suc, ◌+◌, ◌<◌, ◌≤◌, List, [], ◌∷◌, ◌++◌, ◌∙◌, arith}
use Rattle.jc_heap.specs.declared.place.Place.{Place}
use Rattle.jc_heap.specs.declared.place.Place.TheVariants.{Cell}
use Rattle.jc_heap.specs.declared.object.Kind.{Kind}
use Rattle.jc_heap.specs.declared.object.Kind.TheVariants.{ByteArray, ReferenceArray}
use Rattle.jc_heap.specs.Heap.{HeapState, facts}
use Rattle.jc_heap.specs.Place.{AreApart, IsBeside, places_of, cell_changes}
use Rattle.jc_heap.specs.HeapLaws.{AreLegalValues}

-- in whatever stands after them
module _ (h : HeapState) (array : ℕ) (is : (facts h array).kind ≡ ByteArray) (more : List (Place × ℕ)) where
  pub puts_stand : (i : ℕ) (bytes : List ℕ) → AreLegalValues h more → AreLegalValues h (cell_changes array i bytes ++ more)
  puts_stand i [] stand = stand
  puts_stand i (b ∷ bs) stand = (λ e. absurd (bytes_no_references (facts h array).kind is e), puts_stand (suc i) bs stand)
    where
      bytes_no_references : (k : Kind) → k ≡ ByteArray → k ≡ ReferenceArray → ⊥
      bytes_no_references k b r = cc

  beside : (j i : ℕ) (bytes : List ℕ) → j < i → ((k : ℕ) → IsBeside (Cell array k) (places_of more))
      → IsBeside (Cell array j) (places_of (cell_changes array i bytes ++ more))
  beside j i [] lt others = others j
  beside j i (b ∷ bs) lt others = (λ e. let same : j ≡ i = cc in omega (arith, lt, same), beside j (suc i) bs (omega (arith, lt)) others)

  pub puts_apart : (i : ℕ) (bytes : List ℕ) → ((k : ℕ) → IsBeside (Cell array k) (places_of more)) → AreApart (places_of more)
      → AreApart (places_of (cell_changes array i bytes ++ more))
  puts_apart i [] others apart = apart
  puts_apart i (b ∷ bs) others apart = (beside i (suc i) bs (omega arith) others, puts_apart (suc i) bs others apart)
