-- An update is a change that the heap can make.
use Rattle.std.proofs.Common.{◌≡◌, ℕ, ◌<◌, ◌≤◌, ◌&&◌, true, false, List, [], ◌∷◌, length, sym, ◌∙◌, ap, arith}
use Rattle.std.proofs.lemmas.Bool.{true≢false}
use Rattle.jc_heap.specs.declared.object.Kind.{Kind}
use Rattle.jc_heap.specs.declared.object.Kind.TheVariants.{Instance, ByteArray, ReferenceArray}
use Rattle.jc_heap.specs.declared.place.Place.{Place}
use Rattle.jc_heap.specs.declared.place.Place.TheVariants.{Cell}
use Rattle.jc_heap.specs.Object.{has_bytes, is_packed}
use Rattle.jc_heap.specs.Heap.{cells, facts}
use Rattle.jc_heap.specs.Place.{AreThere, AreApart, ArePlain, IsBeside, places_of}
use Rattle.jc_heap.specs.HeapLaws.{AreLegalValues}
use Rattle.jc_memory.specs.State.{MemoryState}
use Rattle.jc_memory.specs.Cells.{word_at}
use Rattle.jc_environment.specs.Pins.{IsPersistentWith, IsPin, record_of}
use Rattle.jc_environment.specs.Pins.Updates.{changes_of_update}
use Rattle.jc_environment.proofs.PinWrites.{puts_stand, puts_apart}

no_bytes : (k : Kind) → k ≡ Instance → has_bytes k ≡ true → ⊥
no_bytes k is bytes = true≢false (sym bytes ∙ ap has_bytes is)

no_references : (k : Kind) → k ≡ Instance → k ≡ ReferenceArray → ⊥
no_references k i r = cc

no_array : (k : Kind) → k ≡ Instance → k ≡ ByteArray → ⊥
no_array k i b = cc

other_cells : (r i j : ℕ) → (i ≡ j → ⊥) → Cell r i ≡ Cell r j → ⊥
other_cells r i j other e = let same : i ≡ j = cc in other same

module _ (s : MemoryState) (r : ℕ) (pin : IsPin s r) where
  -- what an update sets besides the value
  abbrev ends : ℕ → List (Place × ℕ)
  ends n = (Cell r 3, n) ∷ (Cell r 2, word_at s r 0) ∷ []

  pub ends_there : (n : ℕ) → AreThere s.heap.now (ends n)
  ends_there n =
      let five = pin.itself.cells in
      (omega (arith, five), λ e. absurd (no_bytes _ pin.itself.kind e), (omega (arith, five), λ e. absurd (no_bytes _ pin.itself.kind e), tt))

  ends_stand : (n : ℕ) → AreLegalValues s.heap.now (ends n)
  ends_stand n = (λ e. absurd (no_references _ pin.itself.kind e), (λ e. absurd (no_references _ pin.itself.kind e), tt))

  ends_apart : (n : ℕ) → AreApart (places_of (ends n))
  ends_apart n = ((λ e. other_cells r 3 2 (λ same. omega (arith, same)) e, tt), (tt, tt))

  other_object : (array : ℕ) → (facts s.heap.now array).kind ≡ ByteArray → array ≡ r → ⊥
  other_object array is e = no_array _ (ap (λ q. (facts s.heap.now q).kind) e ∙ pin.itself.kind) is

  beside_ends : (array n k : ℕ) → (facts s.heap.now array).kind ≡ ByteArray → IsBeside (Cell array k) (places_of (ends n))
  beside_ends array n k is = (λ e. other_object array is cc, (λ e. other_object array is cc, tt))

  abbrev Within : List ℕ → Type 0
  Within bytes = length bytes ≤ word_at s r 1

  room : (b : ℕ) (bs : List ℕ) → Within (b ∷ bs) → IsPersistentWith s ByteArray (word_at s r 1) (word_at s r 4)
  room b bs within = pin.value (omega (arith, within))

  plain_instance : is_packed (facts s.heap.now r) ≡ false
  plain_instance = ap (λ k. has_bytes k && (facts s.heap.now r).packed) pin.itself.kind

  pub ends_plain : (n : ℕ) → ArePlain s.heap.now (places_of (ends n))
  ends_plain n = (plain_instance, (plain_instance, tt))

  pub update_cells : (bytes : List ℕ) → Within bytes → length bytes ≤ length (cells s.heap.now (word_at s r 4))
  update_cells [] within = omega arith
  update_cells (b ∷ bs) within = let array = room b bs within in omega (arith, within, array.cells)

  pub update_stands : (bytes : List ℕ) → Within bytes → AreLegalValues s.heap.now (changes_of_update (record_of s r) r bytes)
  update_stands [] within = ends_stand 0
  update_stands (b ∷ bs) within = puts_stand s.heap.now (word_at s r 4) (room b bs within).kind (ends (length (b ∷ bs))) 0 (b ∷ bs)
      (ends_stand (length (b ∷ bs)))

  pub update_apart : (bytes : List ℕ) → Within bytes → AreApart (places_of (changes_of_update (record_of s r) r bytes))
  update_apart [] within = ends_apart 0
  update_apart (b ∷ bs) within =
      let is = (room b bs within).kind in
      puts_apart s.heap.now (word_at s r 4) is (ends (length (b ∷ bs))) 0 (b ∷ bs) (λ k. beside_ends (word_at s r 4) (length (b ∷ bs)) k is)
      (ends_apart (length (b ∷ bs)))
