-- Cells of an AID object: what they hold, and how they are set.
use Rattle.std.proofs.Common.{◌≡◌, ℕ, zero, suc, ◌+◌, ◌/◌, ◌%◌, ◌<◌, ◌≤◌, Bool, true, false, inl, inr, List, [], ◌∷◌, length, map, drop, get_or, find, Option}
use Rattle.std.proofs.Common.{Some, None, refl, sym, ◌∙◌, ap, subst, arith, if◌then◌else◌}
use Rattle.std.proofs.lemmas.Bool.{cases_eq, cond-true, le-leb}
use Rattle.std.proofs.lemmas.List.{ext_get_or, get_or-drop, get_or-set_other, get_or-set_same}
use Rattle.std.proofs.lemmas.Option.{none-some, same_Some}
use Rattle.std.specs.List.{range_with_len}
use Rattle.std.specs.Prelude.{◌==◌, nat_le, slice_index}
use Rattle.jc_heap.specs.Heap.{HeapState, cells, heap_item_at, set_cell, set_cells}
use Rattle.jc_heap.specs.Packed.{packed_byte, bytes_of_packed}
use Rattle.jc_heap.proofs.Laws.{cells-set_cell, heap_item_at-set_other, length-cells-set_cell}
use Rattle.jc_packages.specs.Sound.{aid_in}
use Rattle.jc_environment.specs.Aid.{aid_byte, aid_of_cells}
use Rattle.jc_api_framework.specs.Aid.Cells.{cells_of_aid}
use Rattle.jc_api_framework.proofs.AidCalls.ReadBack.{read_back}

-- ---- a run of cells that is set

pub item-set_cells : (vs : List ℕ) (h : HeapState) (r i q : ℕ) → (r ≡ q → ⊥) → heap_item_at (set_cells h r i vs) q ≡ heap_item_at h q
item-set_cells [] h r i q ne = refl
item-set_cells (v ∷ vs) h r i q ne = item-set_cells vs (set_cell h r i v) r (suc i) q ne ∙ heap_item_at-set_other h r i v q ne

length-set_cells : (vs : List ℕ) (h : HeapState) (r i : ℕ) → length (cells (set_cells h r i vs) r) ≡ length (cells h r)
length-set_cells [] h r i = refl
length-set_cells (v ∷ vs) h r i = length-set_cells vs (set_cell h r i v) r (suc i) ∙ length-cells-set_cell h r i v r

-- the cells before the run stay
before_run : (vs : List ℕ) (h : HeapState) (r i j : ℕ) → j < i → i + length vs ≤ length (cells h r)
    → get_or (cells (set_cells h r i vs) r) j 0 ≡ get_or (cells h r) j 0
before_run [] h r i j lt le = refl
before_run (v ∷ vs) h r i j lt le =
    let here : i < length (cells h r) = omega (arith, le) in
    let long = length-cells-set_cell h r i v r in
    before_run vs (set_cell h r i v) r (suc i) j (omega (arith, lt)) (omega (arith, le, long))
    ∙ ap (λ xs. get_or xs j 0) (cells-set_cell h r i v here)
    ∙ get_or-set_other (cells h r) i j v 0 (λ same. omega (arith, lt, same))

in_run : (vs : List ℕ) (h : HeapState) (r i j : ℕ) → j < length vs → i + length vs ≤ length (cells h r)
    → get_or (cells (set_cells h r i vs) r) (i + j) 0 ≡ get_or vs j 0
in_run [] h r i j lt le = absurd (omega (arith, lt))
in_run (v ∷ vs) h r i zero lt le =
    let here : i < length (cells h r) = omega (arith, le) in
    let long = length-cells-set_cell h r i v r in
    let none : i + 0 ≡ i = omega arith in
    ap (λ n. get_or (cells (set_cells (set_cell h r i v) r (suc i) vs) r) n 0) none
    ∙ before_run vs (set_cell h r i v) r (suc i) i (omega arith) (omega (arith, le, long))
    ∙ ap (λ xs. get_or xs i 0) (cells-set_cell h r i v here)
    ∙ get_or-set_same (cells h r) i v 0 here
in_run (v ∷ vs) h r i (suc j) lt le =
    let long = length-cells-set_cell h r i v r in
    let place : i + suc j ≡ suc i + j = omega arith in
    ap (λ n. get_or (cells (set_cells (set_cell h r i v) r (suc i) vs) r) n 0) place
    ∙ in_run vs (set_cell h r i v) r (suc i) j (omega (arith, lt)) (omega (arith, le, long))

-- all of them are set
pub all_set : (vs : List ℕ) (h : HeapState) (r : ℕ) → length (cells h r) ≡ length vs → cells (set_cells h r 0 vs) r ≡ vs
all_set vs h r long =
    let now = length-set_cells vs h r 0 in
    ext_get_or 0 (cells (set_cells h r 0 vs) r) vs (now ∙ long) (λ j lt.
    let place : 0 + j ≡ j = omega arith in
    sym (ap (λ n. get_or (cells (set_cells h r 0 vs) r) n 0) place) ∙ in_run vs h r 0 j (omega (arith, lt, now, long)) (omega (arith, long)))

-- ---- what they hold

map_same : (f g : ℕ → ℕ) (xs : List ℕ) → ((x : ℕ) → f x ≡ g x) → map f xs ≡ map g xs
map_same f g [] same = refl
map_same f g (x ∷ xs) same = ap (λ y. y ∷ map f xs) (same x) ∙ ap (λ ys. g x ∷ ys) (map_same f g xs same)

byte_same : (held : List ℕ) (i : ℕ) → packed_byte (drop 1 held) i ≡ aid_byte held i
byte_same held i = ap (λ w. if i % 2 == 0 then w / 256 else w % 256) (get_or-drop 1 held (i / 2) 0)

-- the two readings of an AID object agree
pub aid_bytes : (held : List ℕ) → aid_in held ≡ map (aid_byte held) (range_with_len 0 (slice_index held 0))
unfolding bytes_of_packed
aid_bytes held = map_same (packed_byte (drop 1 held)) (aid_byte held) (range_with_len 0 (slice_index held 0)) (byte_same held)

pub aid_of : (held : List ℕ) → slice_index held 0 ≤ 16 → aid_of_cells held ≡ Some (aid_in held)
unfolding aid_of_cells
aid_of held few = cond-true (nat_le (slice_index held 0) 16) _ _ (le-leb (slice_index held 0) 16 few) ∙ ap Some (sym (aid_bytes held))

-- what was put into one
pub aid_put : (aid : List ℕ) → length aid ≤ 16 → ((i : ℕ) → i < length aid → slice_index aid i < 256) → aid_in (cells_of_aid aid) ≡ aid
aid_put aid few bytes = same_Some (aid_in (cells_of_aid aid)) aid (sym (aid_of (cells_of_aid aid) few) ∙ read_back aid few bytes)

-- ---- a search through numbers in turn that finds nothing

missed : (f : ℕ → Bool) (n k : ℕ) (b : Bool) (rest : Option ℕ) → f n ≡ b → (if b then Some n else rest) ≡ None → (rest ≡ None → (n ≡ k → ⊥) → f k ≡ false)
    → f k ≡ false
missed f n k true rest is e more = absurd (none-some n (sym e))
missed f n k false rest is e more = elim (cases_eq n k) [
  | inl same ↦ subst (λ x. f x ≡ false) same is
  | inr other ↦ more e other
]

pub none_found : (f : ℕ → Bool) (count n k : ℕ) → find f (range_with_len n count) ≡ None → n ≤ k → k < n + count → f k ≡ false
none_found f zero n k e le lt = absurd (omega (arith, le, lt))
none_found f (suc count) n k e le lt = missed f n k (f n) (find f (range_with_len (n + 1) count)) refl e
    (λ rest other. none_found f count (n + 1) k rest (omega (arith, le, other)) (omega (arith, lt)))
