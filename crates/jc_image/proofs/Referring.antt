-- The references that the cells of a heap hold.
use Rattle.std.proofs.Common.{◌≡◌, ℕ, zero, suc, ◌+◌, ◌/◌, ◌%◌, ◌<◌, ◌≤◌, ◌||◌, ◌==◌, if◌then◌else◌, not, Bool, true, false, inl, inr, List, [], ◌∷◌, length, get_or, drop, map}
use Rattle.std.proofs.Common.{refl, sym, ◌∙◌, ap, subst, arith}
use Rattle.std.proofs.lemmas.Bool.{cases_eq, cases_Bool, eqb-true, eq-eqb, ne_eqb, false≢true}
use Rattle.jc_words.specs.Layout.{top_address}
use Rattle.jc_heap.specs.declared.object.Kind.TheVariants.{Instance, BooleanArray, ByteArray, ShortArray, ReferenceArray}
use Rattle.jc_heap.specs.Walk.{Sizes, records_from, entry_or, has_entry}
use Rattle.jc_heap.specs.Object.{Item, APackage, facts_of, cells_of, kind_of, is_packed_header}
use Rattle.jc_heap.specs.Image.{image, base, package_addresses, is_package, sizes, item, item_entry}
use Rattle.jc_heap.specs.Heap.{HeapState, heap_of, read_image, heap_item_at}
use Rattle.jc_image.specs.Steps.{HasRecord, item_from}
use Rattle.jc_heap.specs.WholeHeap.{IsReference, HoldsReferences}
use Rattle.jc_heap.proofs.Tables.{has-map}
use Rattle.jc_heap.proofs.Records.{has_behind}
use Rattle.jc_image.proofs.Stepping.{package_here, facts_here, cells_long, cell_here, transient_cells}

-- a kind's number
kind_five : (n : ℕ) → kind_of n ≡ ReferenceArray → n ≡ 5
kind_five n e = by_tests (n == 2 || n == 6) (n == 3 || n == 7) (n == 4) (n == 5) refl e
  where
    by_tests : (booleans bytes shorts references : Bool) → (n == 5) ≡ references →
        (if booleans then BooleanArray else (if bytes then ByteArray else (if shorts then ShortArray else (if references then ReferenceArray else Instance))))
        ≡ ReferenceArray → n ≡ 5
    by_tests true bytes shorts references is e = absurd (cc)
    by_tests false true shorts references is e = absurd (cc)
    by_tests false false true references is e = absurd (cc)
    by_tests false false false true is e = eqb-true n 5 is
    by_tests false false false false is e = absurd (cc)

-- the record at an address
module _ (h : HeapState) (ws : List ℕ) (at : ℕ) (fits : get_or ws top_address 0 ≤ length ws) (here : HasRecord ws at) where
  -- a package has no cells
  pub holds_package : is_package (package_addresses (image ws)) at ≡ true → HoldsReferences h (item_from ws at)
  holds_package there kind i lt =
      let none : i < 0 = subst (λ t. i < length (cells_of t)) (package_here ws at fits here there) lt in
      absurd (omega arith)

  module _ (small : length ws < 65536) (other : is_package (package_addresses (image ws)) at ≡ false) where
    kind_here : (facts_of (item_from ws at)).kind ≡ kind_of (get_or ws at 0 % 256)
    kind_here = ap (λ f. f.kind) (facts_here ws at fits here small other)

    -- another object has no references
    pub holds_other : (get_or ws at 0 ≡ 5 → ⊥) → HoldsReferences h (item_from ws at)
    holds_other ne kind i lt = elim (cases_eq (get_or ws at 0 / 256) 0) [
      | inl e ↦ let five : get_or ws at 0 % 256 ≡ 5 = kind_five (get_or ws at 0 % 256) (sym kind_here ∙ kind) in absurd (ne (omega arith))
      | inr n ↦ let none : i < 0 = omega (arith, lt, transient_cells ws at fits here small other n) in absurd (omega arith)
    ]

    module _ (five : get_or ws at 0 ≡ 5) where
      persistent : get_or ws at 0 / 256 ≡ 0
      persistent = omega arith

      single : is_packed_header (get_or ws at 0) ≡ false
      single = ap is_packed_header five

      is_array : (facts_of (item_from ws at)).kind ≡ ReferenceArray
      is_array = kind_here ∙ ap (λ w. kind_of (w % 256)) five

      pub cells_count : length (cells_of (item_from ws at)) ≡ get_or ws (at + 3) 0
      cells_count = cells_long ws at fits here small other persistent

      pub cell_within_at : (i : ℕ) → i < get_or ws (at + 3) 0 → at + 4 + i < get_or ws top_address 0
      cell_within_at i lt = omega (arith, (cell_here ws at fits here small other persistent single i (omega (arith, cells_count, lt))).0)

      cell_is : (i : ℕ) → i < length (cells_of (item_from ws at)) → get_or (cells_of (item_from ws at)) i 0 ≡ get_or ws (at + 4 + i) 0
      cell_is i lt = (cell_here ws at fits here small other persistent single i lt).1 ∙ ap (λ a. get_or ws a 0) (omega arith)

      pub holds_of : ((i : ℕ) → i < get_or ws (at + 3) 0 → IsReference h (get_or ws (at + 4 + i) 0)) → HoldsReferences h (item_from ws at)
      holds_of all kind i lt = subst (IsReference h) (sym (cell_is i lt)) (all i (omega (arith, cells_count, lt)))

      pub of_holds : HoldsReferences h (item_from ws at) → (i : ℕ) → i < get_or ws (at + 3) 0 → IsReference h (get_or ws (at + 4 + i) 0)
      of_holds holds i lt =
          let there : i < length (cells_of (item_from ws at)) = omega (arith, cells_count, lt) in
          subst (IsReference h) (cell_is i there) (holds is_array i there)

-- all items hold references
abbrev pub AllHold : HeapState → List (ℕ × Item) → Type 0
AllHold h [] = Unit {0}
AllHold h (e ∷ es) = HoldsReferences h e.1 × AllHold h es

-- no address twice
abbrev Apart : List (ℕ × Item) → Type 0
Apart [] = Unit {0}
Apart (e ∷ es) = (has_entry es e.0 ≡ false) × Apart es

apart_cut : (ps : List ℕ) (more : Sizes) (s at : ℕ) (ws : List ℕ) → Apart (map (item_entry ps) (records_from more s at ws))
apart_cut ps more s at [] = tt
apart_cut ps more (suc s) at (w ∷ ws) = apart_cut ps more s (suc at) ws
apart_cut ps more zero at (w ∷ ws) = (
  has-map (item ps) (records_from more (more at (w ∷ ws)) (suc at) ws) at ∙ elim (cases_Bool
      (has_entry (records_from more (more at (w ∷ ws)) (suc at) ws) at)) [
        | inl e ↦ let b : suc at + more at (w ∷ ws) ≤ at = has_behind more (more at (w ∷ ws)) (suc at) ws at e in absurd (omega arith)
        | inr e ↦ e
      ],
  apart_cut ps more (more at (w ∷ ws)) (suc at) ws,
)

all_at : (h : HeapState) (es : List (ℕ × Item)) → AllHold h es → (r : ℕ) → HoldsReferences h (entry_or (APackage []) es r)
all_at h [] all r = λ kind i lt. absurd (omega arith)
all_at h (e ∷ es) all r = elim (cases_eq e.0 r) [
  | inl is ↦ rw (eq-eqb e.0 r is) all.0
  | inr n ↦ rw (ne_eqb e.0 r n) (all_at h es all.1 r)
]

all_from : (h : HeapState) (es : List (ℕ × Item)) → Apart es → ((r : ℕ) → has_entry es r ≡ true → HoldsReferences h (entry_or (APackage []) es r))
    → AllHold h es
all_from h [] apart all = tt
all_from h (e ∷ es) apart all = (
  rw (eq-eqb e.0 e.0 refl) at (all e.0 (ap (λ b. b || has_entry es e.0) (eq-eqb e.0 e.0 refl))),
  all_from h es apart.1 (λ r there.
      let n : e.0 ≡ r → ⊥ = λ is. false≢true (sym apart.0 ∙ ap (has_entry es) is ∙ there) in
      rw (ne_eqb e.0 r n) at (all r (ap (λ b. b || has_entry es r) (ne_eqb e.0 r n) ∙ there))),
)

pub all_of_list : (h : HeapState) → AllHold h h.items → (r : ℕ) → HoldsReferences h (heap_item_at h r)
unfolding heap_item_at
all_of_list h all r = all_at h h.items all r

pub list_of_all : (ws : List ℕ) → ((r : ℕ) → HoldsReferences (heap_of ws) (heap_item_at (heap_of ws) r)) → AllHold (heap_of ws) ((heap_of ws).items)
unfolding heap_item_at read_image
list_of_all ws all = all_from (heap_of ws) ((heap_of ws).items) (apart_cut (package_addresses (image ws)) (sizes (package_addresses (image ws))) 0
    (base (image ws)) (drop (base (image ws)) (image ws))) (λ r there. all r)

pub not_true : (b : Bool) → not b ≡ true → b ≡ false
not_true true e = absurd (false≢true e)
not_true false e = refl
