-- The objects of an event in its area, one after another.
use Rattle.std.proofs.Common.{◌≡◌, ◌≤◌, ℕ, ◌+◌, ◌/◌, ◌%◌, ◌<◌, ◌==◌, ◌&&◌, nat_lt, Bool, true, false, inl, inr, List, take, drop, length, get_or, refl, sym, ◌∙◌, ap}
use Rattle.std.proofs.Common.{arith, if◌then◌else◌, Some, lit<}
use Rattle.std.proofs.lemmas.Bool.{cases_eq, cases_Bool, eq-eqb, ne_eqb, false≢true, le-ltb, cases_lt, eqb-true, or_cases}
use Rattle.jc_words.specs.Layout.{top_address}
use Rattle.jc_transient.specs.declared.cell.ClearEvent.{ClearEvent}
use Rattle.jc_transient.specs.declared.cell.ClearEvent.TheVariants.{Reset, Deselect}
use Rattle.jc_heap.proofs.Images.{no_event}
use Rattle.jc_heap.specs.Object.{APackage, facts_of, is_header, is_packed_header, event_of, event_number}
use Rattle.jc_heap.specs.Image.{image, package_addresses, is_package}
use Rattle.jc_image.specs.Steps.{HasRecord, size_from, item_from}
use Rattle.jc_heap.specs.WholeHeap.{lies_in, cells_in, FitsAt}
use Rattle.jc_image.proofs.Stepping.{header_here, facts_here, package_here, place_within}

-- a header's event is its number
event_numbered : (n : ℕ) → n < 3 → event_number (event_of n) ≡ n
event_numbered n h = elim (cases_eq n 0) [
  | inl e ↦ rw (eq-eqb n 0 e) (sym e)
  | inr a ↦ elim (cases_eq n 1) [
    | inl e ↦ rw (ne_eqb n 0 a, eq-eqb n 1 e) (sym e)
    | inr b ↦ rw (ne_eqb n 0 a, ne_eqb n 1 b) (omega arith)
  ]
]

and-third : (a b c : Bool) → (a && (b && c)) ≡ true → c ≡ true
and-third true true c e = e
and-third true false c e = absurd (false≢true e)
and-third false b c e = absurd (false≢true e)

event_small : (w : ℕ) → is_header w ≡ true → w / 256 < 3
event_small w e = elim (or_cases (is_packed_header w) (nat_lt 0 (w % 256) && (nat_lt (w % 256) 6 && nat_lt (w / 256) 3)) e) [
  | inl packed ↦ omega (arith, eqb-true (w / 256) 0 (no_event w packed))
  | inr single ↦ elim (cases_lt (w / 256) 3) [
    | inl h ↦ h
    | inr h ↦ absurd (false≢true (sym (le-ltb (w / 256) 3 h) ∙ and-third (nat_lt 0 (w % 256)) (nat_lt (w % 256) 6) (nat_lt (w / 256) 3) single))
  ]
]

none_lies : (event : ClearEvent) (ws : List ℕ) → lies_in event (APackage ws) ≡ false
none_lies Reset ws = refl
none_lies Deselect ws = refl

module _ (ws : List ℕ) (at : ℕ) (event : ClearEvent) (fits : get_or ws top_address 0 ≤ length ws) (here : HasRecord ws at) where
  pub package_lies : is_package (package_addresses (image ws)) at ≡ true → lies_in event (item_from ws at) ≡ false
  package_lies there = ap (lies_in event) (package_here ws at fits here there) ∙ none_lies event (take (size_from ws at) (drop at (image ws)))

  pub package_cells : is_package (package_addresses (image ws)) at ≡ true → cells_in event (item_from ws at) ≡ 0
  package_cells there = ap (λ b. if b then (facts_of (item_from ws at)).length else 0) (package_lies there)

  -- a package has no cells in an area
  pub package_fits : (size place : ℕ) → place ≤ size → is_package (package_addresses (image ws)) at ≡ true → FitsAt event size place (item_from ws at)
  package_fits size place room there = record {
    begins = λ lies. absurd (false≢true (sym (package_lies there) ∙ lies));
    ends = omega (arith, room, package_cells there);
  }

  module _ (small : length ws < 65536) where
    pub object_lies : is_package (package_addresses (image ws)) at ≡ false → lies_in event (item_from ws at)
        ≡ (get_or ws at 0 / 256 == event_number (Some event))
    object_lies other =
        ap (λ f. event_number f.event == event_number (Some event)) (facts_here ws at fits here small other)
        ∙ ap (λ n. n == event_number (Some event)) (event_numbered (get_or ws at 0 / 256)
        (event_small (get_or ws at 0) (header_here ws at fits here small other)))

    -- where its cells lie in the area, it is a transient object
    lies_object : lies_in event (item_from ws at) ≡ true → is_package (package_addresses (image ws)) at ≡ false
    lies_object l = elim (cases_Bool (is_package (package_addresses (image ws)) at)) [
      | inl e ↦ absurd (false≢true (sym (package_lies e) ∙ l))
      | inr e ↦ e
    ]

    positive : (e : ClearEvent) → 0 < event_number (Some e)
    positive Reset = lit< tt
    positive Deselect = lit< tt

    lies_transient : lies_in event (item_from ws at) ≡ true → get_or ws at 0 / 256 ≡ 0 → ⊥
    lies_transient l z =
        let n : get_or ws at 0 / 256 ≡ event_number (Some event) = eqb-true (get_or ws at 0 / 256) (event_number (Some event))
        (sym (object_lies (lies_object l)) ∙ l) in
        omega (arith, positive event)

    pub lies_within : lies_in event (item_from ws at) ≡ true → at + 4 < get_or ws top_address 0
    lies_within l = place_within ws at fits here small (lies_object l) (lies_transient l)

    pub lies_place : lies_in event (item_from ws at) ≡ true → (facts_of (item_from ws at)).place ≡ get_or ws (at + 4) 0
    lies_place l = ap (λ f. f.place) (facts_here ws at fits here small (lies_object l))
        ∙ ap (λ b. if b then 0 else get_or ws (at + 4) 0) (ne_eqb (get_or ws at 0 / 256) 0 (lies_transient l))

    pub lies_cells : lies_in event (item_from ws at) ≡ true → cells_in event (item_from ws at) ≡ get_or ws (at + 3) 0
    lies_cells l = ap (λ b. if b then (facts_of (item_from ws at)).length else 0) l
        ∙ ap (λ f. f.length) (facts_here ws at fits here small (lies_object l))
