-- The cells of the transient objects of a whole heap.
use Rattle.std.proofs.Common.{◌≡◌, ℕ, ◌+◌, ◌≤◌, ◌==◌, ◌⊎◌, true, inl, inr, List, [], ◌∷◌, refl, sym, ◌∙◌, ap, arith, Some, if◌then◌else◌}
use Rattle.std.proofs.lemmas.Bool.{cases_eq, eq-eqb, ne_eqb, false≢true}
use Rattle.jc_transient.specs.declared.cell.ClearEvent.{ClearEvent}
use Rattle.jc_transient.specs.declared.cell.ClearEvent.TheVariants.{Reset, Deselect}
use Rattle.jc_heap.specs.Walk.{entry_or}
use Rattle.jc_heap.specs.Object.{Item, APackage, facts_of, event_number}
use Rattle.jc_heap.specs.Heap.{HeapState, heap_item_at, area_end, area_limit}
use Rattle.jc_heap.specs.WholeHeap.{lies_in, cells_in, all_cells_in, IsConsistent, OwnsCells}
use Rattle.jc_heap.proofs.AreaRuns.{Run, run_end, run_of}

-- the item at an address
abbrev found : List (ℕ × Item) → ℕ → Item
found es r = entry_or (APackage []) es r

none_lies : (event : ClearEvent) → lies_in event (APackage []) ≡ true → ⊥
none_lies Reset e = false≢true e
none_lies Deselect e = false≢true e

-- its cells lie between where the items begin and where they end
run_within : (event : ClearEvent) (size place : ℕ) (es : List (ℕ × Item)) (end r : ℕ) → Run event size place es end → lies_in event (found es r) ≡ true →
    (place ≤ (facts_of (found es r)).place) × ((facts_of (found es r)).place + cells_in event (found es r) ≤ end)
run_within event size place [] end r run lies = absurd (none_lies event lies)
run_within event size place (e ∷ es) end r run lies = elim (cases_eq e.0 r) [
  | inl is ↦
      let own : lies_in event e.1 ≡ true = rw (eq-eqb e.0 r is) at lies in
      let begin : (facts_of e.1).place ≡ place = run.0.begins own in
      let last : (end ≡ place + cells_in event e.1 + all_cells_in event es) × (end ≤ size) = run_end event size (place + cells_in event e.1) es end run.1 in
      rw (eq-eqb e.0 r is) (omega (arith, begin), omega (arith, begin, last.0))
  | inr n ↦
      let rest : lies_in event (found es r) ≡ true = rw (ne_eqb e.0 r n) at lies in
      let ih : (place + cells_in event e.1 ≤ (facts_of (found es r)).place) × ((facts_of (found es r)).place + cells_in event (found es r) ≤ end) =
      run_within event size (place + cells_in event e.1) es end r run.1 rest in
      rw (ne_eqb e.0 r n) (omega (arith, ih.0), ih.1)
]

abbrev Apart : ClearEvent → Item → Item → Type 0
Apart event t u = ((facts_of t).place + cells_in event t ≤ (facts_of u).place) ⊎ ((facts_of u).place + cells_in event u ≤ (facts_of t).place)

run_apart : (event : ClearEvent) (size place : ℕ) (es : List (ℕ × Item)) (end r q : ℕ) → (r ≡ q → ⊥) → Run event size place es end → lies_in event (found es r) ≡ true
    → lies_in event (found es q) ≡ true → Apart event (found es r) (found es q)
run_apart event size place [] end r q ne run a b = absurd (none_lies event a)
run_apart event size place (e ∷ es) end r q ne run a b = elim (cases_eq e.0 r) [
  | inl is ↦
      let n : e.0 ≡ q → ⊥ = λ f. ne (sym is ∙ f) in
      let own : lies_in event e.1 ≡ true = rw (eq-eqb e.0 r is) at a in
      let rest : lies_in event (found es q) ≡ true = rw (ne_eqb e.0 q n) at b in
      let begin : (facts_of e.1).place ≡ place = run.0.begins own in
      let within : (place + cells_in event e.1 ≤ (facts_of (found es q)).place) × ((facts_of (found es q)).place + cells_in event (found es q) ≤ end) =
      run_within event size (place + cells_in event e.1) es end q run.1 rest in
      let le : (facts_of e.1).place + cells_in event e.1 ≤ (facts_of (found es q)).place = omega (arith, begin, within.0) in
      rw (eq-eqb e.0 r is, ne_eqb e.0 q n) (inl le)
  | inr n ↦ elim (cases_eq e.0 q) [
    | inl is ↦
        let own : lies_in event e.1 ≡ true = rw (eq-eqb e.0 q is) at b in
        let rest : lies_in event (found es r) ≡ true = rw (ne_eqb e.0 r n) at a in
        let begin : (facts_of e.1).place ≡ place = run.0.begins own in
        let within : (place + cells_in event e.1 ≤ (facts_of (found es r)).place) × ((facts_of (found es r)).place + cells_in event (found es r) ≤ end) =
        run_within event size (place + cells_in event e.1) es end r run.1 rest in
        let le : (facts_of e.1).place + cells_in event e.1 ≤ (facts_of (found es r)).place = omega (arith, begin, within.0) in
        rw (ne_eqb e.0 r n, eq-eqb e.0 q is) (inr le)
    | inr m ↦
        let one : lies_in event (found es r) ≡ true = rw (ne_eqb e.0 r n) at a in
        let two : lies_in event (found es q) ≡ true = rw (ne_eqb e.0 q m) at b in
        rw (ne_eqb e.0 r n, ne_eqb e.0 q m) (run_apart event size (place + cells_in event e.1) es end r q ne run.1 one two)
  ]
]

lies_of : (event : ClearEvent) (t : Item) → (facts_of t).event ≡ Some event → lies_in event t ≡ true
lies_of event t e = ap (λ o. event_number o == event_number (Some event)) e ∙ eq-eqb (event_number (Some event)) (event_number (Some event)) refl

cells_of_event : (event : ClearEvent) (t : Item) → (facts_of t).event ≡ Some event → cells_in event t ≡ (facts_of t).length
cells_of_event event t e = ap (λ b. if b then (facts_of t).length else 0) (lies_of event t e)

pub owns_cells : (h : HeapState) → IsConsistent h → OwnsCells h
unfolding heap_item_at
owns_cells h w = record {
  below = λ r event e.
      let cells : cells_in event (found h.items r) ≡ (facts_of (found h.items r)).length = cells_of_event event (found h.items r) e in
      omega (arith, cells, (run_within event (area_limit h event) 0 h.items (area_end h event) r (run_of h event (w.areas event)) (lies_of event (found h.items r) e)).1);
  apart = λ r q event ne a b.
      let one : cells_in event (found h.items r) ≡ (facts_of (found h.items r)).length = cells_of_event event (found h.items r) a in
      let two : cells_in event (found h.items q) ≡ (facts_of (found h.items q)).length = cells_of_event event (found h.items q) b in
      elim (run_apart event (area_limit h event) 0 h.items (area_end h event) r q ne (run_of h event (w.areas event)) (lies_of event (found h.items r) a)
      (lies_of event (found h.items q) b)) [
        | inl le ↦ inl (omega (arith, le, one))
        | inr le ↦ inr (omega (arith, le, two))
      ];
}
