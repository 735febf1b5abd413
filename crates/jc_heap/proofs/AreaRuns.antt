-- The objects of an event in its area, one after another.
use Rattle.std.proofs.Common.{◌≡◌, ℕ, ◌+◌, ◌≤◌, true, List, [], ◌∷◌, ◌++◌, refl, sym, ◌∙◌, ap, arith}
use Rattle.jc_transient.specs.declared.cell.ClearEvent.{ClearEvent}
use Rattle.jc_heap.specs.Object.{Item, facts_of}
use Rattle.jc_heap.specs.Heap.{HeapState, area_end, area_limit}
use Rattle.jc_heap.specs.WholeHeap.{lies_in, cells_in, all_cells_in, FitsAt, IsFilledArea}

-- the items fit one after another from a place on, up to the end, in an area of this size
abbrev pub Run : ClearEvent → ℕ → ℕ → List (ℕ × Item) → ℕ → Type 0
Run event size place [] end = (end ≡ place) × (place ≤ size)
Run event size place (e ∷ es) end = FitsAt event size place e.1 × Run event size (place + cells_in event e.1) es end

pub run_end : (event : ClearEvent) (size place : ℕ) (es : List (ℕ × Item)) (end : ℕ) → Run event size place es end
    → (end ≡ place + all_cells_in event es) × (end ≤ size)
run_end event size place [] end r = (omega (arith, r.0), omega (arith, r.0, r.1))
run_end event size place (e ∷ es) end r =
    let ih : (end ≡ place + cells_in event e.1 + all_cells_in event es) × (end ≤ size) = run_end event size (place + cells_in event e.1) es end r.1 in
    (omega (arith, ih.0), ih.1)

run_places : (event : ClearEvent) (size place : ℕ) (es : List (ℕ × Item)) (end : ℕ) → Run event size place es end →
    (before after : List (ℕ × Item)) (r : ℕ) (t : Item) → es ≡ before ++ (r, t) ∷ after → lies_in event t ≡ true
    → (facts_of t).place ≡ place + all_cells_in event before
run_places event size place [] end run [] after r t is l = absurd (cc)
run_places event size place [] end run (b ∷ before) after r t is l = absurd (cc)
run_places event size place (e ∷ es) end run [] after r t is l =
    let same : e ≡ (r, t) = cc in
    let item : e.1 ≡ t = ap (λ p. p.1) same in
    ap (λ u. (facts_of u).place) (sym item) ∙ run.0.begins (ap (lies_in event) item ∙ l) ∙ (omega arith)
run_places event size place (e ∷ es) end run (b ∷ before) after r t is l =
    let same : e ≡ b = cc in
    let rest : es ≡ before ++ (r, t) ∷ after = cc in
    let ih : (facts_of t).place ≡ place + cells_in event e.1 + all_cells_in event before =
    run_places event size (place + cells_in event e.1) es end run.1 before after r t rest l in
    ih ∙ ap (λ p. place + cells_in event p.1 + all_cells_in event before) same ∙ (omega arith)

-- so they fill the area
pub filled_of : (h : HeapState) (event : ClearEvent) → Run event (area_limit h event) 0 h.items (area_end h event) → IsFilledArea h event
filled_of h event run = record {
  places = λ before after r t is l. run_places event (area_limit h event) 0 h.items (area_end h event) run before after r t is l ∙ (omega arith);
  end = omega (arith, (run_end event (area_limit h event) 0 h.items (area_end h event) run).0);
  fits = (run_end event (area_limit h event) 0 h.items (area_end h event) run).1;
}

run_from : (event : ClearEvent) (size place : ℕ) (es : List (ℕ × Item)) (end : ℕ) → end ≡ place + all_cells_in event es → end ≤ size →
    ((before after : List (ℕ × Item)) (r : ℕ) (t : Item) → es ≡ before ++ (r, t) ∷ after → lies_in event t ≡ true
    → (facts_of t).place ≡ place + all_cells_in event before) → Run event size place es end
run_from event size place [] end e fits places = (omega arith, omega arith)
run_from event size place (e ∷ es) end is fits places = (
  record {
    begins = λ l. places [] es e.0 e.1 refl l ∙ (omega arith);
    ends = omega arith;
  },
  run_from event size (place + cells_in event e.1) es end (omega arith) fits (λ before after r t q l. places (e ∷ before) after r t (ap (λ l. e ∷ l) q) l
      ∙ (omega arith)),
)

pub run_of : (h : HeapState) (event : ClearEvent) → IsFilledArea h event → Run event (area_limit h event) 0 h.items (area_end h event)
run_of h event f = run_from event (area_limit h event) 0 h.items (area_end h event) (omega (arith, f.end)) f.fits
    (λ before after r t is l. f.places before after r t is l ∙ (omega arith))
