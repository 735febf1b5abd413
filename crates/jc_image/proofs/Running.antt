-- Objects of an event that fit one after another, from an address on.
use Rattle.std.proofs.Common.{◌≡◌, ℕ, ◌+◌, ◌≤◌, ◌↔◌, List, [], ◌∷◌, sym, subst}
use Rattle.jc_transient.specs.declared.cell.ClearEvent.{ClearEvent}
use Rattle.jc_transient.specs.declared.cell.ClearEvent.TheVariants.{Reset, Deselect}
use Rattle.jc_heap.specs.Object.{Item}
use Rattle.jc_heap.specs.Heap.{HeapState, area_end, area_limit}
use Rattle.jc_heap.specs.WholeHeap.{cells_in, FitsAt, IsFilledArea}
use Rattle.jc_heap.proofs.AreaRuns.{Run, filled_of, run_of}

-- where nothing is left, the area is filled just if it ends here
module _ (h : HeapState) (event : ClearEvent) (place : ℕ) (left : List (ℕ × Item)) (nothing : left ≡ [])
    (both : Run event (area_limit h event) place left (area_end h event) ↔ Run event (area_limit h event) 0 h.items (area_end h event)) where
  pub filled_at_end : place ≤ area_limit h event → area_end h event ≡ place → IsFilledArea h event
  filled_at_end room end = filled_of h event (both.0 (subst (λ l. Run event (area_limit h event) place l (area_end h event)) (sym nothing) (end, room)))

  pub end_of_filled : IsFilledArea h event → area_end h event ≡ place
  end_of_filled filled = (subst (λ l. Run event (area_limit h event) place l (area_end h event)) nothing (both.1 (run_of h event filled))).0

pub both_filled : (h : HeapState) → IsFilledArea h Reset → IsFilledArea h Deselect → (event : ClearEvent) → IsFilledArea h event
both_filled h reset deselect Reset = reset
both_filled h reset deselect Deselect = deselect

-- one item further
pub run_step : (event : ClearEvent) (here left : List (ℕ × Item)) (at : ℕ) (t : Item) (size place next end : ℕ) (all : Type 0) → here ≡ (at, t) ∷ left
    → FitsAt event size place t → next ≡ place + cells_in event t → (Run event size place here end ↔ all) → (Run event size next left end ↔ all)
run_step event here left at t size place next end all is fits behind both = (
  (λ run. both.0 (subst (λ l. Run event size place l end) (sym is) (fits, subst (λ n. Run event size n left end) behind run))),
  λ a. subst (λ n. Run event size n left end) (sym behind) ((subst (λ l. Run event size place l end) is (both.1 a)).1),
)
