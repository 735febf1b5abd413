-- A new object is there.
use Rattle.std.proofs.Common.{◌≡◌, ℕ, ◌+◌, false, Option, Some, None, sym, ◌∙◌, ap, subst}
use Rattle.jc_transient.specs.declared.cell.ClearEvent.{ClearEvent}
use Rattle.jc_heap.specs.declared.object.Kind.{Kind}
use Rattle.jc_heap.specs.Heap.{HeapState, IsObject, area_end, add_object, add_transient, heap_item_at, is_allocated, with_area_end}
use Rattle.jc_heap.specs.Object.{is_object, new_transient, transient_size}
use Rattle.jc_heap.proofs.Laws.{heap_item_at-add_object}
use Rattle.jc_memory.specs.declared.making.NewObject.{NewObject}
use Rattle.jc_memory.specs.Making.{creation_move}
use Rattle.jc_transient.specs.Owners.{owner_number}
use Rattle.jc_memory.specs.State.{MemoryState, HeapMove, IsNew, apply_effect}
use Rattle.law_soundness.proofs.Frames.{end_headers, same_object}

transient_there : (h : HeapState) (kind : Kind) (event : ClearEvent) (class owner long : ℕ) → is_allocated h h.top ≡ false
    → IsObject (add_transient h kind event class owner long) h.top
unfolding add_transient
transient_there h kind event class owner long free =
    let g : HeapState = add_object h (new_transient kind event class owner long (area_end h event)) transient_size in
    same_object (heap_item_at (with_area_end g event (area_end h event + long)) h.top) (heap_item_at g h.top)
    (end_headers g event (area_end h event + long) h.top)
    ∙ ap is_object (heap_item_at-add_object h (new_transient kind event class owner long (area_end h event)) transient_size free)

pub new_there : (event : Option ClearEvent) (o : NewObject) (m : MemoryState) (r : ℕ) → IsNew m.heap.now r
    → IsObject (apply_effect (HeapMove (creation_move event o)) m).heap.now r
new_there None o m r new = subst (IsObject (apply_effect (HeapMove (creation_move None o)) m).heap.now) (sym new.chosen)
    (ap is_object (heap_item_at-add_object m.heap.now _ _ (subst (λ q. is_allocated m.heap.now q ≡ false) new.chosen new.free)))
new_there (Some event) o m r new = subst (IsObject (apply_effect (HeapMove (creation_move (Some event) o)) m).heap.now) (sym new.chosen)
    (transient_there m.heap.now o.kind event o.class (owner_number o.owner) o.length (subst (λ q. is_allocated m.heap.now q ≡ false) new.chosen new.free))
