-- What referred before a change refers after it.
use Rattle.std.proofs.Common.{ℕ, false, inl, inr, ◌≡◌, ◌∙◌}
use Rattle.jc_transient.specs.declared.cell.ClearEvent.{ClearEvent}
use Rattle.jc_heap.specs.declared.object.Kind.{Kind}
use Rattle.jc_heap.specs.Object.{new_transient, transient_size}
use Rattle.jc_heap.specs.Heap.{HeapState, add_object, add_transient, area_end, heap_item_at, is_allocated}
use Rattle.jc_heap.proofs.Keeping.{reference-add}
use Rattle.law_soundness.specs.LivingReferences.{KeepsReferences}
use Rattle.law_soundness.proofs.Frames.{SameHeaders, end_headers, same_object}

pub headers_keep : (h g : HeapState) → SameHeaders h g → KeepsReferences h g
headers_keep h g same r (inl zero) = inl zero
headers_keep h g same r (inr there) = inr (same_object (heap_item_at g r) (heap_item_at h r) (same r) ∙ there)

pub transient_keeps : (h : HeapState) (kind : Kind) (event : ClearEvent) (class owner long : ℕ) → is_allocated h h.top ≡ false
    → KeepsReferences h (add_transient h kind event class owner long)
unfolding add_transient
transient_keeps h kind event class owner long free r refers = headers_keep
    (add_object h (new_transient kind event class owner long (area_end h event)) transient_size) _
    (end_headers (add_object h (new_transient kind event class owner long (area_end h event)) transient_size) event _) r
    (reference-add h (new_transient kind event class owner long (area_end h event)) transient_size free r refers)
