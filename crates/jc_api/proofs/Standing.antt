-- What stands in a heap after runs of cells and new objects: the same objects, with the same headers.
use Rattle.std.proofs.Common.{◌≡◌, ◌∙◌, ◌+◌, ℕ, suc, false, List, [], ◌∷◌, Option, Some, None, refl, sym, ap}
use Rattle.std.proofs.lemmas.Bool.{true≢false}
use Rattle.jc_transient.specs.declared.cell.ClearEvent.{ClearEvent}
use Rattle.jc_transient.specs.declared.cell.ClearEvent.TheVariants.{Reset, Deselect}
use Rattle.jc_heap.specs.Heap.{HeapState, IsObject, add_object, add_transient, area_end, facts, heap_item_at, is_allocated, set_cell, set_cells, with_area_end}
use Rattle.jc_heap.specs.Object.{Object, is_object, new_transient, transient_size}
use Rattle.jc_heap.specs.declared.object.Kind.{Kind}
use Rattle.jc_heap.proofs.Keeping.{object-header_only}
use Rattle.jc_heap.proofs.Laws.{header_only-set_cell, heap_item_at-add_other, object_named}
use Rattle.jc_memory.specs.Cells.{cells_effect_in}
use Rattle.jc_memory.specs.State.{MemoryState, apply_effect}
use Rattle.jc_memory.proofs.Room.{facts-run}

-- ---- cells that are set

pub object-set_cell : (h : HeapState) (r i v q : ℕ) → IsObject h q → IsObject (set_cell h r i v) q
object-set_cell h r i v q there = sym (object-header_only (heap_item_at (set_cell h r i v) q)) ∙ ap is_object (header_only-set_cell h r i v q)
    ∙ object-header_only (heap_item_at h q) ∙ there

object-run : (h : HeapState) (r i : ℕ) (vs : List ℕ) (q : ℕ) → IsObject h q → IsObject (set_cells h r i vs) q
object-run h r i [] q there = there
object-run h r i (v ∷ vs) q there = object-run (set_cell h r i v) r (suc i) vs q (object-set_cell h r i v q there)

-- wherever the cells are kept
pub facts_after_run : (event : Option ClearEvent) (r i : ℕ) (words : List ℕ) (m : MemoryState) (q : ℕ)
    → facts (apply_effect (cells_effect_in event r i words) m).heap.now q ≡ facts m.heap.now q
facts_after_run None r i words m q = facts-run m.heap.now r i words q
facts_after_run (Some event) r i words m q = refl

pub object_after_run : (event : Option ClearEvent) (r i : ℕ) (words : List ℕ) (m : MemoryState) (q : ℕ) → IsObject m.heap.now q
    → IsObject (apply_effect (cells_effect_in event r i words) m).heap.now q
object_after_run None r i words m q there = object-run m.heap.now r i words q there
object_after_run (Some event) r i words m q there = there

-- ---- a new object

pub item_after_object : (h : HeapState) (o : Object) (n q : ℕ) → is_allocated h h.top ≡ false → IsObject h q
    → heap_item_at (add_object h o n) q ≡ heap_item_at h q
item_after_object h o n q free there = heap_item_at-add_other h o n q
    (λ same. true≢false (sym (object_named h q there) ∙ ap (is_allocated h) (sym same) ∙ free))

ended : (h : HeapState) (event : ClearEvent) (end q : ℕ) → heap_item_at (with_area_end h event end) q ≡ heap_item_at h q
unfolding heap_item_at
ended h Reset end q = refl
ended h Deselect end q = refl

-- a transient one
pub item_after_transient : (h : HeapState) (kind : Kind) (event : ClearEvent) (class owner long q : ℕ) → is_allocated h h.top ≡ false → IsObject h q
    → heap_item_at (add_transient h kind event class owner long) q ≡ heap_item_at h q
unfolding add_transient
item_after_transient h kind event class owner long q free there =
    let o : Object = new_transient kind event class owner long (area_end h event) in
    ended (add_object h o transient_size) event (area_end h event + long) q ∙ item_after_object h o transient_size q free there

pub object_after_transient : (h : HeapState) (kind : Kind) (event : ClearEvent) (class owner long q : ℕ) → is_allocated h h.top ≡ false → IsObject h q
    → IsObject (add_transient h kind event class owner long) q
object_after_transient h kind event class owner long q free there = ap is_object (item_after_transient h kind event class owner long q free there) ∙ there
