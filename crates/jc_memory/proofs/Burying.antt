-- Dead references.
use Rattle.std.proofs.Common.{◌≡◌, ℕ, zero, ◌≤◌, Bool, true, false, refl, sym, subst, ◌∙◌, ap, inl, inr, if◌then◌else◌}
use Rattle.std.proofs.lemmas.Bool.{ltb-true, ltb-false, cases_Bool, true≢false}
use Rattle.std.proofs.Math.ListN.{get_or-map}
use Rattle.std.specs.Prelude.{nat_lt, pos}
use Rattle.jc_transient.specs.declared.cell.CellValue.TheVariants.{Reference, Short}
use Rattle.jc_transient.specs.declared.cell.ClearEvent.{ClearEvent}
use Rattle.jc_transient.specs.declared.cell.ClearEvent.TheVariants.{Reset, Deselect}
use Rattle.jc_transient.specs.Cell.{without_dead}
use Rattle.jc_transient.specs.State.{RamState, cell_at}
use Rattle.jc_heap.specs.Heap.{HeapState, IsObject, is_allocated, SameShape, KeepsBelowTop}
use Rattle.jc_heap.specs.WholeHeap.{IsReference}
use Rattle.jc_heap.specs.HeapLaws.{IsConsistentHeap}
use Rattle.jc_heap.specs.Object.{is_object}
use Rattle.jc_heap.proofs.Laws.{heap_item_at-absent}
use Rattle.jc_memory.specs.ProgramLaws.{live_or_null, NullsDeadReferences}
use Rattle.jc_memory.specs.State.{ram_without_dead}

-- where an object stands something stands
object_named : (h : HeapState) (r : ℕ) → IsObject h r → is_allocated h r ≡ true
object_named h r there = elim (cases_Bool (is_allocated h r)) [
  | inl e ↦ e
  | inr e ↦ absurd (true≢false (sym there ∙ ap is_object (heap_item_at-absent h r e)))
]

below_top : (d h : HeapState) (r : ℕ) → SameShape d h → ((q : ℕ) → d.top ≤ q → is_allocated d q ≡ false) → (b : Bool) → nat_lt r d.top ≡ b
    → is_allocated d r ≡ (if b then is_allocated h r else false)
below_top d h r shape end true e = sym (shape.names r (ltb-true r d.top e))
below_top d h r shape end false e = end r (ltb-false r d.top e)

-- null is null, whatever is asked of it
abbrev null_if : Bool → ℕ
null_if b = if b then 0 else 0

null_either : (b : Bool) → null_if b ≡ zero
null_either true = refl
null_either false = refl

same : (b n m : Bool) (r : ℕ) → n ≡ true → m ≡ (if b then n else false) → (if b then r else 0) ≡ (if m then r else 0)
same true n m r there e = sym (ap (λ x. if x then r else 0) (e ∙ there))
same false n m r there e = sym (ap (λ x. if x then r else 0) e)

buried_is : (old new : HeapState) → KeepsBelowTop old new → (r : ℕ) → IsReference old r → (if nat_lt r new.top then r else 0) ≡ live_or_null new r
buried_is old new keeps r (inl z) = subst (λ q. (if nat_lt q new.top then q else 0) ≡ live_or_null new q) (sym z)
    (null_either (nat_lt 0 new.top) ∙ sym (null_either (is_allocated new 0)))
buried_is old new keeps r (inr there) = same (nat_lt r new.top) (is_allocated old r) (is_allocated new r) r (object_named old r there) (keeps r)

-- so is each transient cell
buried_at : (top : ℕ) (ram : RamState) (event : ClearEvent) (place : ℕ) → cell_at (ram_without_dead top ram) event place
    ≡ without_dead top (cell_at ram event place)
buried_at top ram Reset place = get_or-map (without_dead top) ram.reset_cells place (Short (pos 0))
buried_at top ram Deselect place = get_or-map (without_dead top) ram.deselect_cells place (Short (pos 0))

kept_below : (d h : HeapState) → IsConsistentHeap d → SameShape d h → KeepsBelowTop h d
kept_below d h whole shape r = below_top d h r shape whole.end (nat_lt r d.top) refl

pub buries : NullsDeadReferences
buries = record {
  below = λ v whole shape. kept_below v.durable v.now whole shape;
  dead = λ old new keeps r refers. ap Reference (buried_is old new keeps r refers);
  transient = λ s whole shape event place r is refers. buried_at s.heap.durable.top s.ram event place ∙ ap (without_dead s.heap.durable.top) is
      ∙ ap Reference (buried_is s.heap.now s.heap.durable (kept_below s.heap.durable s.heap.now whole shape) r refers);
}
