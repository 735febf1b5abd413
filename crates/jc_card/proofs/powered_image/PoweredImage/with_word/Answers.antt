use Rattle.std.proofs.Common.{◌∙◌, ◌-◌, ◌*◌, ◌/◌, ℕ, subst, sym}
use Rattle.jc_heap.specs.Heap.{HeapState, IsObject}
use Rattle.jc_packages.proofs.SetCells.{object_same}
use Rattle.jc_card.specs.PoweredImage.{heap_in}
use Rattle.jc_card.proofs.powered_image.PoweredImage.with_word.Goals as goal

pub with_cell-requires-then-place-length : goal.with_cell-requires-then-place-length
with_cell-requires-then-place-length c =
    let r : ℕ = c.in_ok-object.object in
    subst (λ (h : HeapState). IsObject h r) (sym c.in_ok-next.ensures) (object_same (heap_in c.args.self) r _ _ r ∙ c.in_ok-object.ensures.there)
