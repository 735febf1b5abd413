-- What stands in the heap of a new image stands apart.
use Rattle.std.proofs.Common.{ℕ, List, [], ◌∷◌, refl, sym, arith}
use Rattle.std.proofs.lemmas.Bool.{true≢false}
use Rattle.jc_transient.specs.declared.cell.ClearEvent.TheVariants.{Reset}
use Rattle.jc_heap.specs.Heap.{HeapState, heap_item_at, is_allocated}
use Rattle.jc_image.specs.declared.laying.ImageRoom.{ImageRoom}
use Rattle.jc_image.specs.Laying.{unsealed_heap}
use Rattle.jc_platform.specs.Tokens.{Tokens}
use Rattle.jc_card.specs.Fixed.{class_number_of, with_objects}
use Rattle.jc_card.specs.ProductImages.{new_card_heap, objects_in}
use Rattle.jc_card.proofs.FixedObjects.{IsBelow, below-one, with_one}
use Rattle.law_soundness.specs.Separation.{StandApart}
use Rattle.law_theorems.proofs.Separation.{transient_apart}

objects_apart : (t : Tokens) (h : HeapState) (os : List _) → IsBelow h → StandApart h → StandApart (with_objects t h os)
unfolding is_allocated
objects_apart t h [] b s = s
objects_apart t h (o ∷ os) b s =
    objects_apart t (with_one t h o) os (below-one t h o b) (transient_apart h o.kind Reset (class_number_of t o.class) 0 o.cells (λ r high. b.absent r high) s)

pub new_apart : (n : ℕ) (room : ImageRoom) (text : List ℕ) (t : Tokens) → StandApart (new_card_heap n room text t)
unfolding heap_item_at is_allocated
new_apart n room text t =
    let bare : StandApart (unsealed_heap n room text) = record {
      start = omega arith;
      first = λ r there. absurd (true≢false (sym there));
      below = λ r there. absurd (true≢false (sym there));
      apart = λ r q there behind lt. absurd (true≢false (sym there));
    } in
    let s = objects_apart t (unsealed_heap n room text) (objects_in room t) (record { absent = λ q le. refl; none = λ q le. refl }) bare in
    record { start = s.start; first = s.first; below = s.below; apart = s.apart }
