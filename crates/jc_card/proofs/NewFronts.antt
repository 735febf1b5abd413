-- The first words of a new image.
use Rattle.std.proofs.Common.{◌≡◌, ◌∙◌, ℕ, ◌+◌, ◌*◌, List, [], ◌∷◌, length, slice_index, ap, subst, refl, arith}
use Rattle.jc_words.specs.Layout.{version}
use Rattle.jc_words.specs.Image.{journal_start}
use Rattle.jc_transient.specs.State.{AreSizes}
use Rattle.jc_transient.specs.declared.cell.ClearEvent.TheVariants.{Reset}
use Rattle.jc_heap.specs.declared.object.Kind.{Kind}
use Rattle.jc_heap.specs.Heap.{HeapState, add_object, add_transient}
use Rattle.jc_heap.specs.WholeHeap.{IsConsistent}
use Rattle.jc_image.specs.declared.laying.ImageRoom.{ImageRoom}
use Rattle.jc_image.specs.Laying.{first_free, first_words_of, unsealed_heap}
use Rattle.jc_platform.specs.Tokens.{Tokens}
use Rattle.jc_environment.specs.declared.objects.FixedObject.{FixedObject}
use Rattle.jc_environment.specs.Objects.{cells_of_all, fixed_size}
use Rattle.jc_card.specs.Fixed.{class_number_of, with_objects}
use Rattle.jc_card.specs.ProductImages.{new_card_heap, new_front, objects_in}
use Rattle.jc_card.proofs.FixedObjects.{end-add, head-new_card_heap, lasting-all, text-new_card_heap, top-add}
use Rattle.jc_environment.proofs.ObjectCounts.{count_sized}
use Rattle.jc_transient.specs.State.{buffer_told}

-- what a new transient object leaves
module _ (h : HeapState) (kind : Kind) (class owner n : ℕ) where
  counts-add : (add_transient h kind Reset class owner n).counts ≡ h.counts
  unfolding add_transient add_object
  counts-add = refl

  other_end-add : (add_transient h kind Reset class owner n).area_ends.1 ≡ h.area_ends.1
  unfolding add_transient add_object
  other_end-add = refl

-- what the objects of the runtime environment leave
counts-all : (t : Tokens) (h : HeapState) (os : List FixedObject) → (with_objects t h os).counts ≡ h.counts
counts-all t h [] = refl
counts-all t h (o ∷ os) = counts-all t (add_transient h o.kind Reset (class_number_of t o.class) 0 o.cells) os
    ∙ counts-add h o.kind (class_number_of t o.class) 0 o.cells

other_end-all : (t : Tokens) (h : HeapState) (os : List FixedObject) → (with_objects t h os).area_ends.1 ≡ h.area_ends.1
other_end-all t h [] = refl
other_end-all t h (o ∷ os) = other_end-all t (add_transient h o.kind Reset (class_number_of t o.class) 0 o.cells) os
    ∙ other_end-add h o.kind (class_number_of t o.class) 0 o.cells

capacity-add : (h : HeapState) (kind : Kind) (class owner n : ℕ) → (add_transient h kind Reset class owner n).capacity ≡ h.capacity
unfolding add_transient add_object
capacity-add h kind class owner n = refl

capacity-all : (t : Tokens) (h : HeapState) (os : List FixedObject) → (with_objects t h os).capacity ≡ h.capacity
capacity-all t h [] = refl
capacity-all t h (o ∷ os) = capacity-all t (add_transient h o.kind Reset (class_number_of t o.class) 0 o.cells) os
    ∙ capacity-add h o.kind (class_number_of t o.class) 0 o.cells

-- what they take
top-all : (t : Tokens) (h : HeapState) (os : List FixedObject) → (with_objects t h os).top ≡ h.top + 5 * length os
top-all t h [] = omega arith
top-all t h (o ∷ os) =
    let more = top-all t (add_transient h o.kind Reset (class_number_of t o.class) 0 o.cells) os in
    let one = top-add h o.kind (class_number_of t o.class) 0 o.cells in
    omega (arith, more, one)

end-all : (t : Tokens) (h : HeapState) (os : List FixedObject) → (with_objects t h os).area_ends.0 ≡ h.area_ends.0 + cells_of_all os
end-all t h [] = omega arith
end-all t h (o ∷ os) =
    let more = end-all t (add_transient h o.kind Reset (class_number_of t o.class) 0 o.cells) os in
    let one = end-add h o.kind (class_number_of t o.class) 0 o.cells in
    omega (arith, more, one)

pub front-new : (n : ℕ) (room : ImageRoom) (text : List ℕ) (t : Tokens) → first_words_of (new_card_heap n room text t) ≡ new_front n room (length text) t
front-new n room text t =
    let h : HeapState = unsealed_heap n room text in
    let head = head-new_card_heap n room text t in
    let counts = counts-all t h (objects_in room t) in
    let lasting = lasting-all t h (objects_in room t) in
    let top : (with_objects t h (objects_in room t)).top ≡ first_free (length text) + fixed_size t =
    omega (arith, top-all t h (objects_in room t), count_sized t (buffer_told room.buffer)) in
    let first_end : (with_objects t h (objects_in room t)).area_ends.0 ≡ cells_of_all (objects_in room t) = omega (arith, end-all t h (objects_in room t)) in
    let second_end = other_end-all t h (objects_in room t) in
    let long = ap (λ (l : List ℕ). length l) (text-new_card_heap n room text t) in
    let capacities = capacity-all t h (objects_in room t) in
    λ i. (head i).0 ∷ version ∷ (head i).1 ∷ 0 ∷ slice_index (lasting i) 0 ∷ top i ∷ (counts i).0 ∷ (counts i).1 ∷ first_end i ∷ second_end i
    ∷ long i ∷ capacities i ∷ journal_start ((head i).1) (capacities i) ∷ slice_index (lasting i) 1 ∷ slice_index (lasting i) 2 ∷ slice_index (lasting i) 3 ∷ []

-- so the sizes that a new image says are those of its room
pub sizes-new_card_heap : (n : ℕ) (room : ImageRoom) (text : List ℕ) (t : Tokens) → IsConsistent (new_card_heap n room text t)
    → AreSizes room.cells room.buffer
sizes-new_card_heap n room text t whole = subst (λ (l : List ℕ). AreSizes (slice_index l 1) (slice_index l 2))
    (lasting-all t (unsealed_heap n room text) (objects_in room t)) whole.sizes
