-- A new image is one that the product makes.
use Rattle.std.proofs.Common.{◌≡◌, ◌∙◌, ℕ, ◌≤◌, Bool, List, length, sym, ap, subst, Ok, Err}
use Rattle.std.specs.Prelude.{Result, IfOk}
use Rattle.jc_words.specs.Refusals.{Refusals}
use Rattle.jc_words.specs.Layout.{least_size}
use Rattle.jc_commit.specs.Image.{IsGoodLog, recovered_of}
use Rattle.jc_transient.specs.State.{AreSizes}
use Rattle.jc_heap.specs.Image.{IsWellFormed}
use Rattle.jc_heap.specs.Heap.{HeapState, HeapView, heap_of}
use Rattle.jc_heap.specs.Heap.Store.{HoldsHeap}
use Rattle.jc_image.specs.declared.laying.ImageRoom.{ImageRoom}
use Rattle.jc_platform.specs.Tokens.{Tokens}
use Rattle.jc_platform.specs.Table.{Reads}
use Rattle.jc_card.specs.ProductImages.{IsCardHeap, IsMade, new_card_heap}
use Rattle.jc_card.proofs.FittingImages.{fits-new_card_heap}
use Rattle.jc_card.proofs.FixedObjects.{begins-new_card_heap, head-new_card_heap, text-new_card_heap, whole-new_card_heap}

card-new_card_heap : (n : ℕ) (room : ImageRoom) (text : List ℕ) (t : Tokens) → least_size ≤ n → AreSizes room.cells room.buffer → Reads text (Ok t)
    → IsCardHeap n (new_card_heap n room text t)
card-new_card_heap n room text t enough sizes reads = record {
  head = head-new_card_heap n room text t;
  enough = enough;
  platform = (t, subst (λ l. Reads l (Ok t)) (sym (text-new_card_heap n room text t)) reads, begins-new_card_heap n room text t, fits-new_card_heap n room text t);
  whole = whole-new_card_heap n room text t sizes;
}

pub made-new_card_heap : (w : List ℕ) (n : ℕ) (room : ImageRoom) (text : List ℕ) (t : Tokens) → IsGoodLog w → IsWellFormed (recovered_of w)
    → heap_of (recovered_of w) ≡ new_card_heap n room text t → length w ≡ n → least_size ≤ n → AreSizes room.cells room.buffer
    → Reads text (Ok t) → IsMade w
made-new_card_heap w n room text t log laid heap size enough sizes reads = record {
  log = log;
  laid = laid;
  heap = subst (λ k. IsCardHeap k (heap_of (recovered_of w))) (sym size) (subst (IsCardHeap n) (sym heap) (card-new_card_heap n room text t enough sizes reads));
}

-- a store of a heap has as many words as the heap states
pub long_of : (w : List ℕ) (d : Bool) (p : ℕ) (r : Refusals) (v : HeapView) (n : ℕ) → HoldsHeap w d p r v → v.durable.head.1 ≡ n → length w ≡ n
long_of w d p r v n holds told = sym holds.good.size.told ∙ ap (λ (h : ℕ × ℕ). h.1) holds.head ∙ told

pub made_if : {A E : Type 0} (words : A → List ℕ) (down : A → Bool) (passed : A → ℕ) (refusals : A → Refusals) (r : Result A E) (v : HeapView) (n : ℕ) (room : ImageRoom) (text : List ℕ)
    (t : Tokens) →
    IfOk r (λ s. HoldsHeap (words s) (down s) (passed s) (refusals s) v) → v.durable ≡ new_card_heap n room text t → least_size ≤ n
    → AreSizes room.cells room.buffer → Reads text (Ok t)
    → IfOk r (λ s. IsMade (words s))
made_if words down passed refusals (Ok s) v n room text t holds heap enough sizes reads =
    made-new_card_heap (words s) n room text t holds.good holds.laid (holds.durable ∙ heap) (long_of (words s) (down s) (passed s) (refusals s) v n holds
    (ap (λ (h : HeapState). h.head.1) heap ∙ ap (λ (h : ℕ × ℕ). h.1) (head-new_card_heap n room text t))) enough sizes reads
made_if words down passed refusals (Err e) v n room text t holds heap enough sizes reads = tt

pub mapped_if : {A E : Type 0} (r : Result A E) (P Q : A → Type 0) → ((a : A) → P a → Q a) → IfOk r P → IfOk r Q
mapped_if (Ok a) P Q f p = f a p
mapped_if (Err e) P Q f p = tt
