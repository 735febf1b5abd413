-- What goes back at an abort, of a heap's view: it grows with each change in the transaction, and places set for good leave it.
use Rattle.std.proofs.Common.{◌≡◌, ℕ, Bool, true, false, List, [], ◌++◌, refl, sym, ◌∙◌, ap, inl, inr, max, Contains, if◌then◌else◌}
use Rattle.std.proofs.lemmas.Bool.{cases_Bool, false≢true}
use Rattle.jc_words.specs.Layout.{addresses_start}
use Rattle.jc_commit.specs.Keep.{Keeping, unlogged_addresses, with_kept, goes_back as journal_goes_back, has_room_for as journal_room}
use Rattle.jc_commit.proofs.WhatIsKept.{keeps_old_values}
use Rattle.jc_heap.specs.declared.place.Place.{Place}
use Rattle.jc_heap.specs.Heap.{HeapState, HeapView, keeping, goes_back, has_room_for, heap_after_change}
use Rattle.jc_heap.specs.Place.{place_at, set_place, write_nonatomic}
use Rattle.jc_heap.proofs.KeepingMoves.{top-place, capacity-place}

pub outside_none_goes_back : (v : HeapView) (a : ℕ) → v.begun ≡ false → goes_back v a ≡ false
outside_none_goes_back v a shut = (keeps_old_values.outside (keeping v) [] shut).1 a

abbrev keeping_with : HeapView → List ℕ → ℕ → ℕ → Keeping
keeping_with v touched top capacity = record { begun = v.begun; born = max addresses_start top; touched = touched; capacity = capacity }

keeping_changed : (v : HeapView) (h : HeapState) (places : List ℕ) (fresh : ℕ) → v.begun ≡ true
    → keeping (heap_after_change v h places fresh) ≡ with_kept (keeping v) places
keeping_changed v h places fresh begun =
    ap (λ (b : Bool). keeping_with v (v.touched ++ unlogged_addresses (keeping v) places) (if b then v.durable else h).top
    (if b then v.durable else h).capacity) begun

-- what goes back goes on going back
pub goes_back_later : (v : HeapView) (h : HeapState) (places : List ℕ) (fresh a : ℕ) → goes_back v a ≡ true
    → goes_back (heap_after_change v h places fresh) a ≡ true
goes_back_later v h places fresh a back = elim (cases_Bool v.begun) [
  | inl begun ↦ ap (λ (k : Keeping). journal_goes_back k a) (keeping_changed v h places fresh begun) ∙ keeps_old_values.stays (keeping v) places a back
  | inr shut ↦ absurd (false≢true (sym (outside_none_goes_back v a shut) ∙ back))
]

-- and so does what a change in the transaction touches
pub goes_back_now : (v : HeapView) (h : HeapState) (places : List ℕ) (fresh a : ℕ) → v.begun ≡ true → Contains places a
    → goes_back (heap_after_change v h places fresh) a ≡ true
goes_back_now v h places fresh a begun there =
    ap (λ (k : Keeping). journal_goes_back k a) (keeping_changed v h places fresh begun) ∙ keeps_old_values.each (keeping v) places a begun there

-- room for two changes in the transaction is, after the first, room for the second
pub room_behind : (v : HeapView) (h : HeapState) (places : List ℕ) (fresh : ℕ) (rest : List ℕ) → v.begun ≡ true → has_room_for v (places ++ rest) ≡ true
    → has_room_for (heap_after_change v h places fresh) rest ≡ true
room_behind v h places fresh rest begun room =
    ap (λ (k : Keeping). journal_room k rest) (keeping_changed v h places fresh begun) ∙ keeps_old_values.second (keeping v) places rest begun room

-- a place set for good changes nothing of it
pub keeping_counted : (v : HeapView) (p : Place) (x : ℕ) → keeping (write_nonatomic v p x) ≡ keeping v
keeping_counted v p x = λ i. keeping_with v v.touched (top_left (goes_back v (place_at v.now p)) i) (capacity_left (goes_back v (place_at v.now p)) i)
  where
    top_left : (b : Bool) → (if b then v.durable else set_place v.durable p x).top ≡ v.durable.top
    top_left true = refl
    top_left false = top-place v.durable p x

    capacity_left : (b : Bool) → (if b then v.durable else set_place v.durable p x).capacity ≡ v.durable.capacity
    capacity_left true = refl
    capacity_left false = capacity-place v.durable p x

pub goes_back_counted : (v : HeapView) (p : Place) (x a : ℕ) → goes_back v a ≡ true → goes_back (write_nonatomic v p x) a ≡ true
goes_back_counted v p x a back = ap (λ (k : Keeping). journal_goes_back k a) (keeping_counted v p x) ∙ back
