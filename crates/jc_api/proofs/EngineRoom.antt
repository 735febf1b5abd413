-- Space and room for an object with a state: after its array there is enough for the instance and its cells.
use Rattle.std.proofs.Common.{◌≡◌, ◌+◌, ◌≤◌, ◌∙◌, ℕ, zero, suc, Bool, true, false, not, List, [], ◌∷◌, ◌++◌, length, filter, Option, Some, None, All, refl, sym, ap, subst, arith, inl, inr, if◌then◌else◌}
use Rattle.std.proofs.lemmas.Bool.{cases_Bool, eqb-true, leb-true, le-leb}
use Rattle.std.proofs.lemmas.List.{append-nil}
use Rattle.std.proofs.lemmas.Option.{none-some}
use Rattle.std.specs.Prelude.{◌&&◌, ◌==◌, nat_le, nat_lt}
use Rattle.jc_commit.specs.Keep.{has_room_for as journal_room, unlogged_addresses}
use Rattle.jc_commit.proofs.WhatIsKept.{keeps_old_values}
use Rattle.jc_transient.specs.declared.cell.ClearEvent.{ClearEvent}
use Rattle.jc_transient.specs.declared.cell.ClearEvent.TheVariants.{Deselect, Reset}
use Rattle.jc_heap.specs.Heap.{HeapState, HeapView, add_transient, area_end, area_end_address, area_limit, cell_address, end_address, goes_back, has_room_for}
use Rattle.jc_heap.specs.Heap.{heap_after_change, keeping, limit, unlogged_places}
use Rattle.jc_heap.specs.Moves.{refusal_of_places}
use Rattle.jc_heap.specs.Object.{object_size, transient_size}
use Rattle.jc_heap.specs.declared.object.Kind.TheVariants.{Instance}
use Rattle.jc_heap.specs.Place.{place_at}
use Rattle.jc_heap.specs.declared.place.Place.TheVariants as place
use Rattle.jc_heap.specs.declared.refusal.HeapRefusal.{HeapRefusal}
use Rattle.jc_heap.specs.declared.refusal.HeapRefusal.TheVariants.{CommitFull, HeapFull, NoTransientSpace}
use Rattle.jc_heap.specs.Touch.{CanTouch}
use Rattle.jc_heap.specs.declared.touch.Touch.TheVariants as touch
use Rattle.jc_heap.proofs.Calls.{not_full}
use Rattle.jc_heap.proofs.KeptWords.{goes_back_later, goes_back_now, room_behind}
use Rattle.jc_heap.proofs.Laws.{top-add_object}
use Rattle.jc_memory.specs.Making.{creation_move, creation_refusal, creation_refusal_in}
use Rattle.jc_memory.specs.CommitCapacity.{has_space, lacks_capacity}
use Rattle.jc_memory.specs.State.{HeapMove, MemoryState, apply_effect}
use Rattle.jc_memory.specs.declared.making.NewObject.{NewObject}
use Rattle.jc_memory.proofs.Touched.{room_inside}
use Rattle.jc_platform.specs.Hierarchy.{cells_of}
use Rattle.jc_api.specs.Factory.{array_words, has_space_after, has_space_for_both, keeps_no_cells, keeps_none_after, state_array, words_in_heap}
use Rattle.jc_api.specs.declared.factory.NewEngine.{NewEngine}

-- ---- words that go back need no room

room_for_none : (v : HeapView) (xs : List ℕ) → v.begun ≡ true → All (λ a. goes_back v a ≡ true) xs → has_room_for v [] ≡ true → has_room_for v xs ≡ true
unfolding journal_room
room_for_none v xs begun back room =
    let same : unlogged_addresses (keeping v) xs ≡ unlogged_addresses (keeping v) [] = keeps_old_values.free (keeping v) xs begun back
    ∙ sym (keeps_old_values.free (keeping v) [] begun (λ k d lt. absurd (omega (arith, lt)))) in
    ap (λ (b : Bool). if b then nat_le (length v.touched + length (unlogged_addresses (keeping v) xs)) v.durable.capacity else nat_le (length xs) v.durable.capacity) begun
    ∙ ap (λ (ws : List ℕ). nat_le (length v.touched + length ws) v.durable.capacity) same
    ∙ sym (ap (λ (b : Bool). if b then nat_le (length v.touched + length (unlogged_addresses (keeping v) [])) v.durable.capacity else nat_le 0 v.durable.capacity) begun)
    ∙ room

of_three : (P : ℕ → Type 0) (a b c : ℕ) → P a → P b → P c → All P (a ∷ b ∷ c ∷ [])
of_three P a b c first second third zero d lt = first
of_three P a b c first second third (suc zero) d lt = second
of_three P a b c first second third (suc (suc zero)) d lt = third
of_three P a b c first second third (suc (suc (suc k))) d lt = absurd (omega (arith, lt))

-- of two words, of which an open transaction keeps no old value, both go back
both_back : (f : ℕ → Bool) (a b : ℕ) (x y : Bool) → f a ≡ x → f b ≡ y → length (filter (λ c. not (f c)) (a ∷ b ∷ [])) ≡ 0 → (x ≡ true) × (y ≡ true)
both_back f a b true true is isnt none = (refl, refl)
both_back f a b true false is isnt none = absurd (grind (arith, is, isnt, none))
both_back f a b false y is isnt none = absurd (grind (arith, is, isnt, none))

go_back : (v : HeapView) (a b : ℕ) → v.begun ≡ true → length (unlogged_places v (a ∷ b ∷ [])) ≡ 0 → (goes_back v a ≡ true) × (goes_back v b ≡ true)
unfolding unlogged_addresses
go_back v a b begun none = both_back (goes_back v) a b (goes_back v a) (goes_back v b) refl refl
    (sym (ap (λ (c : Bool). length (if c then filter (λ x. not (goes_back v x)) (a ∷ b ∷ []) else [])) begun) ∙ none)

-- ---- what the array leaves

-- after the next object, whose words are these many, an open transaction has room for another one and its first two cells, which keep no old values
module _ (v : HeapView) (h : HeapState) (more : List ℕ) (fresh words : ℕ) (top : h.top ≡ v.now.top + words)
    (room : has_room_for v (end_address ∷ more) ≡ true)
    (none : (length (unlogged_places v (cell_address v.now.top words ∷ cell_address v.now.top (words + 1) ∷ [])) == 0) ≡ true) where
  abbrev after : HeapView
  after = heap_after_change v h (end_address ∷ more) fresh

  abbrev next : List ℕ
  next = end_address ∷ cell_address h.top 0 ∷ cell_address h.top 1 ∷ []

  first_cell : (i : ℕ) → cell_address h.top i ≡ cell_address v.now.top (words + i)
  unfolding cell_address
  first_cell i = omega (arith, top)

  inside : v.begun ≡ true → has_room_for after next ≡ true
  inside begun =
      let back = go_back v (cell_address v.now.top words) (cell_address v.now.top (words + 1)) begun (eqb-true _ 0 none) in
      room_for_none after next begun (of_three (λ a. goes_back after a ≡ true) end_address (cell_address h.top 0) (cell_address h.top 1)
      (goes_back_now v h (end_address ∷ more) fresh end_address begun (0, omega arith, refl))
      (subst (λ a. goes_back after a ≡ true) (sym (first_cell 0 ∙ ap (cell_address v.now.top) (omega arith)))
      (goes_back_later v h (end_address ∷ more) fresh _ back.0))
      (subst (λ a. goes_back after a ≡ true) (sym (first_cell 1)) (goes_back_later v h (end_address ∷ more) fresh _ back.1)))
      (room_behind v h (end_address ∷ more) fresh [] begun room_again)
    where
      room_again : has_room_for v ((end_address ∷ more) ++ []) ≡ true
      room_again = ap (has_room_for v) (append-nil (end_address ∷ more)) ∙ room

  left_after : (v.begun && not (has_room_for after next)) ≡ false
  left_after = elim (cases_Bool v.begun) [
    | inl begun ↦ ap (λ (b : Bool). v.begun && not b) (inside begun) ∙ both_false v.begun
    | inr shut ↦ ap (λ (b : Bool). b && not (has_room_for after next)) shut
  ]
    where
      both_false : (b : Bool) → (b && false) ≡ false
      both_false true = refl
      both_false false = refl

-- there was room for what was not refused
had_room : (space room : Bool) → (if space then Some HeapFull else (if room then None else Some CommitFull)) ≡ None → room ≡ true
had_room true room none = absurd (none-some HeapFull (sym none))
had_room false true none = refl
had_room false false none = absurd (none-some CommitFull (sym none))

had_cells : (area : Bool) (rest : Option HeapRefusal) → (if area then Some NoTransientSpace else rest) ≡ None → rest ≡ None
had_cells true rest none = absurd (none-some NoTransientSpace (sym none))
had_cells false rest none = none

-- an object that is made, whatever clears it
module _ (o : NewObject) (m : MemoryState) where
  abbrev with_object : Option ClearEvent → MemoryState
  with_object event = apply_effect (HeapMove (creation_move event o)) m

  top_behind : (event : Option ClearEvent) → (with_object event).heap.now.top ≡ m.heap.now.top + words_in_heap event o.kind o.length
  unfolding add_transient
  top_behind None = top-add_object m.heap.now _ (object_size o.kind o.length)
  top_behind (Some Reset) = top-add_object m.heap.now _ transient_size
  top_behind (Some Deselect) = top-add_object m.heap.now _ transient_size

  space_after : (event : Option ClearEvent) (words cells : ℕ) → words ≡ words_in_heap event o.kind o.length → has_space_after words cells m ≡ true
      → has_space (with_object event) Instance cells ≡ true
  space_after event words cells is space = by event (top_behind event ∙ ap (λ n. m.heap.now.top + n) (sym is))
    where
      le : m.heap.now.top + (words + object_size Instance cells) ≤ limit m.heap
      le = leb-true _ (limit m.heap) space

      by : (event : Option ClearEvent) → (with_object event).heap.now.top ≡ m.heap.now.top + words → has_space (with_object event) Instance cells ≡ true
      by None top = le-leb _ (limit m.heap) (omega (arith, le, top))
      by (Some event) top = le-leb _ (limit m.heap) (omega (arith, le, top))

  room_after : (event : Option ClearEvent) → creation_refusal_in event m o ≡ None → keeps_none_after (words_in_heap event o.kind o.length) m ≡ true
      → lacks_capacity (with_object event) (touch.HeapEnd ∷ touch.NewCell 0 ∷ touch.NewCell 1 ∷ []) ≡ false
  room_after None fine none = left_after m.heap (with_object None).heap.now [] (object_size o.kind o.length) (object_size o.kind o.length) (top_behind None)
      (had_room (nat_lt (limit m.heap) (m.heap.now.top + object_size o.kind o.length)) _ fine) none
  room_after (Some event) fine none = left_after m.heap (with_object (Some event)).heap.now (area_end_address event ∷ []) transient_size transient_size
      (top_behind (Some event))
      (had_room (nat_lt (limit m.heap) (m.heap.now.top + transient_size)) _ (had_cells (nat_lt (area_limit m.heap.now event) (area_end m.heap.now event + o.length)) _ fine)) none

module _ (e : NewEngine) (m : MemoryState) where
  abbrev pub with_array : MemoryState
  with_array = apply_effect (HeapMove (creation_move (state_array e m).event (state_array e m))) m

  pub space_behind : has_space_for_both e m ≡ true → has_space with_array Instance (cells_of e.class) ≡ true
  space_behind space = space_after (state_array e m) m e.event (array_words e) (cells_of e.class) refl space

  pub room_left : creation_refusal m (state_array e m) ≡ None → keeps_no_cells e m ≡ true
      → lacks_capacity with_array (touch.HeapEnd ∷ touch.NewCell 0 ∷ touch.NewCell 1 ∷ []) ≡ false
  room_left fine cells = room_after (state_array e m) m e.event fine cells

-- ---- a cell

-- there is room for a cell, in the open transaction or in one of its own
pub room_for_one : (m : MemoryState) (r i : ℕ) → lacks_capacity m (touch.Place (place.Cell r i) ∷ []) ≡ false → 1 ≤ m.heap.durable.capacity
    → refusal_of_places m.heap (place.Cell r i ∷ []) ≡ None
room_for_one m r i room some = not_full m.heap (place_at m.heap.now (place.Cell r i) ∷ []) (elim (cases_Bool m.heap.begun) [
  | inl begun ↦ room_inside m.heap (place_at m.heap.now (place.Cell r i) ∷ []) begun room
  | inr shut ↦ keeps_old_values.alone (keeping m.heap) (place_at m.heap.now (place.Cell r i) ∷ []) shut some
])

-- ---- before the array is made

-- the first two cells of the instance have space
pub cells_there : (words cells : ℕ) (m : MemoryState) → 2 ≤ cells → has_space_after words cells m ≡ true
    → All (CanTouch m.heap) (touch.NewCell words ∷ touch.NewCell (words + 1) ∷ [])
unfolding cell_address
cells_there words cells m two space zero d lt = omega (arith, two, leb-true (m.heap.now.top + (words + object_size Instance cells)) (limit m.heap) space)
cells_there words cells m two space (suc zero) d lt = omega (arith, two, leb-true (m.heap.now.top + (words + object_size Instance cells)) (limit m.heap) space)
cells_there words cells m two space (suc (suc k)) d lt = absurd (omega (arith, lt))
