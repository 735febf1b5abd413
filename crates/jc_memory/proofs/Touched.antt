-- The words that changes touch, and the room that a change leaves for others.
use Rattle.std.proofs.Common.{◌≡◌, ℕ, ◌/◌, if◌then◌else◌, Bool, true, false, not, List, [], ◌∷◌, ◌++◌, map, refl, sym, ◌∙◌, ap, subst, inl, inr}
use Rattle.std.specs.Prelude.{◌&&◌}
use Rattle.std.proofs.lemmas.Bool.{cases_Bool, false≢true}
use Rattle.std.proofs.lemmas.List.{map-append}
use Rattle.jc_commit.proofs.WhatIsKept.{keeps_old_values}
use Rattle.jc_heap.specs.declared.place.Place.{Place}
use Rattle.jc_heap.specs.declared.touch.Touch.{Touch}
use Rattle.jc_heap.specs.declared.touch.Touch.TheVariants as touch
use Rattle.jc_heap.specs.Heap.{HeapState, HeapView, heap_after_change, heap_item_at, facts, keeping, has_room_for, cell_address, end_address}
use Rattle.jc_heap.specs.declared.object.Facts.{Facts}
use Rattle.jc_heap.specs.declared.object.Kind.{Kind}
use Rattle.jc_heap.specs.Object.{Object, AnObject, facts_of, has_bytes, is_packed}
use Rattle.jc_heap.specs.Place.{place_word, place_at, cell_at, words_at, cells_from, ArePlain}
use Rattle.jc_heap.specs.declared.place.Place.TheVariants.{Cell, Static, Registry, AppletCount}
use Rattle.jc_heap.specs.Touch.{touch_word, touch_words, touched_places, touched_cells, once_made}
use Rattle.jc_heap.proofs.KeptWords.{room_behind}
use Rattle.jc_memory.specs.State.{MemoryState}
use Rattle.jc_heap.proofs.Images.{has_cells}
use Rattle.jc_heap.proofs.Places.{plain_at}
use Rattle.jc_heap.proofs.WordsAt.{words_at-plain, plain_cells}
use Rattle.jc_memory.specs.CommitCapacity.{lacks_capacity, KeepsObjects, IsThere, StayPut}

-- ---- the words

words_of_places : (h : HeapState) (ps : List Place) → ArePlain h ps → touch_words h (touched_places ps) ≡ map place_word ps
words_of_places h [] plain = refl
words_of_places h (p ∷ ps) plain = λ i. plain_at h p plain.0 i ∷ words_of_places h ps plain.1 i

pub words_of_plain : (h : HeapState) (ps : List Place) → ArePlain h ps → touch_words h (touched_places ps) ≡ words_at h ps
words_of_plain h ps plain = words_of_places h ps plain ∙ sym (words_at-plain h ps plain)

pub words_of_cells : (h : HeapState) (r i n : ℕ) → is_packed (facts h r) ≡ false → touch_words h (touched_cells r i n) ≡ words_at h (cells_from r i n)
words_of_cells h r i n plain = words_of_plain h (cells_from r i n) (plain_cells h r i n plain)

-- they are the same in a heap with the same end and the same headers
module _ (h new : HeapState) (top : new.top ≡ h.top) (headers : (q : ℕ) → facts new q ≡ facts h q) where
  place_stays : (p : Place) → place_at new p ≡ place_at h p
  place_stays (Cell r i) = ap (λ (f : Facts). cell_at f r i) (headers r)
  place_stays (Static r j) = refl
  place_stays (Registry i) = refl
  place_stays AppletCount = refl

  word_stays : (t : Touch) → touch_word new t ≡ touch_word h t
  word_stays (touch.Place p) = place_stays p
  word_stays (touch.NewCell i) = ap (λ (end : ℕ). cell_address end i) top
  word_stays touch.HeapEnd = refl

  pub words_stay : (ts : List Touch) → touch_words new ts ≡ touch_words h ts
  words_stay [] = refl
  words_stay (t ∷ ts) = λ i. word_stays t i ∷ words_stay ts i

-- and once the next object stands after that end, where all other objects are as they were
module _ (s : MemoryState) (new : HeapState) (o : Object) (kind : Kind) (r : ℕ) (is : r ≡ s.heap.now.top) (made : heap_item_at new r ≡ AnObject o)
    (same_kind : o.facts.kind ≡ kind) (kept : KeepsObjects s.heap.now new) where
  new_cell : (i : ℕ) → has_bytes kind ≡ false → place_at new (Cell r i) ≡ cell_address s.heap.now.top i
  new_cell i none =
      let plain : is_packed (facts new r) ≡ false = ap (λ t. is_packed (facts_of t)) made ∙ ap (λ k. has_bytes k && o.facts.packed) same_kind
      ∙ ap (λ (b : Bool). b && o.facts.packed) none in
      ap (λ (b : Bool). cell_address r (if b then i / 2 else i)) plain ∙ ap (λ (end : ℕ). cell_address end i) is

  old_place : (p : Place) → IsThere s.heap.now p → place_at new p ≡ place_at s.heap.now p
  old_place (Cell q i) there = ap (λ t. cell_at (facts_of t) q i) (kept q (has_cells s.heap.now q i there))
  old_place (Static q j) there = refl
  old_place (Registry i) there = refl
  old_place AppletCount there = refl

  pub words_once_made : (ts : List Touch) → StayPut s kind ts → touch_words new (map (once_made r) ts) ≡ touch_words s.heap.now ts
  words_once_made [] put = refl
  words_once_made (touch.Place p ∷ ts) put = λ i. old_place p put.0 i ∷ words_once_made ts put.1 i
  words_once_made (touch.NewCell k ∷ ts) put = λ i. new_cell k put.0 i ∷ words_once_made ts put.1 i
  words_once_made (touch.HeapEnd ∷ ts) put = ap (λ ws. end_address ∷ ws) (words_once_made ts put)

-- ---- the room

-- the open transaction has no room for a change of these places
abbrev pub lacks_room : HeapView → List ℕ → Bool
lacks_room v places = v.begun && not (has_room_for v places)

not_not : (b : Bool) → not b ≡ false → b ≡ true
not_not true e = refl
not_not false e = absurd (false≢true (sym e))

-- inside a transaction this is what the journal says
pub room_inside : (v : HeapView) (places : List ℕ) → v.begun ≡ true → lacks_room v places ≡ false → has_room_for v places ≡ true
room_inside v places begun room = not_not (has_room_for v places) (sym (ap (λ (b : Bool). b && not (has_room_for v places)) begun) ∙ room)

has_not_none : (b room : Bool) → room ≡ true → (b && not room) ≡ false
has_not_none true room is = ap not is
has_not_none false room is = refl

-- room for all of it is room for the first of it
pub room_first : (s : MemoryState) (ts more : List Touch) → lacks_capacity s (ts ++ more) ≡ false → lacks_capacity s ts ≡ false
room_first s ts more room = elim (cases_Bool s.heap.begun) [
  | inl begun ↦
      let xs : List ℕ = touch_words s.heap.now ts in
      let ys : List ℕ = touch_words s.heap.now more in
      let all : lacks_room s.heap (xs ++ ys) ≡ false = subst (λ ws. lacks_room s.heap ws ≡ false) (map-append (touch_word s.heap.now) ts more) room in
      has_not_none s.heap.begun (has_room_for s.heap xs) (keeps_old_values.first (keeping s.heap) xs ys (room_inside s.heap (xs ++ ys) begun all))
  | inr shut ↦ ap (λ (b : Bool). b && not (has_room_for s.heap (touch_words s.heap.now ts))) shut
]

-- the room that a change leaves
pub view_left : (v : HeapView) (h : HeapState) (places : List ℕ) (fresh : ℕ) (more : List ℕ) → lacks_room v (places ++ more) ≡ false
    → lacks_room (heap_after_change v h places fresh) more ≡ false
view_left v h places fresh more room = elim (cases_Bool v.begun) [
  | inl begun ↦ has_not_none v.begun (has_room_for (heap_after_change v h places fresh) more)
      (room_behind v h places fresh more begun (room_inside v (places ++ more) begun room))
  | inr shut ↦ ap (λ (b : Bool). b && not (has_room_for (heap_after_change v h places fresh) more)) shut
]

-- the same of the words that it touches, where it leaves the heap's end
pub touches_left : (v : HeapView) (h : HeapState) (ts : List Touch) (places : List ℕ) (fresh : ℕ) (more : List Touch) → touch_words v.now ts ≡ places
    → h.top ≡ v.now.top → ((q : ℕ) → facts h q ≡ facts v.now q) → lacks_room v (touch_words v.now (ts ++ more)) ≡ false
    → lacks_room (heap_after_change v h places fresh) (touch_words h more) ≡ false
touches_left v h ts places fresh more are same headers room =
    let split : touch_words v.now (ts ++ more) ≡ places ++ touch_words v.now more = map-append (touch_word v.now) ts more
    ∙ ap (λ (ws : List ℕ). ws ++ touch_words v.now more) are in
    subst (λ ws. lacks_room (heap_after_change v h places fresh) ws ≡ false) (sym (words_stay v.now h same headers more))
    (view_left v h places fresh (touch_words v.now more) (subst (λ ws. lacks_room v ws ≡ false) split room))
