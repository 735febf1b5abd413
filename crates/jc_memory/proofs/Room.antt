-- Where there is room, the store alone refuses.
use Rattle.std.proofs.Common.{◌≡◌, ℕ, suc, ◌+◌, ◌≤◌, Bool, true, false, List, [], ◌∷◌, ◌++◌, length, map, refl, sym, ◌∙◌, ap, subst, arith, inl, inr}
use Rattle.std.proofs.Common.{leb-true}
use Rattle.std.specs.Prelude.{Option, Some, None, Err}
use Rattle.std.proofs.lemmas.Bool.{true≢false, cases_Bool}
use Rattle.std.proofs.lemmas.List.{length-map}
use Rattle.std.proofs.lemmas.List.FromFn.{length-range_with_len}
use Rattle.std.proofs.lemmas.Option.{none-some}
use Rattle.jc_transient.specs.declared.cell.ClearEvent.{ClearEvent}
use Rattle.jc_heap.specs.declared.place.Place.{Place}
use Rattle.jc_heap.specs.declared.touch.Touch.{Touch}
use Rattle.jc_heap.specs.declared.touch.Touch.TheVariants.{HeapEnd}
use Rattle.jc_heap.specs.declared.refusal.ChangeRefusal.{ChangeRefusal}
use Rattle.jc_heap.specs.declared.refusal.ChangeRefusal.TheVariants as change
use Rattle.jc_heap.specs.declared.refusal.HeapRefusal.{HeapRefusal}
use Rattle.jc_heap.specs.declared.refusal.HeapRefusal.TheVariants as making
use Rattle.jc_heap.specs.Object.{AnObject, Object, new_object, object_size, is_packed}
use Rattle.jc_heap.specs.Heap.{HeapState, HeapView, heap_item_at, is_allocated, add_object, heap_after_change, set_cell, set_cells, facts}
use Rattle.jc_heap.specs.Heap.{end_address, keeping, limit, has_room_for}
use Rattle.jc_heap.specs.Moves.{Move, SetPlaces, SetCells, refusal_of_places, refusal_of_cells}
use Rattle.jc_heap.specs.Completions.{Attempt, Done, Refused, after_change, after_making}
use Rattle.jc_heap.specs.Place.{ArePlain, places_of, place_word, words_at, cells_from, set_place, set_places}
use Rattle.jc_heap.specs.declared.place.Place.TheVariants.{Cell}
use Rattle.jc_heap.specs.Touch.{touch_words, touched_places, touched_cells, once_made}
use Rattle.jc_commit.proofs.WhatIsKept.{keeps_old_values}
use Rattle.jc_heap.proofs.Calls.{not_full, object_fits}
use Rattle.std.specs.List.{range_with_len}
use Rattle.jc_heap.proofs.WordsAt.{words_at-plain, plain_cells}
use Rattle.jc_heap.proofs.Places.{bare_stays}
use Rattle.jc_heap.proofs.KeepingMoves.{top-run, top-places}
use Rattle.jc_heap.proofs.Laws.{heap_item_at-add_object, heap_item_at-add_other, object_named, same_facts, facts-set_cell}
use Rattle.jc_memory.specs.declared.making.NewObject.{NewObject}
use Rattle.jc_transient.specs.Owners.{owner_number}
use Rattle.jc_memory.specs.State.{MemoryState, HeapMove, IsNew, apply_effect}
use Rattle.jc_memory.specs.Programs.{Program, Finish, Perform, Choose, Completes, IsTornIn, Executes, unless_refused}
use Rattle.jc_memory.specs.Cells.{cell_refusal_in, cells_effect_in}
use Rattle.jc_memory.specs.Making.{creation_move, creation_refusal, creation_refusal_in}
use Rattle.jc_memory.specs.CommitCapacity.{has_space, lacks_capacity, cells_update, places_update, KeepsObjects, KeepsRest, StayPut}
use Rattle.jc_memory.proofs.Touched.{lacks_room, room_inside, touches_left, view_left, words_of_cells, words_of_plain, words_once_made}

-- places within the room of a heap
fits : (v : HeapView) (places : List ℕ) → lacks_room v places ≡ false → length places ≤ v.durable.capacity → has_room_for v places ≡ true
fits v places room most = elim (cases_Bool v.begun) [
  | inl begun ↦ room_inside v places begun room
  | inr shut ↦ keeps_old_values.alone (keeping v) places shut most
]

abbrev is_done : {A : Type 0} → Attempt A → Bool
is_done (Done a) = true
is_done (Refused why) = false

done_is_no_refusal : {A : Type 0} (done : Attempt A) (a : A) (why : HeapRefusal) → done ≡ Done a → Refused why ≡ done → ⊥
done_is_no_refusal done a why is e = true≢false (sym (ap is_done is) ∙ sym (ap is_done e))

-- headers stay where places are set
pub facts-places : (h : HeapState) (cs : List (Place × ℕ)) (q : ℕ) → facts (set_places h cs) q ≡ facts h q
facts-places h [] q = refl
facts-places h (c ∷ cs) q = facts-places (set_place h c.0 c.1) cs q
    ∙ same_facts (heap_item_at (set_place h c.0 c.1) q) (heap_item_at h q) (bare_stays h c.0 c.1 q)

pub facts-run : (h : HeapState) (r i : ℕ) (vs : List ℕ) (q : ℕ) → facts (set_cells h r i vs) q ≡ facts h q
facts-run h r i [] q = refl
facts-run h r i (v ∷ vs) q = facts-run (set_cell h r i v) r (suc i) vs q ∙ facts-set_cell h r i v q

-- so a change of these places is not refused
pub has_room : (s : MemoryState) (changes : List (Place × ℕ)) → ArePlain s.heap.now (places_of changes)
    → lacks_capacity s (touched_places (places_of changes)) ≡ false → length changes ≤ s.heap.durable.capacity
    → refusal_of_places s.heap (places_of changes) ≡ None
has_room s changes plain room most =
    let words : List ℕ = words_at s.heap.now (places_of changes) in
    not_full s.heap words (fits s.heap words (subst (λ ws. lacks_room s.heap ws ≡ false) (words_of_plain s.heap.now (places_of changes) plain) room) few)
  where
    few : length (words_at s.heap.now (places_of changes)) ≤ s.heap.durable.capacity
    few =
        let words = length-map (places_of changes) place_word in
        let places = length-map changes (λ c. c.0) in
        omega (arith, ap (λ (l : List ℕ). length l) (words_at-plain s.heap.now (places_of changes) plain), words, places, most)

-- a change that has room and is not made is cut
pub cut_change : (reason : Option HeapRefusal) (s new : MemoryState) (changes : List (Place × ℕ)) (e : ChangeRefusal) → reason ≡ None →
    Executes (unless_refused reason (Perform (HeapMove (SetPlaces changes)) (Finish (Done tt)))) s (after_change {A = Unit {0}} (Err e) new)
    → IsTornIn (places_update changes) s new
cut_change None s new changes change.StoreDown none cut = cut
cut_change None s new changes change.CommitFull none did = absurd (done_is_no_refusal (Done tt) tt making.CommitFull refl did.0)
cut_change (Some why) s new changes e none cut = absurd (none-some why (sym none))

did_change : {A : Type 0} (reason : Option HeapRefusal) (s new : MemoryState) (m : Move) (a b : A) →
    Completes (unless_refused reason (Perform (HeapMove m) (Finish (Done a)))) s (Done b) new → new ≡ apply_effect (HeapMove m) s
did_change None s new m a b did = did.1
did_change (Some why) s new m a b did = absurd (done_is_no_refusal (Done b) b why refl (sym did.0))

-- the room that it leaves
pub changes_left : {A : Type 0} (reason : Option HeapRefusal) (s new : MemoryState) (changes : List (Place × ℕ)) (a b : A) (more : List Touch) →
    ArePlain s.heap.now (places_of changes) →
    Completes (unless_refused reason (Perform (HeapMove (SetPlaces changes)) (Finish (Done a)))) s (Done b) new →
    lacks_capacity s (touched_places (places_of changes) ++ more) ≡ false → lacks_capacity new more ≡ false
changes_left reason s new changes a b more plain did room =
    subst (λ m. lacks_capacity m more ≡ false) (sym (did_change reason s new (SetPlaces changes) a b did))
    (touches_left s.heap (set_places s.heap.now changes) (touched_places (places_of changes)) (words_at s.heap.now (places_of changes)) 0 more
    (words_of_plain s.heap.now (places_of changes) plain) (top-places s.heap.now changes) (facts-places s.heap.now changes) room)

counts-add : (h : HeapState) (o : Object) (size : ℕ) → (add_object h o size).counts ≡ h.counts
unfolding add_object
counts-add h o size = refl

counts-set : (h : HeapState) (r i v : ℕ) → (set_cell h r i v).counts ≡ h.counts
unfolding set_cell
counts-set h r i v = refl

counts-run : (h : HeapState) (r i : ℕ) (vs : List ℕ) → (set_cells h r i vs).counts ≡ h.counts
counts-run h r i [] = refl
counts-run h r i (v ∷ vs) = counts-run (set_cell h r i v) r (suc i) vs ∙ counts-set h r i v

-- a new object stands where its reference says, and all else is as before
abbrev pub IsMade : MemoryState → MemoryState → Object → ℕ → Type 0
IsMade s new o r = (heap_item_at new.heap.now r ≡ AnObject o) × KeepsObjects s.heap.now new.heap.now × KeepsRest s new

added : (s new : MemoryState) (o : Object) (size fresh r : ℕ) (places : List ℕ) → IsNew s.heap.now r
    → new.heap ≡ heap_after_change s.heap (add_object s.heap.now o size) places fresh → IsMade s new o r
added s new o size fresh r places new_one is =
    let free : is_allocated s.heap.now s.heap.now.top ≡ false = subst (λ q. is_allocated s.heap.now q ≡ false) new_one.chosen new_one.free in
    let now : new.heap.now ≡ add_object s.heap.now o size = ap (λ v. v.now) is in (
      ap (heap_item_at new.heap.now) new_one.chosen ∙ ap (λ h. heap_item_at h s.heap.now.top) now ∙ heap_item_at-add_object s.heap.now o size free,
      λ q there. ap (λ h. heap_item_at h q) now ∙ heap_item_at-add_other s.heap.now o size q
          (λ e. true≢false (sym (object_named s.heap.now q there) ∙ ap (is_allocated s.heap.now) (sym e) ∙ free)),
      record { begun = ap (λ v. v.begun) is; counts = ap (λ h. h.counts) now ∙ counts-add s.heap.now o size },
    )

made_one : (event : Option ClearEvent) (s new : MemoryState) (o : NewObject) (x : ℕ) → event ≡ None →
    Completes (Choose (λ r. Perform (HeapMove (creation_move event o)) (Finish (Done r)))) s (Done x) new →
    IsMade s new (new_object o.kind o.class (owner_number o.owner) o.length) x
made_one None s new o x none did =
    let same : x ≡ did.0 = cc (did.2.0) in
    let o' : Object = new_object o.kind o.class (owner_number o.owner) o.length in
    subst (IsMade s new o') (sym same) (added s new o' (object_size o.kind o.length) (object_size o.kind o.length) did.0 _ did.1 (ap (λ v. v.heap) did.2.1))
made_one (Some e) s new o x none did = absurd (none-some e (sym none))

pub made_object : (reason : Option HeapRefusal) (s new : MemoryState) (o : NewObject) (x : ℕ) → o.event ≡ None →
    Completes (unless_refused reason (Choose (λ r. Perform (HeapMove (creation_move o.event o)) (Finish (Done r))))) s (Done x) new →
    IsMade s new (new_object o.kind o.class (owner_number o.owner) o.length) x
made_object None s new o x none did = made_one o.event s new o x none did
made_object (Some why) s new o x none did = absurd (done_is_no_refusal (Done x) x why refl (sym did.0))

-- cells of a persistent object
pub cut_run : (event : Option ClearEvent) (reason : Option HeapRefusal) (s new : MemoryState) (r i : ℕ) (words : List ℕ) (e : ChangeRefusal) → event ≡ None
    → reason ≡ None →
    Executes (unless_refused (cell_refusal_in event reason) (Perform (cells_effect_in event r i words) (Finish (Done tt)))) s
    (after_change {A = Unit {0}} (Err e) new) → IsTornIn (cells_update r i words) s new
cut_run None None s new r i words change.StoreDown kept none cut = cut
cut_run None None s new r i words change.CommitFull kept none did = absurd (done_is_no_refusal (Done tt) tt making.CommitFull refl did.0)
cut_run None (Some why) s new r i words e kept none cut = absurd (none-some why (sym none))
cut_run (Some event) reason s new r i words e kept none cut = absurd (none-some event (sym kept))

did_run : (event : Option ClearEvent) (reason : Option HeapRefusal) (s new : MemoryState) (r i : ℕ) (words : List ℕ) → event ≡ None →
    Completes (unless_refused (cell_refusal_in event reason) (Perform (cells_effect_in event r i words) (Finish (Done (tt {0}))))) s (Done (tt {0})) new
    → new ≡ apply_effect (HeapMove (SetCells r i words)) s
did_run None None s new r i words kept did = did.1
did_run None (Some why) s new r i words kept did = absurd (done_is_no_refusal (Done tt) tt why refl (sym did.0))
did_run (Some event) reason s new r i words kept did = absurd (none-some event (sym kept))

-- the room that they leave
pub run_left : (event : Option ClearEvent) (reason : Option HeapRefusal) (s new : MemoryState) (r i : ℕ) (words : List ℕ) (more : List Touch) → event ≡ None →
    is_packed (facts s.heap.now r) ≡ false →
    Completes (unless_refused (cell_refusal_in event reason) (Perform (cells_effect_in event r i words) (Finish (Done (tt {0}))))) s (Done (tt {0})) new →
    lacks_capacity s (touched_cells r i (length words) ++ more) ≡ false → lacks_capacity new more ≡ false
run_left event reason s new r i words more kept plain did room =
    subst (λ v. lacks_capacity v more ≡ false) (sym (did_run event reason s new r i words kept did))
    (touches_left s.heap (set_cells s.heap.now r i words) (touched_cells r i (length words)) (words_at s.heap.now (cells_from r i (length words))) 0 more
    (words_of_cells s.heap.now r i (length words) plain) (top-run s.heap.now r i words) (facts-run s.heap.now r i words) room)

-- so a change of these cells is not refused
pub has_run_room : (s : MemoryState) (r i : ℕ) (words : List ℕ) → is_packed (facts s.heap.now r) ≡ false
    → lacks_capacity s (touched_cells r i (length words)) ≡ false → length words ≤ s.heap.durable.capacity → refusal_of_cells s.heap r i words ≡ None
has_run_room s r i words plain room most =
    let places : List ℕ = words_at s.heap.now (cells_from r i (length words)) in
    not_full s.heap places (fits s.heap places (subst (λ ws. lacks_room s.heap ws ≡ false) (words_of_cells s.heap.now r i (length words) plain) room) few)
  where
    few : length (words_at s.heap.now (cells_from r i (length words))) ≤ s.heap.durable.capacity
    few =
        let cells = words_at-plain s.heap.now (cells_from r i (length words)) (plain_cells s.heap.now r i (length words) plain) in
        let words_long = length-map (cells_from r i (length words)) place_word in
        let long = length-map (range_with_len i (length words)) (λ k. Cell r k) in
        let count = length-range_with_len i (length words) in
        omega (arith, ap (λ (l : List ℕ). length l) cells, words_long, long, count, most)

pub run_rest : (event : Option ClearEvent) (reason : Option HeapRefusal) (s new : MemoryState) (r i : ℕ) (words : List ℕ) → event ≡ None →
    Completes (unless_refused (cell_refusal_in event reason) (Perform (cells_effect_in event r i words) (Finish (Done (tt {0}))))) s (Done (tt {0})) new
    → KeepsRest s new
run_rest event reason s new r i words kept did =
    let is = did_run event reason s new r i words kept did in
    record { begun = ap (λ v. v.heap.begun) is; counts = ap (λ v. v.heap.now.counts) is ∙ counts-run s.heap.now r i words }

-- an applet's registration that has room and is not made is cut
pub cut_applet : (reason : Option HeapRefusal) (s new : MemoryState) (m : Move) (n : ℕ) (e : ChangeRefusal) → reason ≡ None →
    Executes (unless_refused reason (Perform (HeapMove m) (Finish (Done n)))) s (after_change {A = ℕ} (Err e) new)
    → IsTornIn (Perform (HeapMove m) (Finish (tt {0}))) s new
cut_applet None s new m n change.StoreDown none cut = cut
cut_applet None s new m n change.CommitFull none did = absurd (done_is_no_refusal (Done n) n making.CommitFull refl did.0)
cut_applet (Some why) s new m n e none cut = absurd (none-some why (sym none))

-- a persistent object for which there is space and room is not refused
pub object_allowed : (s : MemoryState) (o : NewObject) → o.event ≡ None → has_space s o.kind o.length ≡ true → lacks_capacity s (HeapEnd ∷ []) ≡ false
    → 1 ≤ s.heap.durable.capacity → creation_refusal s o ≡ None
object_allowed s o persistent space room some =
    let enough : s.heap.now.top + object_size o.kind o.length ≤ limit s.heap = leb-true (s.heap.now.top + object_size o.kind o.length) (limit s.heap) space in
    ap (λ (event : Option ClearEvent). creation_refusal_in event s o) persistent
    ∙ object_fits s.heap (object_size o.kind o.length) (end_address ∷ []) (λ lacks. omega (arith, lacks, enough))
    (fits s.heap (end_address ∷ []) room some)

abbrev made_so : {A : Type 0} → Option ClearEvent → NewObject → (ℕ → A) → Program A
made_so event o answer =
    Choose (λ r. Perform (HeapMove (creation_move event o)) (Finish (answer r)))

pub cut_object : (event : Option ClearEvent) (reason : Option HeapRefusal) (s new : MemoryState) (o : NewObject) (e : HeapRefusal) → event ≡ None
    → reason ≡ None → Executes (unless_refused reason (made_so event o (λ r. Done r))) s (after_making {A = ℕ} (Err e) new)
    → IsTornIn (made_so event o (λ r. r)) s new
cut_object None None s new o making.StoreDown kept none cut = cut
cut_object None None s new o making.CommitFull kept none did = absurd (done_is_no_refusal (Done did.0) did.0 making.CommitFull refl did.2.0)
cut_object None None s new o making.HeapFull kept none did = absurd (done_is_no_refusal (Done did.0) did.0 making.HeapFull refl did.2.0)
cut_object None None s new o making.NoTransientSpace kept none did = absurd (done_is_no_refusal (Done did.0) did.0 making.NoTransientSpace refl did.2.0)
cut_object None (Some why) s new o e kept none cut = absurd (none-some why (sym none))
cut_object (Some event) reason s new o e kept none cut = absurd (none-some event (sym kept))

-- the room that it leaves
left_one : (event : Option ClearEvent) (s new : MemoryState) (o : NewObject) (x : ℕ) (more : List Touch) → event ≡ None → StayPut s o.kind more
    → Completes (made_so event o (λ r. Done r)) s (Done x) new → lacks_capacity s (HeapEnd ∷ more) ≡ false → lacks_capacity new (map (once_made x) more) ≡ false
left_one None s new o x more none put did room =
    let same : x ≡ did.0 = cc (did.2.0) in
    let made : Object = new_object o.kind o.class (owner_number o.owner) o.length in
    let h : HeapState = add_object s.heap.now made (object_size o.kind o.length) in
    let v : HeapView = heap_after_change s.heap h (end_address ∷ []) (object_size o.kind o.length) in
    let is : new.heap ≡ v = ap (λ (m : MemoryState). m.heap) did.2.1 in
    let now : new.heap.now ≡ h = ap (λ (u : HeapView). u.now) is in
    let there = made_one None s new o x none did in
    subst (λ (u : HeapView). lacks_room u (touch_words u.now (map (once_made x) more)) ≡ false) (sym is)
    (subst (λ ws. lacks_room v ws ≡ false) (sym (words_once_made s h made o.kind x (same ∙ did.1.chosen)
    (ap (λ (k : HeapState). heap_item_at k x) (sym now) ∙ there.0) refl (subst (KeepsObjects s.heap.now) now there.1) more put))
    (view_left s.heap h (end_address ∷ []) (object_size o.kind o.length) (touch_words s.heap.now more) room))
left_one (Some event) s new o x more none put did room = absurd (none-some event (sym none))

pub object_left : (reason : Option HeapRefusal) (s new : MemoryState) (o : NewObject) (x : ℕ) (more : List Touch) → o.event ≡ None → StayPut s o.kind more →
    Completes (unless_refused reason (made_so o.event o (λ r. Done r))) s (Done x) new → lacks_capacity s (HeapEnd ∷ more) ≡ false
    → lacks_capacity new (map (once_made x) more) ≡ false
object_left None s new o x more none put did room = left_one o.event s new o x more none put did room
object_left (Some why) s new o x more none put did room = absurd (done_is_no_refusal (Done x) x why refl (sym did.0))
