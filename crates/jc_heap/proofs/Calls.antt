-- How calls end, as moves: one call, and two one after the other.
use Rattle.std.proofs.Common.{◌≡◌, ℕ, ◌+◌, ◌≤◌, Bool, true, false, List, [], ◌∷◌, refl, sym, ◌∙◌, ap, subst, arith, inl, if◌then◌else◌, Option}
use Rattle.std.proofs.Common.{Some, None, Ok, Err}
use Rattle.std.specs.Prelude.{is_ok, Result, IsErrAnd}
use Rattle.std.proofs.lemmas.Bool.{lt-ltb, le-ltb, true≢false}
use Rattle.jc_words.specs.Layout.{top_address}
use Rattle.jc_commit.specs.Keep.{has_room_for as journal_room, writes_for as journal_writes}
use Rattle.jc_commit.specs.State.{State, keeping as journal_keeping, IsTornWrite as JournalStopped}
use Rattle.jc_transient.specs.declared.cell.ClearEvent.{ClearEvent}
use Rattle.jc_heap.specs.declared.refusal.HeapRefusal.{HeapRefusal}
use Rattle.jc_heap.specs.declared.refusal.HeapRefusal.TheVariants.{CommitFull, HeapFull, NoTransientSpace}
use Rattle.jc_heap.specs.Object.{Object, AnObject, facts_of, is_object, transient_size}
use Rattle.jc_heap.specs.Heap.{HeapState, HeapView, IsObject, heap_item_at, facts, heap_view, has_room_for, writes_for, area_end, area_limit, area_end_address, end_address}
use Rattle.jc_heap.specs.Heap.{IsTornChange, LacksSpace, LacksCells}
use Rattle.jc_heap.specs.Moves.{Move, PerformsMovesUnless, AreTornMoves, apply_move, writes_of, refusal_at, refusal_of_space, refusal_of_transient}
use Rattle.jc_heap.specs.Completions.{Completed, Torn, Done, Refused, after_change}
use Rattle.jc_heap.specs.Image.{IsWellFormed}
use Rattle.jc_commit.specs.declared.refusal.WriteRefusal.{WriteRefusal}
use Rattle.jc_commit.specs.declared.refusal.WriteRefusal.TheVariants.{StoreDown, Full}
use Rattle.jc_heap.specs.declared.refusal.ChangeRefusal.{ChangeRefusal}
use Rattle.jc_heap.specs.Refusal.{change_refusal}
use Rattle.jc_heap.proofs.JournalViews.{keeping_view}
use Rattle.jc_heap.proofs.Changing.{stopped_view}

pub cut_one : (m : Move) (old new : HeapView) → IsTornChange (writes_of m old) old new → AreTornMoves (m ∷ []) old new
cut_one m old new st = record { left = inl (st.durable, (st.from, st.short)); down = st.down; refusals = st.refusals; size = st.size }

module _ {A : Type 0} (reason : Option HeapRefusal) (old new : HeapView) where
  pub unless_refused : (r : HeapRefusal) (ms : List Move) (a : A) → reason ≡ Some r → new ≡ old
      → PerformsMovesUnless reason old (Completed (Refused r) new) ms a
  unless_refused r ms a is e = (is, e)

  pub unless_cut : (m : Move) (a : A) → reason ≡ None → IsTornChange (writes_of m old) old new → PerformsMovesUnless reason old (Torn new) (m ∷ []) a
  unless_cut m a is st = (is, cut_one m old new st)

  pub unless_done : (m : Move) (r a : A) → reason ≡ None → r ≡ a → new ≡ apply_move m old → PerformsMovesUnless reason old (Completed (Done r) new) (m ∷ []) a
  unless_done m r a is same e = (is, same, e)

pub ok_not_err : {X Y : Type 0} (x : X) (y : Y) → Ok x ≡ Err y → ⊥
ok_not_err x y e = true≢false (ap is_ok e)

pub not_false : (b : Bool) → (b ≡ false → ⊥) → b ≡ true
not_false true n = refl
not_false false n = absurd (n refl)

-- the counts
pub count_is : (j : State) (v : HeapView) (n : ℕ) (places : List ℕ) → IsWellFormed j.recovered → heap_view j n ≡ v
    → journal_writes (journal_keeping j) places ≡ writes_for v places
count_is j v n places back is = sym (ap (λ k. journal_writes k places) (keeping_view j n back)) ∙ ap (λ u. writes_for u places) is

-- the reasons
pub room_is : (j : State) (v : HeapView) (n : ℕ) (places : List ℕ) → IsWellFormed j.recovered → heap_view j n ≡ v
    → has_room_for v places ≡ journal_room (journal_keeping j) places
room_is j v n places back is = ap (λ u. has_room_for u places) (sym is) ∙ ap (λ k. journal_room k places) (keeping_view j n back)

pub is_full : (v : HeapView) (places : List ℕ) → has_room_for v places ≡ false → refusal_at v places ≡ Some CommitFull
is_full v places none = ap (λ b. if b then None else Some CommitFull) none

pub not_full : (v : HeapView) (places : List ℕ) → has_room_for v places ≡ true → refusal_at v places ≡ None
not_full v places room = ap (λ b. if b then None else Some CommitFull) room

pub has_no_space : (v : HeapView) (size : ℕ) (places : List ℕ) → LacksSpace v size → refusal_of_space v size places ≡ Some HeapFull
has_no_space v size places lacks = ap (λ b. if b then Some HeapFull else refusal_at v places) (lt-ltb v.size (v.now.top + size) lacks)

pub has_some_space : (v : HeapView) (size : ℕ) (places : List ℕ) → (LacksSpace v size → ⊥) → refusal_of_space v size places ≡ refusal_at v places
has_some_space v size places fits =
    let le : v.now.top + size ≤ v.size = omega (arith, fits) in
    ap (λ b. if b then Some HeapFull else refusal_at v places) (le-ltb v.size (v.now.top + size) le)

pub has_no_cells : (v : HeapView) (event : ClearEvent) (n : ℕ) → LacksCells v.now event n → refusal_of_transient v event n ≡ Some NoTransientSpace
has_no_cells v event n lacks = ap (λ b. if b then Some NoTransientSpace else refusal_of_space v transient_size (end_address ∷ area_end_address event ∷ []))
    (lt-ltb (area_limit v.now event) (area_end v.now event + n) lacks)

pub has_some_cells : (v : HeapView) (event : ClearEvent) (n : ℕ) → (LacksCells v.now event n → ⊥)
    → refusal_of_transient v event n ≡ refusal_of_space v transient_size (end_address ∷ area_end_address event ∷ [])
has_some_cells v event n fits =
    let le : area_end v.now event + n ≤ area_limit v.now event = omega (arith, fits) in
    ap (λ b. if b then Some NoTransientSpace else refusal_of_space v transient_size (end_address ∷ area_end_address event ∷ []))
    (le-ltb (area_limit v.now event) (area_end v.now event + n) le)

-- the journal's room for a new object's change
pub end_room : (j : State) (v : HeapView) (n : ℕ) → IsWellFormed j.recovered → heap_view j n ≡ v → has_room_for v (end_address ∷ [])
    ≡ journal_room (journal_keeping j) (top_address ∷ [])
unfolding end_address
end_room j v n back is = room_is j v n (top_address ∷ []) back is

pub ends_room : (j : State) (v : HeapView) (n : ℕ) (event : ClearEvent) (w : ℕ) → IsWellFormed j.recovered → heap_view j n ≡ v
    → w ≡ area_end_address event → has_room_for v (end_address ∷ area_end_address event ∷ []) ≡ journal_room (journal_keeping j) (top_address ∷ w ∷ [])
unfolding end_address
ends_room j v n event w back is e = room_is j v n (top_address ∷ area_end_address event ∷ []) back is
    ∙ ap (λ a. journal_room (journal_keeping j) (top_address ∷ a ∷ [])) (sym e)

pub object_full : (v : HeapView) (size : ℕ) (places : List ℕ) → (LacksSpace v size → ⊥) → has_room_for v places ≡ false
    → refusal_of_space v size places ≡ Some CommitFull
object_full v size places fits none = has_some_space v size places fits ∙ is_full v places none

pub object_fits : (v : HeapView) (size : ℕ) (places : List ℕ) → (LacksSpace v size → ⊥) → has_room_for v places ≡ true → refusal_of_space v size places ≡ None
object_fits v size places fits room = has_some_space v size places fits ∙ not_full v places room

-- what is made is an object, with its header and its cells
pub made_there : (h : HeapState) (r : ℕ) (o : Object) → heap_item_at h r ≡ AnObject o → IsObject h r
made_there h r o is = ap is_object is

pub made_facts : (h : HeapState) (r : ℕ) (o : Object) → heap_item_at h r ≡ AnObject o → facts h r ≡ o.facts
made_facts h r o is = ap facts_of is

abbrev pub ended : WriteRefusal → Result (Unit {0}) WriteRefusal
ended r = Err r

down_not_full : ended StoreDown ≡ ended Full → ⊥
down_not_full e = cc

-- a change that the journal refuses: there is no room, or the store refused a write
change_stops : (m : Move) (v : HeapView) (j k : State) (n : ℕ) (places : List ℕ) (room : Bool) (r : WriteRefusal) (writes : ℕ) → writes ≡ writes_of m v → heap_view j n ≡ v
    → has_room_for v places ≡ room → (ended r ≡ ended Full → room ≡ false) → (room ≡ false → ended r ≡ ended Full)
    → (ended r ≡ ended Full → k ≡ j) → (ended r ≡ ended StoreDown → JournalStopped writes j k)
    → PerformsMovesUnless (refusal_at v places) v (after_change {A = Unit {0}} (Err (change_refusal r)) (heap_view k n)) (m ∷ []) tt
change_stops m v j k n places room StoreDown writes count is there full has kept stopped =
    let st = stopped refl in
    unless_cut {A = Unit {0}} (refusal_at v places) v (heap_view k n) m tt
    (not_full v places (there ∙ not_false room (λ none. down_not_full (has none))))
    (subst (λ w. IsTornChange w v (heap_view k n)) count (stopped_view writes j k v n is st.recovered st.down st.from st.short st.refusals))
change_stops m v j k n places room Full writes count is there full has kept stopped =
    unless_refused {A = Unit {0}} (refusal_at v places) v (heap_view k n) CommitFull (m ∷ []) tt
    (is_full v places (there ∙ full refl)) (ap (λ (i : State). heap_view i n) (kept refl) ∙ is)

pub change_refused : (x : Result (Unit {0}) ChangeRefusal) (m : Move) (v : HeapView) (j k : State) (n : ℕ) (places : List ℕ) (room : Bool) (r : WriteRefusal) (writes : ℕ) → writes ≡ writes_of m v
    → IsErrAnd x (λ e. e ≡ change_refusal r) → heap_view j n ≡ v → has_room_for v places ≡ room
    → (ended r ≡ ended Full → room ≡ false) → (room ≡ false → ended r ≡ ended Full) → (ended r ≡ ended Full → k ≡ j)
    → (ended r ≡ ended StoreDown → JournalStopped writes j k)
    → PerformsMovesUnless (refusal_at v places) v (after_change x (heap_view k n)) (m ∷ []) (tt {0})
change_refused (Ok a) m v j k n places room r writes count gave is there full has kept stopped = absurd gave
change_refused (Err e) m v j k n places room r writes count gave is there full has kept stopped =
    subst (λ (d : ChangeRefusal). PerformsMovesUnless (refusal_at v places) v (after_change {A = Unit {0}} (Err d) (heap_view k n)) (m ∷ []) (tt {0}))
    (sym gave) (change_stops m v j k n places room r writes count is there full has kept stopped)
