-- Words that the journal writes as one change: what the heap then is.
use Rattle.std.proofs.Common.{◌≡◌, ℕ, ◌<◌, ◌-◌, false, List, [], ◌∷◌, ◌++◌, length, set, get_or, refl, sym, ◌∙◌, ap, subst, arith, inl, inr}
use Rattle.std.proofs.lemmas.Bool.{cases_lt}
use Rattle.std.proofs.lemmas.List.{length-append, map-append, get_or_append_left, get_or-append_right}
use Rattle.jc_words.specs.Layout.{top_address}
use Rattle.jc_commit.specs.Image.{with_words, IsPlace}
use Rattle.jc_commit.specs.Entries.{addresses_of, ArePlaces, AreDistinct}
use Rattle.jc_commit.specs.Keep.{has_room_for as journal_room, writes_for as journal_writes}
use Rattle.jc_commit.specs.State.{State, Changes, keeping as journal_keeping, IsTornWrite as JournalStopped}
use Rattle.jc_heap.specs.Image.{IsWellFormed}
use Rattle.jc_heap.specs.Heap.{HeapState, HeapView, heap_view, heap_of, heap_after_change, has_room_for, writes_for, SameShape, IsSound}
use Rattle.jc_heap.proofs.Changing.{change_view, change_sound}
use Rattle.jc_heap.specs.Moves.{Move, PerformsMovesUnless, apply_move, writes_of, refusal_at}
use Rattle.jc_heap.specs.Completions.{Completed, Done, after_change}
use Rattle.jc_heap.specs.Refusal.{change_refusal}
use Rattle.jc_heap.specs.declared.refusal.ChangeRefusal.{ChangeRefusal}
use Rattle.jc_commit.specs.declared.refusal.WriteRefusal.{WriteRefusal}
use Rattle.jc_commit.specs.declared.refusal.WriteRefusal.TheVariants.{StoreDown, Full}
use Rattle.std.specs.Prelude.{Result, IsErrAnd}
use Rattle.jc_heap.proofs.Calls.{room_is, count_is, not_false, not_full, unless_done, change_refused, ended}
use Rattle.jc_heap.proofs.Changing.{refusal_cases, journal_stopped_sound}

-- words stand for a heap, and have the top that these have
abbrev pub StandsFor : List ℕ → List ℕ → HeapState → Type 0
StandsFor ws us h = (heap_of us ≡ h) × IsWellFormed us × (get_or us top_address 0 ≡ get_or ws top_address 0)

-- words to be written to words: the heap that is there then, and the addresses at which they stand
pub record IsWritten (ws : List ℕ) (words : List (ℕ × ℕ)) (h : HeapState) (places : List ℕ) : Type 0 where
  pub stands : StandsFor ws (with_words ws words) h
  pub shape : (d : HeapState) → SameShape d (heap_of ws) → SameShape d h
  pub addresses : addresses_of words ≡ places
  pub each : ArePlaces (length ws) words
  pub distinct : AreDistinct (addresses_of words)

module _ (j : State) (v : HeapView) (n : ℕ) (words : List (ℕ × ℕ)) (h : HeapState) (places : List ℕ) (is : heap_view j n ≡ v)
    (w : IsWritten j.plain words h places) where
  pub written_view : (k : State) → IsWellFormed j.recovered → Changes words j k → heap_view k n ≡ heap_after_change v h places 0
  written_view k back c =
      change_view words j k n h back c w.stands.0
      ∙ ap (λ a. heap_after_change (heap_view j n) h a 0) w.addresses
      ∙ ap (λ u. heap_after_change u h places 0) is

  pub written_sound : (k : State) → j.down ≡ false → IsSound j n → Changes words j k → IsSound k n
  written_sound k up s c =
      change_sound words j k n c up s.back s.size_recovered (s.size_now up) s.small w.stands.1
      (λ _. omega (arith, s.order up, w.stands.2))
      (λ _. subst (SameShape (heap_of j.recovered)) (sym w.stands.0) (w.shape (heap_of j.recovered) (s.shape up)))

  pub written_room : IsWellFormed j.recovered → has_room_for v places ≡ journal_room (journal_keeping j) (addresses_of words)
  written_room back = room_is j v n places back is ∙ ap (journal_room (journal_keeping j)) (sym w.addresses)

  pub written_count : IsWellFormed j.recovered → journal_writes (journal_keeping j) (addresses_of words) ≡ writes_for v places
  written_count back = ap (journal_writes (journal_keeping j)) w.addresses ∙ count_is j v n places back is

  -- the call that wrote them made its move
  pub written_done : (k : State) (m : Move) → IsWellFormed j.recovered → (journal_room (journal_keeping j) (addresses_of words) ≡ false → ⊥)
      → Changes words j k → heap_after_change v h places 0 ≡ apply_move m v
      → PerformsMovesUnless {A = Unit {0}} (refusal_at v places) v (Completed (Done tt) (heap_view k n)) (m ∷ []) tt
  written_done k m back room c moved =
      unless_done {A = Unit {0}} (refusal_at v places) v (heap_view k n) m tt tt
      (not_full v places (written_room back ∙ not_false (journal_room (journal_keeping j) (addresses_of words)) room)) refl (written_view k back c ∙ moved)

  -- the call that was refused made no move, or none of what is durable
  pub written_refused : (x : Result (Unit {0}) ChangeRefusal) (m : Move) (k : State) (r : WriteRefusal) → IsWellFormed j.recovered
      → IsErrAnd x (λ e. e ≡ change_refusal r)
      → (ended r ≡ ended Full → journal_room (journal_keeping j) (addresses_of words) ≡ false)
      × (journal_room (journal_keeping j) (addresses_of words) ≡ false → ended r ≡ ended Full)
      → (ended r ≡ ended Full → k ≡ j) → (ended r ≡ ended StoreDown → JournalStopped (journal_writes (journal_keeping j) (addresses_of words)) j k)
      → writes_for v places ≡ writes_of m v → PerformsMovesUnless (refusal_at v places) v (after_change x (heap_view k n)) (m ∷ []) (tt {0})
  written_refused x m k r back gave full kept stopped count =
      change_refused x m v j k n places (journal_room (journal_keeping j) (addresses_of words)) r (journal_writes (journal_keeping j) (addresses_of words)) (written_count back ∙ count) gave is (written_room back) full.0 full.1 kept stopped

-- a heap whose journal refused a write is sound
pub refused_sound : {writes : ℕ} (j k : State) (n : ℕ) (r : WriteRefusal) → IsSound j n → (ended r ≡ ended Full → k ≡ j) → (ended r ≡ ended StoreDown → JournalStopped writes j k)
    → IsSound k n
refused_sound {writes = writes} j k n r s kept stopped = elim (refusal_cases r) [
  | inl e ↦ journal_stopped_sound writes j k n (stopped (ap ended e)) s
  | inr e ↦ subst (λ (i : State). IsSound i n) (sym (kept (ap ended e))) s
]

-- one run of words after another
pub with_words-append : (ws : List ℕ) (xs ys : List (ℕ × ℕ)) → with_words ws (xs ++ ys) ≡ with_words (with_words ws xs) ys
with_words-append ws [] ys = refl
with_words-append ws (x ∷ xs) ys = with_words-append (set ws x.0 x.1) xs ys

pub places-append : (n : ℕ) (xs ys : List (ℕ × ℕ)) → ArePlaces n xs → ArePlaces n ys → ArePlaces n (xs ++ ys)
places-append n xs ys first second k lt = elim (cases_lt k (length xs)) [
  | inl low ↦ subst (λ (c : ℕ × ℕ). IsPlace n c.0) (sym (get_or_append_left xs ys (0, 0) k low)) (first k low)
  | inr high ↦ subst (λ (c : ℕ × ℕ). IsPlace n c.0) (sym (get_or-append_right xs ys (length xs) k (0, 0) refl high))
      (second (k - length xs) (omega (arith, lt, length-append xs ys, high)))
]

pub distinct-append : (xs ys : List ℕ) → AreDistinct xs → AreDistinct ys
    → ((k m d : ℕ) → k < length xs → m < length ys → get_or xs k d ≡ get_or ys m d → ⊥) → AreDistinct (xs ++ ys)
distinct-append xs ys first second apart i k d less lt e = elim (cases_lt k (length xs)) [
  | inl low ↦
      first i k d less low (sym (get_or_append_left xs ys d i (omega (arith, less, low))) ∙ e ∙ get_or_append_left xs ys d k low)
  | inr high ↦
      let right : get_or (xs ++ ys) k d ≡ get_or ys (k - length xs) d = get_or-append_right xs ys (length xs) k d refl high in
      let within : k - length xs < length ys = omega (arith, lt, length-append xs ys, high) in
      elim (cases_lt i (length xs)) [
        | inl near ↦ apart i (k - length xs) d near within (sym (get_or_append_left xs ys d i near) ∙ e ∙ right)
        | inr far ↦ second (i - length xs) (k - length xs) d (omega (arith, less, far)) within
            (sym (get_or-append_right xs ys (length xs) i d refl far) ∙ e ∙ right)
      ]
]

pub addresses-append : (xs ys : List (ℕ × ℕ)) → addresses_of (xs ++ ys) ≡ addresses_of xs ++ addresses_of ys
addresses-append xs ys = map-append (λ (c : ℕ × ℕ). c.0) xs ys
