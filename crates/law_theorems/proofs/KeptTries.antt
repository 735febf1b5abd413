-- The tries of a PIN that stay are those that were counted before the PIN was set anew; its other cells stay.
use Rattle.std.proofs.Common.{suc, map, ◌≡◌, ℕ, ◌<◌, ◌⊎◌, ◌==◌, ◌||◌, ◌&&◌, Bool, true, false, Contains, List, [], ◌∷◌, ◌++◌, length, max, inl, inr, refl, sym, ◌∙◌, ap, subst, arith}
use Rattle.std.proofs.Common.{if◌then◌else◌}
use Rattle.std.proofs.Math.Nat.{le-max_right}
use Rattle.std.proofs.lemmas.Bool.{and_from, and_parts, cases_eq, false_from_ne_true, false≢true, lt-leb}
use Rattle.std.proofs.lemmas.List.{append_assoc, map-append}
use Rattle.std.specs.List.{list_any}
use Rattle.std.specs.Prelude.{nat_le}
use Rattle.jc_words.specs.Layout.{addresses_start}
use Rattle.jc_commit.specs.Keep.{Keeping, goes_back as journal_goes_back, unlogged_addresses, with_kept}
use Rattle.jc_commit.proofs.WhatIsKept.{keeps_old_values}
use Rattle.jc_heap.specs.declared.place.Place.{Place}
use Rattle.jc_heap.specs.declared.place.Place.TheVariants.{Cell}
use Rattle.jc_heap.specs.Heap.{HeapState, HeapView, cell_address, facts, goes_back, heap_after_change, heap_item_at, is_allocated, keeping, set_cell}
use Rattle.jc_heap.specs.Moves.{Write, SetPlaces, WriteNonAtomic, SetCells, AddObject, AddTransient, AddPackage, Begin, Commit, Abort, IsInside}
use Rattle.jc_heap.specs.Object.{header_only, is_packed, with_cell}
use Rattle.jc_heap.specs.Place.{ArePlain, cell_changes, place_at, place_word, places_of, words_at}
use Rattle.jc_heap.proofs.KeptWords.{goes_back_now, keeping_counted}
use Rattle.jc_heap.proofs.WordsAt.{words_at-append, words_at-plain}
use Rattle.jc_heap.proofs.Laws.{heap_item_at-set_cell, heap_item_at-set_other, object_named, same_facts}
use Rattle.jc_memory.specs.State.{MemoryState, Effect, HeapMove, SetTransient, SetFlag, ClearTransient, SetRegisters, BeginCommand, SendBytes}
use Rattle.jc_memory.specs.State.{apply_effect, apply_effects, moves_of}
use Rattle.jc_memory.specs.Reading.{AllEffectsDue}
use Rattle.jc_linker.specs.Values.{Packages}
use Rattle.jc_environment.specs.Pins.{counter, record_of}
use Rattle.jc_platform.specs.declared.names.PlatformClass.TheVariants.{OwnerPin}
use Rattle.jc_packages.specs.Objects.{is_bytes, is_instance, is_object_address, is_persistent_instance}
use Rattle.jc_linker.specs.Classes.{is_a}
use Rattle.law_soundness.specs.MachineLaws.Commands.{IsServed}
use Rattle.law_soundness.specs.MachineLaws.Soundness.{AreKnown}
use Rattle.law_soundness.specs.MemoryLaws.State.{IsSoundMemory}
use Rattle.law_soundness.proofs.CommandEffects.{serving_keeps}
use Rattle.law_soundness.proofs.Frames.{same_object}
use Rattle.law_soundness.specs.Loads.{AreLaidOut}
use Rattle.jc_packages.proofs.RecordArrays.{below_end}
use Rattle.law_theorems.proofs.HeapLayout.{effects_keep_layout}
use Rattle.law_theorems.specs.Tries.{PlaceStays, SetsAnew, TriesStay, is_owner_pin, value_after}
use Rattle.law_theorems.proofs.EffectWords.{IsNone, PinStands, decides, no_instance, none_of, plain_pin, words_by}
use Rattle.law_theorems.proofs.OwnerPins.{pin_stands}
use Rattle.law_theorems.proofs.Pins.{twice}
use Rattle.law_theorems.proofs.RestoredCells.{IsDurableSet, IsSame, SetsCounter, SetsByte, durable_set, header_behind, open_still, parted, set_beside}
use Rattle.law_theorems.proofs.Prefixes.{due_all}

-- ---- words that an abort takes back

module _ (v : HeapView) (h : HeapState) (places : List ℕ) (fresh w : ℕ) where
  keeping_changed : v.begun ≡ true → keeping (heap_after_change v h places fresh) ≡ with_kept (keeping v) places
  keeping_changed begun = ap (λ (b : Bool). record {
    begun = v.begun;
    born = max addresses_start (if b then v.durable else h).top;
    touched = v.touched ++ unlogged_addresses (keeping v) places;
    capacity = (if b then v.durable else h).capacity;
  }) begun

  -- a word that a change does not name goes back after it only where it did before
  away_changed : v.begun ≡ true → goes_back v w ≡ false → IsNone w places → goes_back (heap_after_change v h places fresh) w ≡ false
  away_changed begun before none = false_from_ne_true _ (λ back. by (keeps_old_values.only (keeping v) places w
      (sym (ap (λ (k : Keeping). journal_goes_back k w) (keeping_changed begun)) ∙ back)))
    where
      by : (goes_back v w ≡ true) ⊎ Contains places w → ⊥
      by (inl old) = false≢true (sym before ∙ old)
      by (inr named) = none_of w places none named

module _ (p : Packages) (m : MemoryState) (w : ℕ) (begun : m.heap.begun ≡ true) (before : goes_back m.heap w ≡ false) where
  away : (e : Effect) → IsServed p e m → IsInside (moves_of (e ∷ [])) → IsNone w (words_by e m) → goes_back (apply_effect e m).heap w ≡ false
  away (HeapMove (Write place v)) fits inside none = away_changed m.heap _ _ 0 w begun before none
  away (HeapMove (SetPlaces changes)) fits inside none = away_changed m.heap _ _ 0 w begun before none
  away (HeapMove (WriteNonAtomic place v)) fits inside none = ap (λ (k : Keeping). journal_goes_back k w) (keeping_counted m.heap place v) ∙ before
  away (HeapMove (SetCells r i words)) fits inside none = away_changed m.heap _ _ 0 w begun before none
  away (HeapMove (AddObject o size)) fits inside none = away_changed m.heap _ _ size w begun before none
  away (HeapMove (AddTransient kind event class owner long)) fits inside none = away_changed m.heap _ _ 5 w begun before none
  away (HeapMove (AddPackage components arrays image)) fits inside none = absurd fits
  away (HeapMove Begin) fits inside none = absurd inside
  away (HeapMove Commit) fits inside none = absurd inside
  away (HeapMove Abort) fits inside none = absurd inside
  away (SetTransient r i values) fits inside none = before
  away (SetFlag r flag) fits inside none = before
  away (ClearTransient event) fits inside none = before
  away (SetRegisters g) fits inside none = before
  away (BeginCommand bytes) fits inside none = before
  away (SendBytes bytes) fits inside none = before

-- ---- a PIN

among : (before : List ℕ) (word : ℕ) (more : List ℕ) → Contains (before ++ word ∷ more) word
among [] word more = (0, omega arith, refl)
among (w ∷ before) word more = let there = among before word more in (suc there.0, omega (arith, there.1), there.2)

pub among_places : (h : HeapState) (before : List (Place × ℕ)) (place : Place) (x : ℕ) (more : List (Place × ℕ)) → ArePlain h (places_of ((place, x) ∷ more))
    → Contains (words_at h (places_of (before ++ (place, x) ∷ more))) (place_word place)
among_places h before place x more plain =
    let split : words_at h (places_of (before ++ (place, x) ∷ more))
    ≡ words_at h (places_of before) ++ place_word place ∷ map place_word (places_of more) =
    ap (words_at h) (map-append (λ (c : Place × ℕ). c.0) before ((place, x) ∷ more))
    ∙ words_at-append h (places_of before) (places_of ((place, x) ∷ more)) plain
    ∙ ap (λ l. words_at h (places_of before) ++ l) (words_at-plain h (places_of ((place, x) ∷ more)) plain) in
    subst (λ l. Contains l (place_word place)) (sym split) (among (words_at h (places_of before)) (place_word place) (map place_word (places_of more)))

word_is : (p : Packages) (m : MemoryState) (r : ℕ) → PinStands p m r → place_at m.heap.now (counter r) ≡ place_word (counter r)
word_is p m r pin = ap (λ (b : Bool). cell_address r (if b then 1 else 2)) (plain_pin p m r pin)

-- as a transaction begins no word below the end goes back
pub away_at_begin : (m : MemoryState) (w : ℕ) → w < m.heap.now.top → m.heap.touched ≡ [] → goes_back (apply_effect (HeapMove Begin) m).heap w ≡ false
unfolding journal_goes_back
away_at_begin m w below untouched =
    let born = max addresses_start m.heap.now.top in
    let top = le-max_right addresses_start m.heap.now.top in
    ap (λ l. list_any (λ b. b == w) l || nat_le born w) untouched ∙ lt-leb born w (omega (arith, below, top))

same_pin : (p : Packages) (g h : HeapState) (r : ℕ) → header_only (heap_item_at g r) ≡ header_only (heap_item_at h r) → is_owner_pin p h r ≡ true
    → is_owner_pin p g r ≡ true
same_pin p g h r e is =
    let parts = and_parts (is_object_address h r) _ is in
    and_from (is_object_address g r) _ (same_object (heap_item_at g r) (heap_item_at h r) e ∙ parts.0)
    (subst (λ f. (is_persistent_instance f && is_a p f.class OwnerPin) ≡ true) (sym (same_facts (heap_item_at g r) (heap_item_at h r) e)) parts.1)

pub pin_now : (p : Packages) (m : MemoryState) (r : ℕ) → IsSoundMemory p m → is_owner_pin p m.heap.durable r ≡ true → is_owner_pin p m.heap.now r ≡ true
pin_now p m r s is = same_pin p m.heap.now m.heap.durable r
    (s.whole.shape.items r (below_end m.heap.durable r s.whole.durable.end (and_parts (is_object_address m.heap.durable r) _ is).0)) is

-- where it is set anew, the effect names its counter's word
anew_named : (r : ℕ) (e : Effect) (m : MemoryState) → is_packed (facts m.heap.now r) ≡ false → SetsAnew r e m → Contains (words_by e m) (place_word (counter r))
anew_named r (HeapMove (SetPlaces changes)) m plain (inl u) =
    let put = cell_changes (record_of m r).value 0 u.bytes in
    let limit = (record_of m r).limit in
    let joined : changes ≡ (put ++ (Cell r 3, length u.bytes) ∷ []) ++ (counter r, limit) ∷ [] =
    u.is ∙ sym (append_assoc put ((Cell r 3, length u.bytes) ∷ []) ((counter r, limit) ∷ [])) in
    subst (λ l. Contains (words_at m.heap.now (places_of l)) (place_word (counter r))) (sym joined)
    (among_places m.heap.now (put ++ (Cell r 3, length u.bytes) ∷ []) (counter r) limit [] (plain, tt))
anew_named r (HeapMove (SetPlaces changes)) m plain (inr f) =
    subst (λ l. Contains (words_at m.heap.now (places_of l)) (place_word (counter r))) (sym f.is)
    (among_places m.heap.now ((Cell r 0, f.limit) ∷ (Cell r 1, f.maximum) ∷ []) (counter r) f.limit ((Cell r 3, 0) ∷ (Cell r 4, f.value) ∷ [])
    (plain, (plain, (plain, tt))))
anew_named r e m plain sets = absurd sets

anew_changes : (r : ℕ) (e : Effect) (m : MemoryState) → m.heap.begun ≡ true → is_packed (facts m.heap.now r) ≡ false → SetsAnew r e m
    → goes_back (apply_effect e m).heap (place_word (counter r)) ≡ true
anew_changes r (HeapMove (SetPlaces changes)) m begun plain sets = goes_back_now m.heap _ (words_at m.heap.now (places_of changes)) 0 (place_word (counter r)) begun
    (anew_named r (HeapMove (SetPlaces changes)) m plain sets)
anew_changes r e m begun plain sets = absurd sets

-- ---- the memory along the way

abbrev pub IsLaidOutAt : Packages → MemoryState → Type 0
IsLaidOutAt p m = IsSoundMemory p m × AreLaidOut m

pub laid_behind : (p : Packages) (es : List Effect) (m : MemoryState) → AllEffectsDue (IsServed p) es m → IsLaidOutAt p m → IsLaidOutAt p (apply_effects es m)
laid_behind p es m served at = due_all (IsServed p) (IsLaidOutAt p)
    (λ e v due so. (serving_keeps.sound p e v due so.0, effects_keep_layout p e v due so.0 so.1)) es m served at

-- ---- a PIN stays one

module _ (p : Packages) (known : AreKnown p) (r : ℕ) where
  still_pin : (e : Effect) (m : MemoryState) → IsDurableSet p e m → is_owner_pin p m.heap.durable r ≡ true → is_owner_pin p (apply_effect e m).heap.durable r ≡ true
  still_pin e m set is = same_pin p (apply_effect e m).heap.durable m.heap.durable r (header_behind p r e m set) is

  -- ---- its tries

  -- what stays of its counter are the tries that were counted before it was set anew
  pub tries_stay : (es : List Effect) (m : MemoryState) (tries left : ℕ) → AllEffectsDue (IsServed p) es m → IsLaidOutAt p m → m.heap.begun ≡ true
      → IsInside (moves_of es) → is_owner_pin p m.heap.durable r ≡ true → goes_back m.heap (place_at m.heap.now (counter r)) ≡ false
      → PlaceStays r 2 es m tries left → TriesStay r es m tries left
  tries_stay [] m tries left served at begun inside is before stays = stays
  tries_stay (e ∷ es) m tries left served at begun inside is before stays =
      elim (decides p m at.0 at.1.now.apart r pin e served.0) [
        | inl anew ↦ inl (anew, first_stays (subst (λ w. goes_back (apply_effect e m).heap w ≡ true) (sym same) (anew_changes r e m begun plain anew)) stays)
        | inr none ↦
            let away_still : goes_back (apply_effect e m).heap (place_at m.heap.now (counter r)) ≡ false =
            away p m (place_at m.heap.now (counter r)) begun before e served.0 both.0 none in
            inr (
              λ anew. none_of (place_word (counter r)) (words_by e m) (subst (λ x. IsNone x (words_by e m)) same none) (anew_named r e m plain anew),
              tries_stay es (apply_effect e m) (value_after r 2 e tries) left served.1 later (open_still e m begun both.0) both.1 is_next
                  (ap (λ w. goes_back (apply_effect e m).heap w) (same_next ∙ sym same) ∙ away_still) (rest_stays away_still stays),
            )
      ]
    where
      both : IsInside (moves_of (e ∷ [])) × IsInside (moves_of es)
      both = parted e es inside

      pin : PinStands p m r
      pin = pin_stands p known m at.0 r (pin_now p m r at.0 is)

      plain : is_packed (facts m.heap.now r) ≡ false
      plain = plain_pin p m r pin

      same : place_at m.heap.now (counter r) ≡ place_word (counter r)
      same = word_is p m r pin

      later : IsLaidOutAt p (apply_effect e m)
      later = laid_behind p (e ∷ []) m (served.0, tt) at

      is_next : is_owner_pin p (apply_effect e m).heap.durable r ≡ true
      is_next = still_pin e m (durable_set p e m served.0 begun both.0) is

      same_next : place_at (apply_effect e m).heap.now (counter r) ≡ place_word (counter r)
      same_next = word_is p (apply_effect e m) r (pin_stands p known (apply_effect e m) later.0 r (pin_now p (apply_effect e m) r later.0 is_next))

      first_stays : goes_back (apply_effect e m).heap (place_at m.heap.now (counter r)) ≡ true → PlaceStays r 2 (e ∷ es) m tries left → left ≡ tries
      first_stays back (inl first) = first.1
      first_stays back (inr others) = absurd (others.0 (before, back))

      rest_stays : goes_back (apply_effect e m).heap (place_at m.heap.now (counter r)) ≡ false → PlaceStays r 2 (e ∷ es) m tries left
          → PlaceStays r 2 es (apply_effect e m) (value_after r 2 e tries) left
      rest_stays still (inl first) = absurd (false≢true (sym still ∙ first.0.1))
      rest_stays still (inr others) = others.1

  -- ---- its other cells

  -- but for its counter it stays as it is
  set_pin : (b : Bool) (d : HeapState) (q v x : ℕ) → is_allocated d r ≡ true
      → with_cell (heap_item_at (if b then d else set_cell d q 2 v) r) 2 x ≡ with_cell (heap_item_at d r) 2 x
  set_pin true d q v x there = refl
  set_pin false d q v x there = elim (cases_eq q r) [
    | inl same ↦ (λ k. with_cell (heap_item_at (set_cell d (same k) 2 v) r) 2 x) ∙ ap (λ t. with_cell t 2 x) (heap_item_at-set_cell d r 2 v there)
        ∙ twice (heap_item_at d r) v x
    | inr other ↦ ap (λ t. with_cell t 2 x) (heap_item_at-set_other d q 2 v r other)
  ]

  one_item : (e : Effect) (m : MemoryState) (x : ℕ) → IsDurableSet p e m → IsSoundMemory p m → is_owner_pin p m.heap.durable r ≡ true
      → with_cell (heap_item_at (apply_effect e m).heap.durable r) 2 x ≡ with_cell (heap_item_at m.heap.durable r) 2 x
  one_item e m x (IsSame same) s is = ap (λ d. with_cell (heap_item_at d r) 2 x) same
  one_item e m x (SetsCounter q v set object) s is =
      subst (λ f. with_cell (heap_item_at (apply_effect f m).heap.durable r) 2 x ≡ with_cell (heap_item_at m.heap.durable r) 2 x)
      (sym set) (set_pin (goes_back m.heap (place_at m.heap.now (Cell q 2))) m.heap.durable q v x
      (object_named m.heap.durable r (and_parts (is_object_address m.heap.durable r) _ is).0))
  one_item e m x (SetsByte q j v set kind persistent) s is =
      subst (λ f. with_cell (heap_item_at (apply_effect f m).heap.durable r) 2 x ≡ with_cell (heap_item_at m.heap.durable r) 2 x)
      (sym set) (ap (λ t. with_cell t 2 x) (set_beside (goes_back m.heap (place_at m.heap.now (Cell q j))) m.heap.durable r q j v other))
    where
      other : q ≡ r → ⊥
      other same =
          let pin = pin_stands p known m s r (pin_now p m r s is) in
          no_instance (facts m.heap.now r).kind (subst (λ a. is_bytes (facts m.heap.now a).kind ≡ true) same (ap is_bytes kind))
          (and_parts (is_instance (facts m.heap.now r).kind) _ pin.kept).0

  pub pin_item : (es : List Effect) (m : MemoryState) (x : ℕ) → AllEffectsDue (IsServed p) es m → IsSoundMemory p m → m.heap.begun ≡ true
      → IsInside (moves_of es) → is_owner_pin p m.heap.durable r ≡ true
      → with_cell (heap_item_at (apply_effects es m).heap.durable r) 2 x ≡ with_cell (heap_item_at m.heap.durable r) 2 x
  pin_item [] m x served s begun inside is = refl
  pin_item (e ∷ es) m x served s begun inside is =
      let both = parted e es inside in
      pin_item es (apply_effect e m) x served.1 (serving_keeps.sound p e m served.0 s) (open_still e m begun both.0) both.1
      (still_pin e m (durable_set p e m served.0 begun both.0) is)
      ∙ one_item e m x (durable_set p e m served.0 begun both.0) s is
