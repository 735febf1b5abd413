-- The tries of a PIN change by its own calls alone, and as changes are taken back.
use Rattle.std.proofs.Common.{◌≡◌, ◌+◌, false, ℕ, suc, ◌<◌, ◌≤◌, ◌⊎◌, true, inl, inr, List, [], ◌∷◌, ◌++◌, get_or, length, set, None, sym, ◌∙◌, ap, subst, arith}
use Rattle.std.proofs.lemmas.Bool.{and_parts, cases_eq, true≢false}
use Rattle.std.proofs.lemmas.List.{get_or-set_other}
use Rattle.std.proofs.lemmas.Option.{none-some}
use Rattle.jc_heap.specs.declared.object.Facts.{Facts}
use Rattle.jc_heap.specs.declared.object.Kind.{Kind}
use Rattle.jc_heap.specs.declared.place.Place.{Place}
use Rattle.jc_heap.specs.declared.place.Place.TheVariants.{Cell, Static, Registry, AppletCount}
use Rattle.jc_heap.specs.Object.{Object, AnObject, cells_of, facts_of, is_object, with_cell}
use Rattle.jc_heap.specs.Heap.{HasEnd, HeapState, add_object, add_transient, facts, heap_item_at, is_allocated, set_cell, set_cells}
use Rattle.jc_heap.specs.Moves.{Write, SetPlaces, WriteNonAtomic, SetCells, AddObject, AddTransient, AddPackage, Begin, Commit, Abort}
use Rattle.jc_heap.specs.Package.{add_arrays, array_object, array_size, package_owner, package_record, push_package}
use Rattle.jc_heap.specs.Place.{cell_changes, set_place, set_places}
use Rattle.jc_heap.proofs.KeepingPackages.{end-add, end-push}
use Rattle.jc_heap.proofs.Laws.{heap_item_at-add_other, heap_item_at-set_cell, object_named}
use Rattle.jc_heap.proofs.NewPackages.{top-push}
use Rattle.jc_memory.specs.State.{MemoryState, Effect, HeapMove, SetTransient, SetFlag, ClearTransient, SetRegisters, BeginCommand, SendBytes}
use Rattle.jc_memory.specs.State.{apply_effect}
use Rattle.jc_memory.specs.Reading.{AllDue, AllEffectsDue}
use Rattle.jc_memory.proofs.ProgramLemmas.{due_before}
use Rattle.jc_linker.specs.Values.{Packages}
use Rattle.jc_environment.specs.Pins.{counter, record_of}
use Rattle.jc_environment.specs.Pins.PinInit.{first_record}
use Rattle.jc_environment.specs.Pins.Updates.{changes_of_update}
use Rattle.jc_platform.specs.declared.names.PlatformClass.TheVariants.{OwnerPin}
use Rattle.jc_card.specs.Answers.{exchange}
use Rattle.jc_packages.specs.Objects.{is_bytes, is_instance, is_object_address, is_persistent_instance}
use Rattle.jc_linker.specs.Classes.{is_a}
use Rattle.law_code.proofs.OnHeap.{StandsBeside, count_set, not_top, place_set, registry_set, transient_added}
use Rattle.law_soundness.specs.MachineLaws.Commands.{IsServed}
use Rattle.law_soundness.specs.MemoryLaws.Fit.{FitPlaces, FitsChange, FitsPlace, FitsRun, IsPinObject, OfPin, OfPlaces, OfRegistry, OfValue}
use Rattle.law_soundness.specs.MemoryLaws.State.{IsSoundMemory}
use Rattle.law_soundness.proofs.Effects.{event_none}
use Rattle.law_theorems.specs.Cards.{IsOwnCard}
use Rattle.law_theorems.proofs.Separation.{record_some}
use Rattle.jc_packages.proofs.RecordArrays.{below_end, item_behind}
use Rattle.law_theorems.proofs.Sessions.{linked_known}
use Rattle.law_soundness.proofs.AddedPackages.{item-push_other}
use Rattle.law_theorems.specs.Outcomes.{memory_at}
use Rattle.law_theorems.specs.Tries.{SetsAnew}
use Rattle.law_theorems.specs.SessionTheorems.TryChanges.{Renews, TriesChangeByPinCalls}
use Rattle.law_theorems.proofs.CardsAtRest.{comes_own}
use Rattle.law_theorems.proofs.EffectWords.{PinStands, is_value, no_instance}
use Rattle.law_theorems.proofs.OwnerPins.{an_object, pin_stands}
use Rattle.law_theorems.proofs.Prefixes.{behind_both, due_after, due_all}
use Rattle.law_theorems.proofs.ServedEffects.{AddsPackage, IsFine, commands_fine, sound_behind}
use Rattle.law_code.proofs.AtomicEffects.{due_begun}

-- the place is not the counter of this PIN
abbrev IsBeside : ℕ → Place → Type 0
IsBeside q place = place ≡ counter q → ⊥

abbrev AreBeside : ℕ → List (Place × ℕ) → Type 0
AreBeside q [] = Unit {0}
AreBeside q (c ∷ cs) = IsBeside q c.0 × AreBeside q cs

abbrev object_of : Place → ℕ
object_of (Cell r i) = r
object_of _ = 0

abbrev index_of : Place → ℕ
index_of (Cell r i) = i
index_of _ = 0

abbrev is_cell : Place → Type 0
is_cell (Cell r i) = Unit {0}
is_cell _ = ⊥

no_cell : (q : ℕ) (place : Place) → (is_cell place → ⊥) → IsBeside q place
no_cell q place none e = none (subst is_cell (sym e) tt)

-- ---- the third cell stays

-- a persistent object with these facts stands there, with this in its third cell
pub record Holds (q n : ℕ) (f : Facts) (h : HeapState) : Type 0 where
  pub object : Object
  pub item : heap_item_at h q ≡ AnObject object
  pub persistent : object.facts.event ≡ None
  pub tries : get_or object.cells 2 0 ≡ n
  pub same : object.facts ≡ f

module _ (q n : ℕ) (f : Facts) where
  -- where its item stays it holds the same
  as_it_stands : (h new : HeapState) (held : Holds q n f h) → heap_item_at new q ≡ AnObject held.object → Holds q n f new
  as_it_stands h new held item = record { object = held.object; item = item; persistent = held.persistent; tries = held.tries; same = held.same }

  beside : (h : HeapState) (held : Holds q n f h) → StandsBeside q held.object h
  beside h held = record {
    item = held.item;
    beside = λ event e r ne is. absurd (none-some event (sym held.persistent ∙ e));
    below = λ event e. absurd (none-some event (sym held.persistent ∙ e));
  }

  own_cell : (h : HeapState) (i v : ℕ) → (i ≡ 2 → ⊥) → Holds q n f h → Holds q n f (set_cell h q i v)
  own_cell h i v other held = record {
    object = record (held.object) { cells = set (held.object).cells i v };
    item = heap_item_at-set_cell h q i v (object_named h q (ap is_object held.item)) ∙ ap (λ t. with_cell t i v) held.item;
    persistent = held.persistent;
    tries = get_or-set_other (held.object).cells i 2 v 0 (λ e. other (sym e)) ∙ held.tries;
    same = held.same;
  }

  pub held_place : (h : HeapState) (place : Place) (v : ℕ) → IsBeside q place → Holds q n f h → Holds q n f (set_place h place v)
  held_place h (Cell r i) v other held = elim (cases_eq r q) [
    | inl same ↦ subst (λ x. Holds q n f (set_cell h x i v)) (sym same) (own_cell h i v (λ two. other (ap (λ x. Cell x i) same ∙ ap (Cell q) two)) held)
    | inr ne ↦ as_it_stands h (set_cell h r i v) held (place_set q held.object h (Cell r i) v ne (beside h held)).item
  ]
  held_place h (Static r j) v other held = as_it_stands h (set_place h (Static r j) v) held (place_set q held.object h (Static r j) v tt (beside h held)).item
  held_place h (Registry k) v other held = as_it_stands h (set_place h (Registry k) v) held (registry_set q held.object h k v (beside h held)).item
  held_place h AppletCount v other held = as_it_stands h (set_place h AppletCount v) held (count_set q held.object h v (beside h held)).item

  held_cells : (r i : ℕ) (vs : List ℕ) (h : HeapState) → ((k : ℕ) → k < length vs → IsBeside q (Cell r (i + k))) → Holds q n f h
      → Holds q n f (set_cells h r i vs)
  held_cells r i [] h other held = held
  held_cells r i (v ∷ vs) h other held =
      let here : i + 0 ≡ i = omega arith in
      held_cells r (suc i) vs (set_cell h r i v)
      (λ k lt. let next : i + suc k ≡ suc i + k = omega arith in subst (λ j. IsBeside q (Cell r j)) next (other (suc k) (omega (arith, lt))))
      (held_place h (Cell r i) v (subst (λ j. IsBeside q (Cell r j)) here (other 0 (omega arith))) held)

  held_places : (cs : List (Place × ℕ)) (h : HeapState) → AreBeside q cs → Holds q n f h → Holds q n f (set_places h cs)
  held_places [] h other held = held
  held_places (c ∷ cs) h other held = held_places cs (set_place h c.0 c.1) other.1 (held_place h c.0 c.1 other.0 held)

-- ---- what effects set

other_object : (q r i : ℕ) → (r ≡ q → ⊥) → IsBeside q (Cell r i)
other_object q r i other e = other (ap object_of e)

beside_append : (q : ℕ) (cs ds : List (Place × ℕ)) → AreBeside q cs → AreBeside q ds → AreBeside q (cs ++ ds)
beside_append q [] ds first second = second
beside_append q (c ∷ cs) ds first second = (first.0, beside_append q cs ds first.1 second)

beside_put : (q array i : ℕ) (bytes : List ℕ) → (0 < length bytes → array ≡ q → ⊥) → AreBeside q (cell_changes array i bytes)
beside_put q array i [] other = tt
beside_put q array i (b ∷ bs) other = (other_object q array i (other (omega arith)), beside_put q array (suc i) bs (λ some. other (omega arith)))

module _ (p : Packages) (m : MemoryState) (s : IsSoundMemory p m) (q : ℕ) (pin : PinStands p m q) where
  kept_of : (r : ℕ) → r ≡ q → is_persistent_instance (facts m.heap.now r) ≡ true
  kept_of r same = subst (λ x. is_persistent_instance (facts m.heap.now x) ≡ true) (sym same) pin.kept

  class_of : (r : ℕ) → r ≡ q → is_a p (facts m.heap.now r).class OwnerPin ≡ true
  class_of r same = subst (λ x. is_a p (facts m.heap.now x).class OwnerPin ≡ true) (sym same) pin.pin

  place_beside : (place : Place) (v : ℕ) → FitsPlace p m.heap.now place v → IsBeside q place
  place_beside (Cell r i) v fits = λ e.
      let same : r ≡ q = ap object_of e in
      let two : i ≡ 2 = ap index_of e in
      let low = (fits.1.0 (kept_of r same)).pin (class_of r same) in omega (arith, low, two)
  place_beside (Static r j) v fits = no_cell q (Static r j) (λ x. x)
  place_beside (Registry j) v fits = absurd fits
  place_beside AppletCount v fits = absurd fits

  places_beside : (cs : List (Place × ℕ)) → FitPlaces p m.heap.now cs → AreBeside q cs
  places_beside [] fits = tt
  places_beside (c ∷ cs) fits = (place_beside c.0 c.1 fits.0, places_beside cs fits.1)

  run_beside : (r i : ℕ) (vs : List ℕ) → FitsRun p m r i vs → (k : ℕ) → k < length vs → IsBeside q (Cell r (i + k))
  run_beside r i vs fits k lt = λ e.
      let same : r ≡ q = ap object_of e in
      let two : i + k ≡ 2 = ap index_of e in
      elim (fits.0 (kept_of r same)) [
        | inl aid ↦ true≢false (sym (class_of r same) ∙ aid.pin)
        | inr fields ↦ let low = (fields.fits k lt).pin (class_of r same) in omega (arith, low, two)
      ]

  value_other : (r : ℕ) (bytes : List ℕ) → IsPinObject p m r → length bytes ≤ (record_of m r).maximum → 0 < length bytes → (record_of m r).value ≡ q → ⊥
  value_other r bytes object short some same =
      let b = and_parts (is_bytes (facts m.heap.now (record_of m r).value).kind) _ (is_value p m s r object (omega (arith, some, short))) in
      no_instance (facts m.heap.now q).kind (subst (λ x. is_bytes (facts m.heap.now x).kind ≡ true) same b.0)
      (and_parts (is_instance (facts m.heap.now q).kind) _ pin.kept).0

  changes_beside : (cs : List (Place × ℕ)) → FitsChange p m cs → SetsAnew q (HeapMove (SetPlaces cs)) m ⊎ AreBeside q cs
  changes_beside cs (OfPlaces fits) = inr (places_beside cs fits)
  changes_beside cs (OfPin f) = elim (cases_eq f.pin q) [
    | inl same ↦ inl (inr (record {
      limit = f.limit;
      maximum = f.maximum;
      value = f.value;
      is = f.is ∙ ap (λ r. first_record r f.limit f.maximum f.value) same;
    }))
    | inr other ↦
        let ne : (i : ℕ) → IsBeside q (Cell f.pin i) = λ i. other_object q f.pin i other in
        inr (subst (AreBeside q) (sym f.is) (ne 0, (ne 1, (ne 2, (ne 3, (ne 4, tt))))))
  ]
  changes_beside cs (OfValue f) = elim (cases_eq f.pin q) [
    | inl same ↦ inl (inl (record { bytes = f.bytes; is = f.is ∙ ap (λ r. changes_of_update (record_of m r) r f.bytes) same }))
    | inr other ↦ inr (subst (AreBeside q) (sym f.is) (beside_append q (cell_changes (record_of m f.pin).value 0 f.bytes) _
        (beside_put q (record_of m f.pin).value 0 f.bytes (value_other f.pin f.bytes f.object f.short))
        (other_object q f.pin 3 other, (other_object q f.pin 2 other, tt))))
  ]
  changes_beside cs (OfRegistry f) = inr (subst (AreBeside q) (sym f.is)
      (no_cell q (Registry _) (λ x. x), (no_cell q (Registry _) (λ x. x), (no_cell q (Registry _) (λ x. x), (no_cell q AppletCount (λ x. x), tt)))))

  module _ (n : ℕ) (f : Facts) (held : Holds q n f m.heap.now) where
    held_changes : (cs : List (Place × ℕ)) → SetsAnew q (HeapMove (SetPlaces cs)) m ⊎ AreBeside q cs → (Renews q (HeapMove (SetPlaces cs)) m → ⊥)
        → Holds q n f (set_places m.heap.now cs)
    held_changes cs (inl anew) none = absurd (none anew)
    held_changes cs (inr others) none = held_places q n f cs m.heap.now others held

    free : is_allocated m.heap.now m.heap.now.top ≡ false
    free = s.whole.now.end m.heap.now.top (omega arith)

    pub held_behind : (e : Effect) → IsServed p e m → (Renews q e m → ⊥) → Holds q n f (apply_effect e m).heap.now
    held_behind (HeapMove (Write place v)) fits none = held_place q n f m.heap.now place v (place_beside place v fits) held
    held_behind (HeapMove (SetPlaces cs)) fits none = held_changes cs (changes_beside cs fits) none
    held_behind (HeapMove (WriteNonAtomic place v)) fits none = held_place q n f m.heap.now place v none held
    held_behind (HeapMove (SetCells r i vs)) fits none = held_cells q n f r i vs m.heap.now (run_beside r i vs fits.1) held
    held_behind (HeapMove (AddObject o size)) fits none = as_it_stands q n f m.heap.now (add_object m.heap.now o size) held
        (heap_item_at-add_other m.heap.now o size q (not_top q held.object m.heap.now free held.item) ∙ held.item)
    held_behind (HeapMove (AddTransient kind event class owner long)) fits none =
        as_it_stands q n f m.heap.now (add_transient m.heap.now kind event class owner long) held
        (transient_added q held.object m.heap.now kind event class owner long free (beside q n f m.heap.now held)).item
    held_behind (HeapMove (AddPackage components arrays rest)) fits none = absurd fits
    held_behind (HeapMove Begin) fits none = held
    held_behind (HeapMove Commit) fits none = held
    held_behind (HeapMove Abort) fits none = absurd (none tt)
    held_behind (SetTransient r i values) fits none = held
    held_behind (SetFlag r flag) fits none = held
    held_behind (ClearTransient event) fits none = held
    held_behind (SetRegisters g) fits none = held
    held_behind (BeginCommand bytes) fits none = held
    held_behind (SendBytes bytes) fits none = held

-- ---- at the moments of a command

served_tries : (p : Packages) (e : Effect) (m : MemoryState) (q : ℕ) → IsSoundMemory p m → PinStands p m q → IsServed p e m → (Renews q e m → ⊥)
    → get_or (cells_of (heap_item_at (apply_effect e m).heap.now q)) 2 0 ≡ get_or (cells_of (heap_item_at m.heap.now q)) 2 0
served_tries p e m q s pin served none =
    let found = an_object (heap_item_at m.heap.now q) pin.there in
    let n = get_or (cells_of (heap_item_at m.heap.now q)) 2 0 in
    let f = facts m.heap.now q in
    let held : Holds q n f m.heap.now = record {
      object = found.0;
      item = found.1;
      persistent = ap (λ t. (facts_of t).event) (sym found.1) ∙ event_none (facts m.heap.now q) pin.kept;
      tries = ap (λ t. get_or (cells_of t) 2 0) (sym found.1);
      same = ap facts_of (sym found.1);
    } in
    let behind = held_behind p m s q pin n f held e served none in
    ap (λ t. get_or (cells_of t) 2 0) behind.item ∙ behind.tries

-- a package leaves what stands below the end, and has its own
arrays_end : (h : HeapState) (owner : ℕ) (xs : List (Kind × List ℕ)) → HasEnd h → HasEnd (add_arrays h owner xs)
arrays_end h owner [] end = end
arrays_end h owner (a ∷ xs) end = arrays_end (add_object h (array_object owner a) (array_size a)) owner xs (end-add h (array_object owner a) (array_size a) (omega arith) end)

pub added_end : (e : Effect) (m : MemoryState) → AddsPackage e m → HasEnd m.heap.now → HasEnd (apply_effect e m).heap.now
added_end (HeapMove (AddPackage cs xs rest)) m adds end =
    let words = package_record m.heap.now.top cs xs rest in
    arrays_end (push_package m.heap.now words) (package_owner (m.heap.now.counts.0 + 1)) xs
    (end-push m.heap.now words (record_some m.heap.now.top cs xs rest) end)
added_end e m adds end = absurd adds

added_item : (e : Effect) (m : MemoryState) (q : ℕ) → AddsPackage e m → q < m.heap.now.top → heap_item_at (apply_effect e m).heap.now q ≡ heap_item_at m.heap.now q
added_item (HeapMove (AddPackage cs xs rest)) m q adds low =
    let words = package_record m.heap.now.top cs xs rest in
    let top = top-push m.heap.now words in
    item_behind (push_package m.heap.now words) (package_owner (m.heap.now.counts.0 + 1)) xs q (omega (arith, low, top)) ∙ item-push_other m.heap.now words q low
added_item e m q adds low = absurd adds

pub tries_change : TriesChangeByPinCalls
tries_change t card bytes es e q comes is none =
    let own : IsOwnCard t card = comes_own t _ comes.comes in
    ap (λ (m : MemoryState). get_or (cells_of (heap_item_at m.heap.now q)) 2 0) (behind_both es (e ∷ []) card.memory) ∙ by own (commands_fine t card own bytes comes.are)
  where
    due : (P : Effect → MemoryState → Type 0) → AllDue P (exchange bytes card) card.memory → AllEffectsDue P (es ++ (e ∷ [])) card.memory
    due P all = due_begun P (exchange bytes card) card.memory (es ++ (e ∷ [])) all comes.begins

    by : IsOwnCard t card → IsFine card.packages (exchange bytes card) card.memory
        → get_or (cells_of (heap_item_at (apply_effect e (memory_at card es)).heap.now q)) 2 0 ≡ get_or (cells_of (heap_item_at (memory_at card es).heap.now q)) 2 0
    by own (inl served) =
        let all = due (IsServed card.packages) served in
        let sound : IsSoundMemory card.packages (memory_at card es) = sound_behind card.packages es card.memory (due_before (IsServed card.packages) es (e ∷ []) card.memory all) own.ready.sound in
        served_tries card.packages e (memory_at card es) q sound (pin_stands card.packages (linked_known card.packages own.linked) (memory_at card es) sound q is)
        (due_after (IsServed card.packages) es (e ∷ []) card.memory all).0 none
    by own (inr adds) =
        let all = due AddsPackage adds in
        let end : HasEnd (memory_at card es).heap.now = due_all AddsPackage (λ m. HasEnd m.heap.now) added_end es card.memory
        (due_before AddsPackage es (e ∷ []) card.memory all) own.ready.sound.whole.now.end in
        ap (λ x. get_or (cells_of x) 2 0) (added_item e (memory_at card es) q (due_after AddsPackage es (e ∷ []) card.memory all).0
        (below_end (memory_at card es).heap.now q end (and_parts (is_object_address (memory_at card es).heap.now q) _ is).0))
