-- Effects that fit leave a sound memory sound.
use Rattle.std.proofs.Common.{◌≡◌, ℕ, suc, ◌+◌, ◌<◌, ◌≤◌, ◌++◌, Bool, true, false, inl, inr, List, [], ◌∷◌, length, get_or, refl, sym, ◌∙◌, ap}
use Rattle.std.proofs.Common.{subst, arith, None, if◌then◌else◌, nat_le}
use Rattle.std.proofs.lemmas.List.{length-set}
use Rattle.std.proofs.lemmas.Bool.{and_parts, cases_Bool, cases_lt, leb-true, false≢true}
use Rattle.jc_transient.specs.declared.cell.ClearEvent.{ClearEvent}
use Rattle.jc_heap.specs.declared.object.Facts.{Facts}
use Rattle.jc_heap.specs.declared.object.Kind.{Kind}
use Rattle.jc_heap.specs.declared.object.Kind.TheVariants.{ByteArray, ReferenceArray}
use Rattle.jc_heap.specs.declared.place.Place.{Place}
use Rattle.jc_heap.specs.declared.place.Place.TheVariants.{Cell, Static, Registry, AppletCount}
use Rattle.jc_heap.specs.Object.{facts_of, header_only, is_object, new_object, object_size, transient_size}
use Rattle.jc_heap.specs.Heap.{HeapState, LacksCells, add_object, add_transient, cells, facts, goes_back, heap_item_at, is_allocated, set_cell, set_cells}
use Rattle.jc_heap.specs.HeapLaws.{AreLegalValues, IsLegalValue}
use Rattle.jc_heap.specs.Moves.{Move, Write, SetPlaces, WriteNonAtomic, SetCells, AddObject, AddTransient, AddPackage, Begin, Commit, Abort, new_move}
use Rattle.jc_heap.specs.Place.{applet_changes, place_at, set_places, cell_changes}
use Rattle.jc_heap.specs.Statics.{set_word}
use Rattle.jc_heap.specs.WholeHeap.{IsReference}
use Rattle.jc_heap.proofs.KeepingMoves.{keeps}
use Rattle.jc_heap.proofs.KeptWords.{outside_none_goes_back}
use Rattle.jc_heap.proofs.Laws.{header_only-set_cell, facts-set_cell, heap_item_at-absent, same_facts, set_cell-absent}
use Rattle.jc_heap.proofs.RecordWords.{header_only-set_word}
use Rattle.jc_memory.specs.Cells.{word_at, word_in}
use Rattle.jc_transient.specs.Owners.{owner_number}
use Rattle.jc_memory.specs.State.{MemoryState, Effect, HeapMove, SetTransient, SetFlag, ClearTransient, SetRegisters, BeginCommand, SendBytes}
use Rattle.jc_memory.specs.State.{apply_effect, ram_after_move}
use Rattle.jc_linker.specs.Values.{Packages}
use Rattle.jc_environment.specs.Pins.PinInit.{first_record}
use Rattle.jc_packages.specs.Objects.{is_bytes, is_instance, is_persistent_instance}
use Rattle.law_soundness.specs.MemoryLaws.State.{IsFitObject, IsSoundMemory, IsSoundUpTo, is_applet, is_open, is_owner_up_to, last_own, most_owner}
use Rattle.law_soundness.specs.MemoryLaws.Fit.{FitsChange, FitsMove, FitsNew, FitsPlace, FitsRun, IsFit, IsPinObject, KeepsSound, OfPin, OfPlaces, OfRegistry}
use Rattle.law_soundness.specs.MemoryLaws.Fit.{OfValue, RegistersApplet, SetsAid, SetsUpPin, UpdatesPin}
use Rattle.law_soundness.proofs.Frames.{Frames, bytes_held, cell_frames, object_frames, places_frames, places_headers, places_held, run_frames, run_headers, same_object}
use Rattle.law_soundness.proofs.Frames.{transient_frames}
use Rattle.law_soundness.proofs.Transients.{cleared_carried, fill_carried, flags_carried, names_object, object_carried, same_carried, transient_carried}
use Rattle.law_soundness.proofs.Frames.{word_frames}
use Rattle.law_soundness.proofs.HeapChanges.{IsSoundBut, owner_same}
use Rattle.jc_packages.proofs.Lists.{zeros}
use Rattle.law_soundness.proofs.Memories.{aborted_kept, again, applet_same, begun_kept, change_kept, choose, committed_kept, home_same, kept_changed, known_low}
use Rattle.law_soundness.proofs.Memories.{known_now, low_now, most_opened, turned_kept}
use Rattle.law_soundness.proofs.Objects.{object_added, transient_added}
use Rattle.law_soundness.proofs.Pins.{PinAt, array_bytes, counter_kept, first_kept, pin_at, pin_still, update_kept}
use Rattle.law_soundness.proofs.Registry.{IsEntry, entered, facts_still, item_still}
use Rattle.law_soundness.proofs.Places.{places_kept, places_suit}
use Rattle.law_soundness.proofs.Statics.{static_kept}
use Rattle.law_soundness.proofs.Values.{aid_run_kept, fields_kept, none_of, of_all, run_kept, value_kept}

-- ---- what the moves need to keep the heap whole

no_array : (f : Facts) → is_persistent_instance f ≡ true → f.kind ≡ ReferenceArray → ⊥
no_array f kept e = false≢true (sym (ap is_instance e) ∙ (and_parts (is_instance f.kind) _ kept).0)

pub event_none : (f : Facts) → is_persistent_instance f ≡ true → f.event ≡ None
event_none f kept = none_of f.event (and_parts (is_instance f.kind) _ kept).1

bytes_suit : (h : HeapState) (bytes : List ℕ) (array i : ℕ) (cs : List (Place × ℕ)) → ((bytes ≡ [] → ⊥) → is_bytes (facts h array).kind ≡ true)
    → AreLegalValues h cs → AreLegalValues h (cell_changes array i bytes ++ cs)
bytes_suit h [] array i cs kind may = may
bytes_suit h (b ∷ bytes) array i cs kind may =
    let is : is_bytes (facts h array).kind ≡ true = kind (λ e. let n : suc (length bytes) ≡ 0 = ap length e in omega (arith, n)) in
    (λ e. absurd (false≢true (sym (ap is_bytes e) ∙ is)), bytes_suit h bytes array (suc i) cs (λ _. is) may)

-- ---- a cell is set for good

module _ (p : Packages) (m : MemoryState) (s : IsSoundMemory p m) (r i v : ℕ) (number : (facts m.heap.now r).kind ≡ ReferenceArray → ⊥)
    (now_kept : (most : ℕ) → IsSoundUpTo most p m.heap.now (last_own m) → IsSoundUpTo most p (set_cell m.heap.now r i v) (last_own m))
    (low_kept : r < m.heap.durable.top → (most : ℕ) → IsSoundUpTo most p m.heap.durable (last_own m)
    → IsSoundUpTo most p (set_cell m.heap.durable r i v) (last_own m)) where
  abbrev own : ℕ
  own = last_own m

  abbrev touched : Bool
  touched = goes_back m.heap (place_at m.heap.now (Cell r i))

  abbrev set_durable : HeapState
  set_durable = set_cell m.heap.durable r i v

  abbrev left : HeapState
  left = if touched then m.heap.durable else set_durable

  durable_suits : IsLegalValue m.heap.durable (Cell r i) v
  durable_suits kind = elim (cases_lt r m.heap.durable.top) [
    | inl low ↦ absurd (number (ap (λ (f : Facts). f.kind)
        (same_facts (heap_item_at m.heap.now r) (heap_item_at m.heap.durable r) (s.whole.shape.items r low)) ∙ kind))
    | inr high ↦
        let item : heap_item_at m.heap.durable r ≡ _ = heap_item_at-absent m.heap.durable r (s.whole.durable.end r high) in
        absurd (false≢true (sym (ap is_instance kind) ∙ ap (λ t. is_instance (facts_of t).kind) item))
  ]

  durable_kept : IsSoundUpTo m.heap.durable.counts.1 p set_durable own
  durable_kept = elim (cases_lt r m.heap.durable.top) [
    | inl low ↦ low_kept low m.heap.durable.counts.1 s.durable
    | inr high ↦ subst (λ h. IsSoundUpTo m.heap.durable.counts.1 p h own) (sym (set_cell-absent m.heap.durable r i v (s.whole.durable.end r high))) s.durable
  ]

  untouched : m.heap.begun ≡ false → touched ≡ false
  untouched off = outside_none_goes_back m.heap (place_at m.heap.now (Cell r i)) off

  durable_frames : Frames m.heap.durable left
  durable_frames = choose (Frames m.heap.durable) touched m.heap.durable set_durable
      (λ on. record { packages = refl; counts = refl; registry = refl; lasting = refl; top = omega arith; headers = λ q low. refl; objects = λ q low. refl })
      (λ off. cell_frames m.heap.durable r i v)

  set_kept : IsSoundMemory p (apply_effect (HeapMove (WriteNonAtomic (Cell r i) v)) m)
  set_kept =
      let f : Frames m.heap.now (set_cell m.heap.now r i v) = cell_frames m.heap.now r i v in
      let d : Frames m.heap.durable left = durable_frames in
      let same : most_owner (apply_effect (HeapMove (WriteNonAtomic (Cell r i) v)) m) ≡ most_owner m =
      λ t. if is_open m.registers.installation then (d.counts t).1 + 1 else (f.counts t).1 in
      record {
        whole = keeps (WriteNonAtomic (Cell r i) v) m.heap (λ kind. absurd (number kind), durable_suits) s.whole;
        registry = f.registry ∙ s.registry;
        registry_kept = d.registry ∙ s.registry_kept;
        now = subst (λ n. IsSoundUpTo n p (set_cell m.heap.now r i v) own) (sym same) (now_kept (most_owner m) s.now);
        durable = choose (λ h. IsSoundUpTo h.counts.1 p h own) touched m.heap.durable set_durable (λ on. s.durable)
            (λ off. subst (λ n. IsSoundUpTo n p set_durable own) (ap (λ c. c.1) (sym (cell_frames m.heap.durable r i v).counts)) durable_kept);
        settled = λ off. ap (λ h. set_cell h r i v) (s.settled off) ∙ sym (ap (λ b. if b then m.heap.durable else set_durable) (untouched off));
        packages = f.packages ∙ s.packages ∙ sym d.packages;
        loaded = ap length f.packages ∙ s.loaded;
        counts = λ closed. f.counts ∙ s.counts closed ∙ sym d.counts;
        active = owner_same _ m.heap.now (set_cell m.heap.now r i v) (owner_number m.registers.active) f.packages
            ∙ ap (λ n. is_owner_up_to n m.heap.now (owner_number m.registers.active)) same ∙ s.active;
        behind = let low = s.behind in let more = d.top in omega (arith, low, more);
        own = λ q low there. ap is_persistent_instance (facts-set_cell m.heap.now r i v q)
            ∙ s.own q low (sym (same_object (heap_item_at (set_cell m.heap.now r i v) q) (heap_item_at m.heap.now q) (header_only-set_cell m.heap.now r i v q))
            ∙ there);
        home = home_same m.heap.now (set_cell m.heap.now r i v) m.registers.installation f.packages ∙ s.home;
        selected = λ a e. applet_same m.heap.durable left a d.counts ∙ s.selected a e;
        transients = same_carried m.heap.now (set_cell m.heap.now r i v) m.ram f.lasting (header_only-set_cell m.heap.now r i v) s.transients;
      }

-- a try is counted, or all are given back
count_kept : (p : Packages) (m : MemoryState) → IsSoundMemory p m → (r v : ℕ) → PinAt p m.heap.now r
    → IsSoundMemory p (apply_effect (HeapMove (WriteNonAtomic (Cell r 2) v)) m)
count_kept p m s r v pin =
    set_kept p m s r 2 v (no_array (facts m.heap.now r) pin.kept) (λ most. counter_kept r most (last_own m) p m.heap.now v pin)
    (λ low most. counter_kept r most (last_own m) p m.heap.durable v (pin_still p m.heap.now m.heap.durable r (sym (s.whole.shape.items r low)) pin))

-- an element of an array of bytes is set
byte_no_array : (kind : Kind) → kind ≡ ByteArray → kind ≡ ReferenceArray → ⊥
byte_no_array kind bytes references = cc

byte_no_instance : (f : Facts) → f.kind ≡ ByteArray → is_persistent_instance f ≡ true → ⊥
byte_no_instance f bytes kept = false≢true (sym (ap is_instance bytes) ∙ (and_parts (is_instance f.kind) _ kept).0)

byte_kept : (p : Packages) (m : MemoryState) → IsSoundMemory p m → (r i v : ℕ) → (facts m.heap.now r).kind ≡ ByteArray
    → IsSoundMemory p (apply_effect (HeapMove (WriteNonAtomic (Cell r i) v)) m)
byte_kept p m s r i v bytes = set_kept p m s r i v (byte_no_array (facts m.heap.now r).kind bytes) (kept m.heap.now bytes)
    (λ low. kept m.heap.durable (ap (λ (f : Facts). f.kind)
    (sym (same_facts (heap_item_at m.heap.now r) (heap_item_at m.heap.durable r) (s.whole.shape.items r low))) ∙ bytes))
  where
    kept : (h : HeapState) → (facts h r).kind ≡ ByteArray → (most : ℕ) → IsSoundUpTo most p h (last_own m)
        → IsSoundUpTo most p (set_cell h r i v) (last_own m)
    kept h is most sound = of_all most (last_own m) p h (set_cell h r i v)
        (value_kept (last_own m) most (last_own m) p h r i v (λ kept. absurd (byte_no_instance (facts h r) is kept))) sound

-- ---- an applet is registered

module _ (p : Packages) (m : MemoryState) (s : IsSoundMemory p m) (changes : List (Place × ℕ)) (f : RegistersApplet p m changes) where
  abbrev registered : HeapState
  registered = set_places m.heap.now (applet_changes m.heap.now f.entry)

  left_is : (if m.heap.begun then m.heap.durable else registered) ≡ m.heap.durable
  left_is = ap (λ b. if b then m.heap.durable else registered) f.begun

  most_is : most_owner (apply_effect (HeapMove (SetPlaces (applet_changes m.heap.now f.entry))) m) ≡ most_owner m
  most_is =
      ap (λ b. if b then (if m.heap.begun then m.heap.durable else registered).counts.1 + 1 else registered.counts.1) f.installing
      ∙ ap (λ h. h.counts.1 + 1) left_is ∙ sym (most_opened p m s m.registers f.installing)

  new_entry : IsEntry p m.heap.now (last_own m) f.entry
  new_entry = record {
    few = f.few;
    registry = s.registry;
    aid = f.aid;
    holds = f.holds;
    environments = f.environments;
    behind = f.behind;
    unlike = f.unlike;
    some = f.some;
    home = f.home;
    instance = f.instance;
    applet = f.applet;
    class = f.class;
  }

  applet_kept : IsSoundMemory p (apply_effect (HeapMove (SetPlaces (applet_changes m.heap.now f.entry))) m)
  applet_kept = record {
    whole = keeps (SetPlaces (applet_changes m.heap.now f.entry)) m.heap (tt, (tt, (tt, (let few = f.few in omega (arith, few), tt)))) s.whole;
    registry = length-set _ _ _ ∙ length-set _ _ _ ∙ length-set m.heap.now.applets _ _ ∙ s.registry;
    registry_kept = ap (λ h. length h.applets) left_is ∙ s.registry_kept;
    now = subst (λ n. IsSoundUpTo n p registered (last_own m)) (sym most_is) (of_all (most_owner m) (last_own m) p m.heap.now registered
        (entered p m.heap.now (last_own m) f.entry new_entry (last_own m) (most_owner m)) s.now);
    durable = subst (λ h. IsSoundUpTo h.counts.1 p h (last_own m)) (sym left_is) s.durable;
    settled = λ off. absurd (false≢true (sym off ∙ f.begun));
    packages = s.packages ∙ ap (λ h. h.packages) (sym left_is);
    loaded = s.loaded;
    counts = λ closed. absurd (false≢true (sym closed ∙ f.installing));
    active = owner_same _ m.heap.now registered (owner_number m.registers.active) refl
        ∙ ap (λ n. is_owner_up_to n m.heap.now (owner_number m.registers.active)) most_is ∙ s.active;
    behind = subst (λ h. last_own m < h.top) (sym left_is) s.behind;
    own = λ q low there. ap is_persistent_instance (facts_still p m.heap.now (last_own m) f.entry new_entry q)
        ∙ s.own q low (sym (ap is_object (item_still p m.heap.now (last_own m) f.entry new_entry q)) ∙ there);
    home = s.home;
    selected = λ a e. ap (λ h. is_applet h a) left_is ∙ s.selected a e;
    transients = same_carried m.heap.now registered m.ram refl (λ q. ap header_only (item_still p m.heap.now (last_own m) f.entry new_entry q)) s.transients;
  }

-- ---- PINs

module _ (p : Packages) (m : MemoryState) (s : IsSoundMemory p m) where
  free : is_allocated m.heap.now m.heap.now.top ≡ false
  free = s.whole.now.end m.heap.now.top (omega arith)

  pin_long : (r : ℕ) → IsPinObject p m r → 5 ≤ length (cells m.heap.now r)
  pin_long r pin =
      let o : IsFitObject (most_owner m) p m.heap.now r = s.now.objects r pin.behind pin.there in
      subst (λ n. 5 ≤ n) (sym (o.cells (event_none (facts m.heap.now r) pin.kept))) pin.long

  pin_set : (changes : List (Place × ℕ)) → SetsUpPin p m changes → IsSoundMemory p (apply_effect (HeapMove (SetPlaces changes)) m)
  pin_set changes f =
      subst (λ cs. IsSoundMemory p (apply_effect (HeapMove (SetPlaces cs)) m)) (sym f.is)
      (kept_changed p m s (set_places m.heap.now (first_record f.pin f.limit f.maximum f.value)) _ 0
      (places_frames (first_record f.pin f.limit f.maximum f.value) m.heap.now tt)
      (places_headers (first_record f.pin f.limit f.maximum f.value) m.heap.now)
      (keeps (SetPlaces (first_record f.pin f.limit f.maximum f.value)) m.heap (
        no_reference,
        (no_reference, (no_reference, (no_reference, (no_reference, tt)))),
      ) s.whole)
      (λ most sound. first_kept most (last_own m) p m.heap.now f.pin f.limit f.maximum f.value (pin_at p m f.pin f.object) f.array
      (pin_long f.pin f.object) f.bytes f.some sound))
    where
      no_reference : {v : ℕ} → (facts m.heap.now f.pin).kind ≡ ReferenceArray → IsReference m.heap.now v
      no_reference kind = absurd (no_array (facts m.heap.now f.pin) f.object.kept kind)

  value_set : (changes : List (Place × ℕ)) → UpdatesPin p m changes → IsSoundMemory p (apply_effect (HeapMove (SetPlaces changes)) m)
  value_set changes f = subst (λ cs. IsSoundMemory p (apply_effect (HeapMove (SetPlaces cs)) m)) (sym is)
      (kept_changed p m s (set_places m.heap.now new) _ 0 (places_frames new m.heap.now (bytes_held f.bytes array 0 rest tt))
      (places_headers new m.heap.now)
      (keeps (SetPlaces new) m.heap (bytes_suit m.heap.now f.bytes array 0 rest kind
      (λ k. absurd (no_array (facts m.heap.now f.pin) f.object.kept k), (λ k. absurd (no_array (facts m.heap.now f.pin) f.object.kept k), tt))) s.whole)
      (λ most sound. update_kept most (last_own m) p m.heap.now f.pin (word_at m f.pin 0) f.bytes
      (pin_at p m f.pin f.object) f.object.pin f.object.behind short sound))
    where
      array : ℕ
      array = get_or (cells m.heap.now f.pin) 4 0

      rest : List (Place × ℕ)
      rest = (Cell f.pin 3, length f.bytes) ∷ (Cell f.pin 2, word_at m f.pin 0) ∷ []

      new : List (Place × ℕ)
      new = cell_changes array 0 f.bytes ++ rest

      word : (k : ℕ) → word_at m f.pin k ≡ get_or (cells m.heap.now f.pin) k 0
      word k = ap (λ e. word_in e m f.pin k) (event_none (facts m.heap.now f.pin) f.object.kept)

      is : changes ≡ new
      is = f.is ∙ ap (λ a. cell_changes a 0 f.bytes ++ (Cell f.pin 3, length f.bytes) ∷ (Cell f.pin 2, word_at m f.pin 0) ∷ []) (word 4)

      short : length f.bytes ≤ get_or (cells m.heap.now f.pin) 1 0
      short = subst (λ n. length f.bytes ≤ n) (word 1) f.short

      kind : (f.bytes ≡ [] → ⊥) → is_bytes (facts m.heap.now array).kind ≡ true
      kind = array_bytes (most_owner m) (last_own m) p m.heap.now f.pin (word_at m f.pin 0) f.bytes
          (pin_at p m f.pin f.object) f.object.pin f.object.behind short s.now

  -- ---- moves

  changes_kept : (changes : List (Place × ℕ)) → FitsChange p m changes → IsSoundMemory p (apply_effect (HeapMove (SetPlaces changes)) m)
  changes_kept changes (OfPlaces fits) =
      kept_changed p m s (set_places m.heap.now changes) _ 0 (places_frames changes m.heap.now (places_held p m.heap.now changes fits))
      (places_headers changes m.heap.now)
      (keeps (SetPlaces changes) m.heap (places_suit p m.heap.now changes fits) s.whole)
      (λ most sound. of_all most (last_own m) p m.heap.now (set_places m.heap.now changes)
      (places_kept (last_own m) most (last_own m) p m.heap.now changes fits) sound)
  changes_kept changes (OfPin f) = pin_set changes f
  changes_kept changes (OfValue f) = value_set changes f
  changes_kept changes (OfRegistry f) = subst (λ cs. IsSoundMemory p (apply_effect (HeapMove (SetPlaces cs)) m)) (sym f.is) (applet_kept p m s changes f)

  place_kept : (place : Place) (v : ℕ) → FitsPlace p m.heap.now place v → IsSoundMemory p (apply_effect (HeapMove (Write place v)) m)
  place_kept (Cell r i) v fits =
      kept_changed p m s (set_cell m.heap.now r i v) _ 0 (cell_frames m.heap.now r i v) (header_only-set_cell m.heap.now r i v)
      (keeps (Write (Cell r i) v) m.heap (λ kind. names_object m.heap.now v (fits.1.1 kind)) s.whole)
      (λ most sound. of_all most (last_own m) p m.heap.now (set_cell m.heap.now r i v)
      (value_kept (last_own m) most (last_own m) p m.heap.now r i v fits.1.0) sound)
  place_kept (Static r j) v fits =
      kept_changed p m s (set_word m.heap.now r j v) _ 0 (word_frames m.heap.now r j v) (header_only-set_word m.heap.now r j v)
      (keeps (Write (Static r j) v) m.heap tt s.whole)
      (λ most sound. of_all most (last_own m) p m.heap.now (set_word m.heap.now r j v)
      (static_kept (last_own m) most (last_own m) p m.heap.now r j v fits) sound)
  place_kept (Registry i) v fits = absurd fits
  place_kept AppletCount v fits = absurd fits

  run_set : (r i : ℕ) (words : List ℕ) → FitsRun p m r i words → IsSoundMemory p (apply_effect (HeapMove (SetCells r i words)) m)
  run_set r i words fits =
      kept_changed p m s (set_cells m.heap.now r i words) _ 0 (run_frames words m.heap.now r i) (run_headers words m.heap.now r i)
      (keeps (SetCells r i words) m.heap (λ kind. absurd (fits.1 kind)) s.whole)
      (λ most sound. of_all most (last_own m) p m.heap.now (set_cells m.heap.now r i words)
      (λ but. elim (cases_Bool (is_persistent_instance (facts m.heap.now r))) [
        | inl kept ↦ elim (fits.0 kept) [
          | inl aid ↦ aid_set most but aid
          | inr fields ↦ fields_kept (last_own m) most (last_own m) p words m.heap.now r i (λ k lt. fields.fits k lt) but
        ]
        | inr none ↦ run_kept (last_own m) most (last_own m) p words m.heap.now r i none but
      ]) sound)
    where
      aid_set : (most : ℕ) → IsSoundBut (last_own m) most p m.heap.now (last_own m) → SetsAid p m r i words
          → IsSoundBut (last_own m) most p (set_cells m.heap.now r i words) (last_own m)
      aid_set most but aid =
          let long : length words ≡ 9 = ap length aid.is in
          let sizes = and_parts (nat_le 5 (length aid.bytes)) _ aid.long in
          let most_bytes : length aid.bytes ≤ 16 = leb-true (length aid.bytes) 16 sizes.1 in
          let first : get_or words 0 0 ≡ length aid.bytes = ap (λ l. get_or l 0 0) aid.is in
          let begin = aid.first in
          aid_run_kept (last_own m) most (last_own m) p words m.heap.now r i (omega (arith, begin, long))
          (λ z. omega (arith, first, most_bytes)) aid.numbers aid.pin aid.apart but

  new_kept : (kind : Kind) (class owner long : ℕ) → FitsNew p m kind class owner long
      → IsSoundMemory p (apply_effect (HeapMove (new_move kind class owner long)) m)
  new_kept kind class owner long fits =
      let added : (most : ℕ) → is_owner_up_to most m.heap.now owner ≡ true → IsSoundUpTo most p m.heap.now (last_own m)
      → IsSoundUpTo most p (add_object m.heap.now (new_object kind class owner long) (object_size kind long)) (last_own m) =
      λ most known sound. of_all most (last_own m) p m.heap.now (add_object m.heap.now (new_object kind class owner long) (object_size kind long))
      (object_added (last_own m) most (last_own m) p m.heap.now kind class owner long
      (object_size kind long) free s.whole.now.whole.met fits.there known fits.small) sound in
      change_kept p m s (add_object m.heap.now (new_object kind class owner long) (object_size kind long)) _ (object_size kind long)
      (object_frames m.heap.now (new_object kind class owner long) (object_size kind long))
      (keeps (new_move kind class owner long) m.heap (omega arith, (refl, λ array i lt. inl (zeros long i))) s.whole)
      (added (most_owner m) (known_now p m s owner fits.known) s.now) (λ off. added m.heap.now.counts.1 (known_low p m s owner fits.known off)
      (low_now p m s off)) (ram_after_move (new_move kind class owner long) m.heap m.ram)
      (object_carried m.heap.now m.ram (new_object kind class owner long) (object_size kind long) free refl s.transients)

  transient_kept : (kind : Kind) (event : ClearEvent) (class owner long : ℕ) → FitsNew p m kind class owner long → (LacksCells m.heap.now event long → ⊥)
      → is_instance kind ≡ false → IsSoundMemory p (apply_effect (HeapMove (AddTransient kind event class owner long)) m)
  transient_kept kind event class owner long fits space array =
      let added : (most : ℕ) → is_owner_up_to most m.heap.now owner ≡ true → IsSoundUpTo most p m.heap.now (last_own m)
      → IsSoundUpTo most p (add_transient m.heap.now kind event class owner long) (last_own m) =
      λ most known sound. of_all most (last_own m) p m.heap.now (add_transient m.heap.now kind event class owner long)
      (transient_added (last_own m) most (last_own m) p m.heap.now kind event class owner long free s.whole.now.whole.met fits.there known array) sound in
      change_kept p m s (add_transient m.heap.now kind event class owner long) _ transient_size (transient_frames m.heap.now kind event class owner long)
      (keeps (AddTransient kind event class owner long) m.heap space s.whole)
      (added (most_owner m) (known_now p m s owner fits.known) s.now) (λ off. added m.heap.now.counts.1 (known_low p m s owner fits.known off)
      (low_now p m s off)) (ram_after_move (AddTransient kind event class owner long) m.heap m.ram)
      (transient_carried m.heap.now s.whole.now m.ram s.transients kind event class owner long space)

  move_kept : (move : Move) → FitsMove p move m → IsSoundMemory p (apply_effect (HeapMove move) m)
  move_kept (Write place v) fits = place_kept place v fits
  move_kept (SetPlaces changes) fits = changes_kept changes fits
  move_kept (WriteNonAtomic place v) (inl fits) = subst (λ c. IsSoundMemory p (apply_effect (HeapMove (WriteNonAtomic c v)) m)) (sym fits.1)
      (count_kept p m s fits.0 v (pin_at p m fits.0 fits.2))
  move_kept (WriteNonAtomic place v) (inr fits) = subst (λ c. IsSoundMemory p (apply_effect (HeapMove (WriteNonAtomic c v)) m)) (sym fits.is)
      (byte_kept p m s fits.array fits.index v fits.kind)
  move_kept (SetCells r i words) fits = run_set r i words fits.1
  move_kept (AddObject o size) fits = subst (λ move. IsSoundMemory p (apply_effect (HeapMove move) m)) (sym fits.is)
      (new_kept fits.kind fits.class fits.owner fits.long fits.fits)
  move_kept (AddTransient kind event class owner long) fits = transient_kept kind event class owner long fits.0 fits.1 fits.2
  move_kept (AddPackage components arrays image) fits = absurd fits
  move_kept Begin fits = begun_kept p m s fits
  move_kept Commit fits = committed_kept p m s fits.1
  move_kept Abort fits = aborted_kept p m s

effect_kept : (p : Packages) (e : Effect) (m : MemoryState) → IsFit p e m → IsSoundMemory p m → IsSoundMemory p (apply_effect e m)
effect_kept p (HeapMove move) m fits s = move_kept p m s move fits
effect_kept p (SetTransient r i values) m fits s = again p m _ m.command m.sent (fill_carried m s.whole.now.whole s.transients r i values fits) s
effect_kept p (SetFlag r flag) m fits s = again p m _ m.command m.sent
    (flags_carried m.heap.now m.ram _ (length-set m.ram.flags r flag) s.transients) s
effect_kept p (ClearTransient event) m fits s = again p m _ m.command m.sent (cleared_carried m.heap.now m.ram s.transients event) s
effect_kept p (SetRegisters registers) m fits s = turned_kept p m s registers (record
    { active = fits.active; leaves = fits.leaves; home = fits.home; selected = fits.selected })
effect_kept p (BeginCommand bytes) m fits s = again p m m.ram bytes [] s.transients s
effect_kept p (SendBytes bytes) m fits s = again p m m.ram m.command (m.sent ++ bytes) s.transients s

pub keeps_sound : KeepsSound
keeps_sound = effect_kept
