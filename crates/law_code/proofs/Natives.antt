-- Methods of the platform spare what is outside reach.
use Rattle.std.proofs.Common.{◌≡◌, ℕ, ◌<◌, ◌≤◌, true, false, inl, inr, List, [], ◌∷◌, length, map, Option, Some, None, Ok, refl, sym, ◌∙◌, ap, subst, arith}
use Rattle.std.proofs.lemmas.List.{length-map}
use Rattle.std.proofs.lemmas.List.FromFn.{length-range_with_len}
use Rattle.std.specs.List.{range_with_len}
use Rattle.std.specs.Prelude.{ℤ}
use Rattle.jc_words.specs.Layout.{most_applets}
use Rattle.jc_transient.specs.declared.cell.CellValue.TheVariants.{Short}
use Rattle.jc_transient.specs.Cell.{number_of}
use Rattle.jc_transient.specs.declared.cell.ClearEvent.{ClearEvent}
use Rattle.jc_heap.specs.declared.object.Kind.TheVariants.{ByteArray}
use Rattle.jc_heap.specs.Object.{is_object}
use Rattle.jc_heap.specs.Heap.{IsObject, facts, is_allocated}
use Rattle.jc_frames.specs.declared.cell.Cell.{Cell}
use Rattle.jc_transient.specs.declared.owner.PackageNumber.{PackageNumber}
use Rattle.jc_memory.specs.Making.{creation_move}
use Rattle.jc_transient.specs.Owners.{owner_number}
use Rattle.jc_memory.specs.State.{HeapMove, IsNew, MemoryState, SetTransient, apply_effect}
use Rattle.jc_memory.specs.declared.making.NewObject.{NewObject}
use Rattle.jc_memory.specs.Changes.{nonatomic_store}
use Rattle.jc_memory.specs.Reading.{AllDue, AllResults}
use Rattle.jc_memory.specs.Cells.{cells_effect, header_at, word_of}
use Rattle.jc_heap.specs.Moves.{Write}
use Rattle.jc_heap.specs.declared.place.Place.{Place}
use Rattle.jc_heap.specs.declared.place.Place.TheVariants as place
use Rattle.jc_linker.specs.Values.{Packages}
use Rattle.jc_platform.specs.declared.names.PlatformMethod.{PlatformMethod}
use Rattle.jc_platform.specs.declared.names.PlatformMethod.TheVariants.{Aids}
use Rattle.jc_platform.specs.declared.names.AidsMethod.TheVariants.{AidInit}
use Rattle.jc_environment.specs.Pins.{record_of}
use Rattle.jc_environment.specs.Pins.PinInit.{value_array}
use Rattle.jc_heap.specs.Place.{cell_changes}
use Rattle.jc_memory.proofs.Room.{facts-places}
use Rattle.jc_memory.proofs.ProgramLemmas.{each_always, each_more}
use Rattle.jc_world.specs.Answers.{and_then}
use Rattle.jc_world.specs.Objects.{reference_argument}
use Rattle.jc_world.specs.declared.arrays.Stretch.{Stretch}
use Rattle.jc_world.specs.Arrays.{bytes_in}
use Rattle.jc_api_framework.specs.Aid.Cells.{aid_cell, cells_of_aid}
use Rattle.jc_api_framework.specs.Applet.Register.{aid_object}
use Rattle.jc_api_framework.specs.OwnerPin.{is_own_value}
use Rattle.jc_platform.specs.Names.{aids_rows}
use Rattle.jc_platform.specs.Signatures.{sets_receiver}
use Rattle.law_code.specs.IsolationLaws.Natives.{NativesSpare, ReachesCalled}
use Rattle.law_code.specs.Reach.{IsOutside}
use Rattle.law_code.specs.IsolationLaws.SparingEffects.{AreBeside, IsBeside, LeavesObject}
use Rattle.jc_api.specs.Factory.{engine_creation, engine_object, number_cell, state_array, state_cell}
use Rattle.jc_api.specs.Pairing.{named_in, pair_words}
use Rattle.jc_api.specs.declared.factory.NewEngine.{NewEngine}
use Rattle.jc_api.specs.declared.pairing.NamedObject.{NamedObject}
use Rattle.jc_api.specs.declared.pairing.NamedObject.TheVariants.{Argument, New}
use Rattle.jc_api.specs.declared.pairing.NewPair.{NewPair}
use Rattle.jc_api.specs.Initializing.{FieldsAnswer, word_given, words_given}
use Rattle.jc_api.proofs.EngineRoom.{with_array}
use Rattle.jc_api.proofs.Due.{Anything}
use Rattle.jc_api_pairs.proofs.PairingCalls.{NamesBoth, NamesSo}
use Rattle.jc_api.proofs.Passing.{IsInitializing}
use Rattle.jc_api.proofs.Standing.{facts_after_run, item_after_object, object-set_cell, object_after_transient}
use Rattle.jc_api.proofs.Stretches.{IsStretch}
use Rattle.jc_api_framework.proofs.AppletCalls.Registering.{MayRegister, Registering, entry_of, home_of, with_aid}
use Rattle.jc_api_framework.proofs.Passing.{Bears, IsPinCall, MethodPasses, RegistersSo, recorded}
use Rattle.jc_api_pairs.proofs.PairForms.{AreOfPairs, FormsPass, IsOfPair, of_forms}
use Rattle.jc_interp.proofs.Calls.{method_due}
use Rattle.law_code.proofs.Bytes.{store_due}
use Rattle.law_code.proofs.Pins.{beside_append, beside_put, value_inside}
use Rattle.law_code.proofs.ObjectsInReach.{not_outside}
use Rattle.law_code.proofs.SparedObjects.{applets-add_object, applets-set_cells}
use Rattle.law_code.proofs.OtherObjects.{new_makes, new_other, new_spares, run_spares, set_spares}

-- effects that set no cells spare each object
bears : (q : ℕ) → Bears (LeavesObject q) (λ m. Unit {0})
bears q = record {
  keeps = λ e m due so. tt;
  turns = λ g m so active installation selected. tt;
  begins = λ m so off. tt;
  commits = λ m so on none. tt;
  aborts = λ m on. tt;
  sends = λ bytes m. tt;
}

-- the registry has as many applets until the entry is added
counts_kept : (p : Packages) (m : MemoryState) (aid : List ℕ) (r : ℕ) → (with_aid p m aid r).heap.now.counts.1 ≡ m.heap.now.counts.1
counts_kept p m aid r = (applets-set_cells (cells_of_aid aid) _ r 0).0 ∙ (applets-add_object m.heap.now _ _).0

pub nine : (aid : List ℕ) → length (cells_of_aid aid) ≡ 9
nine aid = let l = length-map (range_with_len 0 8) (aid_cell aid) in let n = length-range_with_len 0 8 in omega (arith, l, n)

-- what is there stays there where an object is made
there_after : (q : ℕ) (m : MemoryState) → IsObject m.heap.now q → (event : Option ClearEvent) (o : NewObject) → is_allocated m.heap.now m.heap.now.top ≡ false
    → IsObject (apply_effect (HeapMove (creation_move event o)) m).heap.now q
there_after q m there None o free = ap is_object (item_after_object m.heap.now _ _ q free there) ∙ there
there_after q m there (Some event) o free = object_after_transient m.heap.now o.kind event o.class (owner_number o.owner) o.length q free there

-- an object with a state spares each that is there
engine_spares : (p : Packages) (q : ℕ) (m : MemoryState) → IsObject m.heap.now q → (e : NewEngine) → AllDue (LeavesObject q) (engine_creation e p m) m
engine_spares p q m out e array new =
    let there : IsObject (with_array e m).heap.now q = there_after q m out e.event (state_array e m)
    (subst (λ t. is_allocated m.heap.now t ≡ false) new.chosen new.free) in (
      new_makes q m (state_array e m) array new,
      λ r other. let apart = new_other (with_array e m) q r there other in
          (new_makes q (with_array e m) (engine_object e p (with_array e m)) r other, (apart, (apart, tt))),
    )

-- and it is still there
engine_leaves : (p : Packages) (q : ℕ) (m : MemoryState) → IsObject m.heap.now q → (e : NewEngine)
    → AllResults (engine_creation e p m) m (λ answer v. IsObject v.heap.now q)
engine_leaves p q m out e array new r other =
    let made = with_array e m in
    let o = engine_object e p made in
    let with_instance = apply_effect (HeapMove (creation_move o.event o)) made in
    let number = word_of (Short e.number) in
    let with_number = apply_effect (HeapMove (Write (place.Cell r number_cell) number)) with_instance in
    let there : IsObject made.heap.now q = there_after q m out e.event (state_array e m)
    (subst (λ t. is_allocated m.heap.now t ≡ false) new.chosen new.free) in
    let later : IsObject with_instance.heap.now q = there_after q made there o.event o
    (subst (λ t. is_allocated made.heap.now t ≡ false) other.chosen other.free) in
    object-set_cell with_number.heap.now r state_cell array q (object-set_cell with_instance.heap.now r number_cell number q later)

module _ (method : PlatformMethod) (args : List Cell) (p : Packages) (m : MemoryState) (q : ℕ) (out : IsOutside p m q)
    (reach : sets_receiver method ≡ true → ReachesCalled args p m) where
  -- what is called, and sets cells of it, is another object
  other : sets_receiver method ≡ true → (own : ℕ) → reference_argument args 0 ≡ Some own → own ≡ q → ⊥
  other sets own is = not_outside p m q own (facts m.heap.now own) out refl (reach sets own is)

  other_pin : (pin : ℕ) → IsPinCall method args m pin → pin ≡ q → ⊥
  other_pin pin is = other is.sets pin is.called

  other_value : (pin : ℕ) → IsPinCall method args m pin → is_own_value m pin ≡ Ok tt → (record_of m pin).value ≡ q → ⊥
  other_value pin is owned = value_inside p m q pin out is.is (reach is.sets pin is.called) (record_of m pin).value
      (header_at m (record_of m pin).value) refl owned

  sets_aid : method ≡ Aids AidInit → sets_receiver method ≡ true
  unfolding sets_receiver aids_rows
  sets_aid is = ap sets_receiver is

  stretch_spares : (r : ℕ) (count : ℤ) (e : Stretch) (words : List ℕ) → IsStretch p m r count e → length words ≡ e.count
      → LeavesObject q (cells_effect m e.array e.start words) m
  stretch_spares r count e words is long = subst (λ a. LeavesObject q (cells_effect m a e.start words) m) (sym is.array)
      (run_spares q m r e.start words (not_outside p m q r (facts m.heap.now r) out refl is.reach) (let w = is.within in omega (arith, w, long)))

  bytes_spare : (r : ℕ) (count : ℤ) (e : Stretch) (words : List ℕ) → IsStretch p m r count e → length words ≡ e.count
      → (facts m.heap.now r).kind ≡ ByteArray → AllDue (LeavesObject q) (nonatomic_store m e.array e.start words) m
  bytes_spare r count e words is long kind =
      let ne = not_outside p m q r (facts m.heap.now r) out refl is.reach in
      let w = is.within in
      let n = length-map words number_of in
      subst (λ a. AllDue (LeavesObject q) (nonatomic_store m a e.start words) m) (sym is.array)
      (store_due (LeavesObject q) r (λ i x v element. ne) words e.start m kind (omega (arith, w, long)) (ne, omega (arith, w, long, n)))

  -- the cells of a transient array, after cells of another object
  state_spares_after : (object i : ℕ) (bytes : List ℕ) (r : ℕ) (count : ℤ) (s : Stretch) (words : List ℕ) → IsStretch p m r count s → length words ≡ s.count
      → LeavesObject q (SetTransient s.array s.start (map number_of words)) (apply_effect (cells_effect m object i bytes) m)
  state_spares_after object i bytes r count s words state all =
      let w = state.within in
      let size = length-map words number_of in
      let header : (facts (apply_effect (cells_effect m object i bytes) m).heap.now s.array).length ≡ (facts m.heap.now r).length =
      ap (λ f. f.length) (facts_after_run (facts m.heap.now object).event object i bytes m s.array ∙ ap (facts m.heap.now) state.array) in (
        λ same. not_outside p m q r (facts m.heap.now r) out refl state.reach (sym state.array ∙ same),
        omega (arith, w, size, all, header),
      )

  -- cells of the object that is called, and those of a state
  fields_spare : (a : FieldsAnswer) (own : ℕ) → IsInitializing method args p m a own → (r : ℕ) (count : ℤ) (s : Stretch) (words : List ℕ) (event : ClearEvent)
      → IsStretch p m r count s → (facts m.heap.now r).event ≡ Some event → length words ≡ s.count
      → LeavesObject q (cells_effect m own a.start (words_given args a.values)) m
      × LeavesObject q (SetTransient s.array s.start (map number_of words)) (apply_effect (cells_effect m own a.start (words_given args a.values)) m)
  fields_spare a own is r count s words event state kept all =
      let n = length-map a.values (word_given args) in
      let long = is.there.cells in (
        run_spares q m own a.start (words_given args a.values) (other is.sets own is.called) (omega (arith, n, long)),
        state_spares_after own a.start (words_given args a.values) r count s words state all,
      )

  -- after elements of another array
  state_spares : (q' : ℕ) (n : ℤ) (e : Stretch) (bytes : List ℕ) → IsStretch p m q' n e → length bytes ≡ e.count → (r : ℕ) (count : ℤ) (s : Stretch)
      (words : List ℕ) (event : ClearEvent) → IsStretch p m r count s → (facts m.heap.now r).event ≡ Some event → length words ≡ s.count
      → LeavesObject q (SetTransient s.array s.start (map number_of words)) (apply_effect (cells_effect m e.array e.start bytes) m)
  state_spares q' n e bytes is long r count s words event state kept all = state_spares_after e.array e.start bytes r count s words state all

  -- what a call does that makes its receiver name two keys
  names_spare : (a : NewPair) (first second : ℕ) (v : MemoryState) → sets_receiver method ≡ true → NamesBoth (LeavesObject q) args p a first second v
  names_spare a first second v sets own is = run_spares q v own 0 (pair_words a.number first second) (other sets own is.called)
      (let long = is.there.cells in omega (arith, long))

  -- an object that is to be named may be made, and then whatever follows is so
  object_spares : (K : ℕ → MemoryState → Type 0) (object : NamedObject) (v : MemoryState) → IsObject v.heap.now q
      → ((r : ℕ) (w : MemoryState) → IsObject w.heap.now q → K r w) → NamesSo (LeavesObject q) K args p object v
  object_spares K (Argument i) v there so = λ r is. so r v there
  object_spares K (New e) v there so = λ has in_table space room. (
    engine_spares p q v there e,
    each_more (λ answer w. IsObject w.heap.now q) (λ answer w. (r : ℕ) → and_then answer named_in ≡ Ok r → K r w) (λ answer w is r named. so r w is)
        (engine_creation e p v) v (engine_leaves p q v there e),
  )

  -- the places that a call sets which changes a pair
  place_beside : (c : Place × ℕ) → IsOfPair p m c.0 → IsBeside q c.0
  place_beside (place.Cell r i, v) (inl is) = not_outside p m q r (facts m.heap.now r) out refl is.reach
  place_beside (place.Cell r i, v) (inr is) = not_outside p m q r (facts m.heap.now r) out refl is.reach
  place_beside (place.Static r i, v) is = absurd is
  place_beside (place.Registry i, v) is = absurd is
  place_beside (place.AppletCount, v) is = absurd is

  places_beside : (cs : List (Place × ℕ)) → AreOfPairs p m cs → AreBeside q cs
  places_beside [] are = tt
  places_beside (c ∷ cs) are = (place_beside c are.0, places_beside cs are.1)

  registers : (aid : List ℕ) (instance : ℕ) (k : PackageNumber) → MayRegister m aid instance k → (r : ℕ) → IsNew m.heap.now r
      → Registering (LeavesObject q) (λ a v. Unit {0}) p m aid instance k r
  registers aid instance k may r new = record {
    makes = new_makes q m (aid_object p) r new;
    sets = new_other m q r out.there new;
    enters = inr (record {
      entry = entry_of instance k r;
      is = refl;
      few = subst (λ n. n < most_applets) (sym (counts_kept p m aid r)) may.few;
      home = home_of m.registers.installation k may.opened_by;
    });
    commits = tt;
    turns = tt;
    follows = tt;
  }

  passes : MethodPasses (LeavesObject q) method args p m
  passes = record {
    calls = record {
      reason = λ part sets own v is long. set_spares q m own 0 (Short v) (other sets own is) long.cells;
      stretch = stretch_spares;
      bytes = bytes_spare;
      behind = state_spares;
      transient = λ o is room. new_makes q m o;
      engine = λ e has table space room. engine_spares p q m out.there e;
      initial = fields_spare;
    };
    aid = λ init own bytes is long fine. run_spares q m own 0 (cells_of_aid bytes) (other (sets_aid init) own is)
        (let l = long.cells in let n = nine bytes in omega (arith, l, n));
    buffer = λ r at words is fits. run_spares q m r at words (λ same. out.others (16, sym same ∙ is.is)) fits;
    starts = λ pin is limit maximum.
        let ne = other_pin pin is in
        new_spares q (value_array m maximum) (recorded pin limit maximum) m out.there (λ value v new. (inl (ne, (ne, (ne, (ne, (ne, tt))))), (ne, tt)));
    flags = λ pin is flag v. other_pin pin is;
    counts = λ pin is n. other_pin pin is;
    refills = λ pin is n limit. other_pin pin is;
    updates = λ pin is bytes owned short. let ne = other_pin pin is in
        inl (beside_append q (cell_changes (record_of m pin).value 0 bytes) _ (beside_put q (record_of m pin).value 0 bytes (other_value pin is owned))
        (ne, (ne, tt)));
  }

  forms_pass : FormsPass (LeavesObject q) Anything method args p m
  forms_pass = record {
    places = λ cs are. inl (places_beside cs are);
    after = λ cs are e bytes is event kept. (
      not_outside p m q e.array (facts m.heap.now e.array) out refl is.reach,
      let size = length-map bytes number_of in
          let within = is.within in
          let header = ap (λ f. f.length) (facts-places m.heap.now cs e.array) in
          omega (arith, size, within, header),
    );
    names = λ sets a pairs zero. object_spares _ a.first m out.there (λ first v there. object_spares _ a.second v there (λ second w is.
        names_spare a first second w sets));
    named = λ class pairs i own few is event. tt;
  }

  registers_so : RegistersSo (LeavesObject q) (λ a v. Unit {0}) method args p m
  registers_so = record {
    own = λ is aid instance own there. registers aid instance;
    given = λ is e instance own fine. registers (bytes_in m e) instance;
  }

pub natives_spare : NativesSpare
natives_spare method args p m q out reach = method_due (LeavesObject q) (λ m. Unit {0}) (bears q) args p m tt method
    (passes method args p m q out reach) (of_forms p m (LeavesObject q) Anything method args (forms_pass method args p m q out reach)) (registers_so method args p m q out reach)
