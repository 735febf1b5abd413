-- Pairs: what calls set that name two objects, or change them, fits; and what a pair names is there.
use Rattle.std.proofs.Common.{◌≡◌, ◌∙◌, ℕ, zero, suc, ◌+◌, ◌<◌, ◌≤◌, true, inl, inr, List, [], ◌∷◌, length, map, Some, None, Ok, refl, sym, ap, subst, arith}
use Rattle.std.proofs.lemmas.Bool.{and_from, and_parts, both_ways, true≢false, or_right}
use Rattle.std.specs.Prelude.{◌==◌, ◌||◌, is_none, pos, slice_index, unwrap_or}
use Rattle.jc_transient.specs.Cell.{number_of}
use Rattle.jc_transient.specs.declared.cell.CellValue.TheVariants.{Short}
use Rattle.jc_heap.specs.Heap.{HeapState, cells, facts}
use Rattle.jc_heap.specs.Moves.{SetPlaces, Write}
use Rattle.jc_heap.specs.declared.object.Facts.{Facts}
use Rattle.jc_heap.specs.declared.object.Kind.{Kind}
use Rattle.jc_heap.specs.declared.object.Kind.TheVariants.{ByteArray, ReferenceArray}
use Rattle.jc_heap.specs.declared.place.Place.{Place}
use Rattle.jc_heap.specs.declared.place.Place.TheVariants as place
use Rattle.jc_heap.specs.WholeHeap.{IsReference}
use Rattle.jc_frames.specs.declared.cell.Cell.{Cell}
use Rattle.jc_memory.specs.Cells.{cells_effect, word_at, word_in, word_of}
use Rattle.jc_memory.specs.Making.{creation_move}
use Rattle.jc_memory.specs.Programs.{Choose, Either, Finish, Perform, Program}
use Rattle.jc_memory.specs.Reading.{AllDue, AllResults}
use Rattle.jc_memory.specs.State.{HeapMove, MemoryState, SetTransient, apply_effect}
use Rattle.jc_memory.proofs.Room.{facts-places}
use Rattle.jc_linker.specs.Classes.{is_a, reference_cell}
use Rattle.jc_linker.specs.Values.{Packages}
use Rattle.jc_platform.specs.Hierarchy.{cells_of, holds_reference}
use Rattle.jc_platform.specs.declared.names.PlatformClass.{PlatformClass}
use Rattle.jc_platform.specs.declared.names.PlatformMethod.{PlatformMethod}
use Rattle.jc_packages.specs.Objects.{is_instance, is_object_address, is_persistent_instance, is_reference}
use Rattle.jc_world.specs.Answers.{and_then}
use Rattle.jc_world.specs.Objects.{reference_argument}
use Rattle.jc_world.specs.Objects as called
use Rattle.jc_world.specs.declared.arrays.Stretch.{Stretch}
use Rattle.jc_api.specs.Factory.{engine_creation, engine_object, number_cell, state_array, state_cell}
use Rattle.jc_api.specs.Pairing.{named_in, pair_words}
use Rattle.jc_api.specs.declared.factory.NewEngine.{NewEngine}
use Rattle.jc_api.specs.declared.pairing.NamedObject.{NamedObject}
use Rattle.jc_api.specs.declared.pairing.NamedObject.TheVariants.{Argument, New}
use Rattle.jc_api.specs.declared.pairing.NewPair.{NewPair}
use Rattle.jc_api.proofs.EngineRoom.{with_array}
use Rattle.jc_api_pairs.proofs.PairingCalls.{IsReceiverOf, NamesBoth, NamesSo, PairsSo}
use Rattle.jc_api.proofs.Passing.{RefersToNew}
use Rattle.jc_api.proofs.Reaching.{same_Ok}
use Rattle.jc_api_pairs.proofs.PairForms.{AreOfPairs, FormsPass, IsOfPair, IsPairClass, IsPairNumber, IsReachedByte}
use Rattle.jc_api_pairs.proofs.PairPasses.{AreReached}
use Rattle.law_code.specs.Classes.{KnowsClasses}
use Rattle.law_soundness.specs.MemoryLaws.Fit.{FitPlaces, FitsPlace, IsFit, OfPlaces}
use Rattle.law_soundness.specs.LivingReferences.{AreLivingCells}
use Rattle.law_soundness.specs.MachineLaws.LocalEffects.{AreElsewhere}
use Rattle.law_soundness.specs.MemoryLaws.State.{IsSoundMemory, IsSteady}
use Rattle.law_soundness.proofs.Effects.{keeps_sound}
use Rattle.law_soundness.proofs.Engines.{engine_fits}
use Rattle.law_soundness.proofs.InitialCells.{argument_lives}
use Rattle.law_soundness.proofs.LocalEffects.{calm_stays}
use Rattle.law_soundness.proofs.NativeArrays.{run_in}
use Rattle.law_soundness.proofs.RunObjects.{instance_no_array, kept_behind, kept_fits}
use Rattle.law_soundness.proofs.Stateful.{cell_is, no_aid, no_pin}
use Rattle.law_soundness.proofs.Still.{IsStill, Lives, made_still, run_still}
use Rattle.law_soundness.proofs.Transients.{names_object, numbers_fit}

-- ---- kinds

array_of_bytes : (kind : Kind) → kind ≡ ByteArray → kind ≡ ReferenceArray → ⊥
array_of_bytes kind bytes references = cc

array_no_instance : (kind : Kind) → kind ≡ ByteArray → is_instance kind ≡ true → ⊥
array_no_instance kind bytes instance = true≢false (sym instance ∙ ap is_instance bytes)

-- ---- references

named_so : (h : HeapState) (r : ℕ) → IsReference h r → is_reference h r ≡ true
named_so h r (inl null) = ap (λ n. n == 0 || is_object_address h n) null
named_so h r (inr there) = or_right (r == 0) (is_object_address h r) there

-- an argument that is a reference is one of the heap
argument_named : (h : HeapState) (args : List Cell) → AreLivingCells h args → (i r : ℕ) → reference_argument args i ≡ Some r → IsReference h r
argument_named h args living i r is = names_object h r (subst (λ o. is_reference h (unwrap_or o 0) ≡ true) is (argument_lives h args living i))

module _ (class : PlatformClass) (pairs : IsPairClass class) where
  cell_there : (k : ℕ) → k < 3 → k < cells_of class
  cell_there k lt = let three : 3 ≤ cells_of class = pairs.cells in omega (arith, lt, three)

  -- of the words of a pair those in cells that hold references are such
  words_refer : (h : HeapState) (first second : ℕ) → is_reference h first ≡ true → is_reference h second ≡ true → (k : ℕ) → k < 3
      → holds_reference class (0 + k) ≡ true → is_reference h (slice_index (pair_words (pos 0) first second) k) ≡ true
  words_refer h first second one two zero lt holds = absurd (true≢false (sym holds ∙ pairs.number))
  words_refer h first second one two (suc zero) lt holds = one
  words_refer h first second one two (suc (suc zero)) lt holds = two
  words_refer h first second one two (suc (suc (suc k))) lt holds = absurd (omega (arith, lt))

module _ (p : Packages) (known : KnowsClasses p) where
  -- what the cells of a pair are set to fits
  words_fit : (m : MemoryState) → IsSoundMemory p m → (args : List Cell) (a : NewPair) → IsPairClass a.class → a.number ≡ pos 0 → (first second : ℕ)
      → is_reference m.heap.now first ≡ true → is_reference m.heap.now second ≡ true → NamesBoth (IsFit p) args p a first second m
  words_fit m sound args a pairs number first second one two own is =
      subst (λ n. IsFit p (cells_effect m own 0 (pair_words n first second)) m) (sym number)
      (run_in p m own 0 (pair_words (pos 0) first second) (facts m.heap.now own).event refl
      (let long = is.there.cells in omega (arith, long)) (
        λ stays.
            let instances = kept_fits p m sound own is.there.there stays in
            let of : is_a p (facts m.heap.now own).class a.class ≡ true = (and_parts (called.is_instance (facts m.heap.now own).kind) _ is.instance).1 in
            inr (record {
              fits = λ k lt. record {
                reference = λ holds. words_refer a.class pairs m.heap.now first second one two k lt
                    (sym (cell_is p known (facts m.heap.now own).class a.class pairs.state instances of (0 + k) (cell_there a.class pairs (0 + k) (omega (arith, lt)))) ∙ holds);
                aid = λ isnt. absurd (no_aid p known (facts m.heap.now own).class a.class pairs.state instances of isnt);
                pin = λ isnt. absurd (no_pin p known (facts m.heap.now own).class a.class pairs.state instances of isnt);
              };
            }),
        λ array. absurd (instance_no_array (facts m.heap.now own).kind (ap is_instance is.there.instance) array),
      ))

  -- ---- new objects

  -- what is done without a change of registry or transaction leaves a sound memory steady, and references as they are
  settles : (h : HeapState) {A : Type 0} (d : Program A) (m : MemoryState) → ((r : ℕ) → IsReference h r → IsReference m.heap.now r) → IsSoundMemory p m
      → IsSteady m → AllDue (IsFit p) d m → AllDue IsStill d m
      → AllResults d m (λ a v. IsSoundMemory p v × IsSteady v × ((r : ℕ) → IsReference h r → IsReference v.heap.now r))
  settles h (Finish a) m kept sound steady fits still = (sound, steady, kept)
  settles h (Perform e rest) m kept sound steady fits still = settles h rest (apply_effect e m)
      (λ r is. calm_stays.references e m still.0.0 sound.whole.now r (kept r is)) (keeps_sound p e m fits.0 sound)
      (calm_stays.steady e m still.0.0 sound.settled steady) fits.1 still.1
  settles h (Choose choose) m kept sound steady fits still = λ r new. settles h (choose r) m kept sound steady (fits r new) (still r new)
  settles h (Either x y) m kept sound steady fits still =
      (settles h x m kept sound steady fits.0 still.0, settles h y m kept sound steady fits.1 still.1)

  -- the making of an object with a state is such
  engine_still : (m : MemoryState) (e : NewEngine) → AllDue IsStill (engine_creation e p m) m
  engine_still m e array new = (made_still m e.event (state_array e m), λ r other. ((tt, refl), ((tt, refl), ((tt, refl), tt))))

  -- and it answers a reference to what is there
  engine_named : RefersToNew Lives → (m : MemoryState) (e : NewEngine)
      → AllResults (engine_creation e p m) m (λ answer v. (r : ℕ) → and_then answer named_in ≡ Ok r → IsReference v.heap.now r)
  engine_named refers m e array new r other q is =
      let made = with_array e m in
      let o = engine_object e p made in
      let with_instance = apply_effect (HeapMove (creation_move o.event o)) made in
      let with_number = apply_effect (HeapMove (Write (place.Cell r number_cell) (word_of (Short e.number)))) with_instance in
      let named = refers.stays r state_cell array with_number r (refers.stays r number_cell (word_of (Short e.number)) with_instance r (refers.new o made r other)) in
      subst (IsReference (apply_effect (HeapMove (Write (place.Cell r state_cell) array)) with_number).heap.now) (same_Ok r q is) named

  -- an object that is to be named may be made, and then whatever follows is so
  object_fits : RefersToNew Lives → (args : List Cell) (K : ℕ → MemoryState → Type 0) (object : NamedObject) (m : MemoryState)
      → ((i r : ℕ) → reference_argument args i ≡ Some r → IsReference m.heap.now r) → IsSoundMemory p m → IsSteady m
      → ((r : ℕ) (v : MemoryState) → IsSoundMemory p v → IsSteady v → ((q : ℕ) → IsReference m.heap.now q → IsReference v.heap.now q)
      → IsReference v.heap.now r → K r v) → NamesSo (IsFit p) K args p object m
  object_fits refers args K (Argument i) m living sound steady so = λ r is. so r m sound steady (λ q there. there) (living i r is)
  object_fits refers args K (New e) m living sound steady so = λ has there space room. (
    engine_fits p m known sound steady e has there room,
    λ array new r other name is.
        let left = settles m.heap.now (engine_creation e p m) m (λ q stands. stands) sound steady (engine_fits p m known sound steady e has there room)
        (engine_still m e) array new r other in
        so name _ left.0 left.1 left.2 (engine_named refers m e array new r other name is),
  )

  names_fit : RefersToNew Lives → (m : MemoryState) → IsSoundMemory p m → IsSteady m → (args : List Cell) → AreLivingCells m.heap.now args → (a : NewPair)
      → IsPairClass a.class → a.number ≡ pos 0 → PairsSo (IsFit p) args p a m
  names_fit refers m sound steady args living a pairs number =
      object_fits refers args _ a.first m (argument_named m.heap.now args living) sound steady (λ first v fine calm kept one.
      object_fits refers args _ a.second v (λ i r is. kept r (argument_named m.heap.now args living i r is)) fine calm (λ second w good still stays two.
      words_fit w good args a pairs number first second (named_so w.heap.now first (stays first one)) (named_so w.heap.now second two)))

  -- ---- what a pair names

  pub named_live : (class : PlatformClass) → IsPairClass class → (args : List Cell) (m : MemoryState) → IsSoundMemory p m → (i own : ℕ) → i ≤ 1
      → IsReceiverOf class (suc i + 1) args p m own → (facts m.heap.now own).event ≡ None → Lives m (word_at m own (suc i))
  named_live class pairs args m sound i own few is event =
      let h = m.heap.now in
      let instance : is_instance (facts h own).kind ≡ true = ap is_instance (is.there).instance in
      let stays : is_persistent_instance (facts h own) ≡ true = and_from (is_instance (facts h own).kind) _ instance (ap is_none event) in
      let fit = sound.now.objects own (kept_behind p m sound own (is.there).there stays) (is.there).there in
      let instances = kept_fits p m sound own (is.there).there stays in
      let of : is_a p (facts h own).class class ≡ true = (and_parts (called.is_instance (facts h own).kind) _ is.instance).1 in
      let long : length (cells h own) ≡ (facts h own).length = fit.cells event in
      let within : suc i < length (cells h own) = let all = (is.there).cells in omega (arith, all, long) in
      let word : word_at m own (suc i) ≡ slice_index (cells h own) (suc i) = ap (λ e. word_in e m own (suc i)) event in
      names_object h (word_at m own (suc i)) (ap (λ n. is_reference h n) word ∙ (fit.values stays).references (suc i) within
      (cell_is p known (facts h own).class class pairs.state instances of (suc i) (cell_there class pairs (suc i) (omega (arith, few)))
      ∙ pairs.named i few))

  -- ---- the places of a pair and of what it names

  -- elements of a persistent array of bytes may be set
  byte_fits : (m : MemoryState) (r i v : ℕ) → IsReachedByte p m r i → FitsPlace p m.heap.now (place.Cell r i) v
  byte_fits m r i v is =
      let within = is.within in (
        (is.event, omega (arith, within)),
        (
          (λ stays. absurd (array_no_instance (facts m.heap.now r).kind is.kind (and_parts (is_instance (facts m.heap.now r).kind) _ stays).0)),
          (λ references. absurd (array_of_bytes (facts m.heap.now r).kind is.kind references)),
        ),
      )

  -- and the number of a pair
  number_fits : (m : MemoryState) → IsSoundMemory p m → (r i v : ℕ) → IsPairNumber p m r i → FitsPlace p m.heap.now (place.Cell r i) v
  number_fits m sound r i v is =
      let instance : is_instance (facts m.heap.now r).kind ≡ true = ap is_instance (is.there).instance in
      let stays : is_persistent_instance (facts m.heap.now r) ≡ true = and_from (is_instance (facts m.heap.now r).kind) _ instance (ap is_none is.event) in
      let instances = kept_fits p m sound r (is.there).there stays in
      let of : is_a p (facts m.heap.now r).class is.class ≡ true = (and_parts (called.is_instance (facts m.heap.now r).kind) _ is.instance).1 in
      let state = (is.pairs).state in
      let three = (is.there).cells in
      subst (λ k. FitsPlace p m.heap.now (place.Cell r k) v) (sym is.first) (
        (is.event, omega (arith, three)),
        (
          (λ kept. record {
            reference = λ holds. absurd (both_ways (reference_cell p (facts m.heap.now r).class 0) (cell_is p known (facts m.heap.now r).class is.class
                state instances of 0 (cell_there is.class is.pairs 0 (omega arith)) ∙ (is.pairs).number) holds);
            aid = λ isnt. absurd (no_aid p known (facts m.heap.now r).class is.class state instances of isnt);
            pin = λ isnt. absurd (no_pin p known (facts m.heap.now r).class is.class state instances of isnt);
          }),
          (λ array. absurd (instance_no_array (facts m.heap.now r).kind instance array)),
        ),
      )

  place_fits : (m : MemoryState) → IsSoundMemory p m → (c : Place × ℕ) → IsOfPair p m c.0 → FitsPlace p m.heap.now c.0 c.1
  place_fits m sound (place.Cell r i, v) (inl is) = byte_fits m r i v is
  place_fits m sound (place.Cell r i, v) (inr is) = number_fits m sound r i v is
  place_fits m sound (place.Static r j, v) is = absurd is
  place_fits m sound (place.Registry i, v) is = absurd is
  place_fits m sound (place.AppletCount, v) is = absurd is

  places_fit : (m : MemoryState) → IsSoundMemory p m → (cs : List (Place × ℕ)) → AreOfPairs p m cs → FitPlaces p m.heap.now cs
  places_fit m sound [] are = tt
  places_fit m sound (c ∷ cs) are = (place_fits m sound c are.0, places_fit m sound cs are.1)

  -- elements of a transient array after them
  after_fits : (m : MemoryState) (cs : List (Place × ℕ)) (e : Stretch) (bytes : List ℕ) → AreReached p m e bytes
      → IsFit p (SetTransient e.array e.start (map number_of bytes)) (apply_effect (HeapMove (SetPlaces cs)) m)
  after_fits m cs e bytes is =
      let after = apply_effect (HeapMove (SetPlaces cs)) m in
      let header : facts after.heap.now e.array ≡ facts m.heap.now e.array = facts-places m.heap.now cs e.array in
      let within = is.within in
      let long = ap (λ (f : Facts). f.length) header in
      numbers_fit after e.array e.start bytes (omega (arith, within, long))
      (λ references. array_of_bytes (facts m.heap.now e.array).kind is.kind (ap (λ (f : Facts). f.kind) (sym header) ∙ references))

  -- ---- all calls

  pub forms_fit : RefersToNew Lives → (m : MemoryState) → IsSoundMemory p m → IsSteady m → (args : List Cell) → AreLivingCells m.heap.now args
      → (method : PlatformMethod) → FormsPass (IsFit p) Lives method args p m
  forms_fit refers m sound steady args living method = record {
    places = λ cs are. OfPlaces (places_fit m sound cs are);
    after = λ cs are e bytes is event kept. after_fits m cs e bytes is;
    names = λ sets a pairs number. names_fit refers m sound steady args living a pairs number;
    named = λ class pairs i own few is event. named_live class pairs args m sound i own few is event;
  }

  -- and they are still
  place_elsewhere : (m : MemoryState) (cs : List (Place × ℕ)) → AreOfPairs p m cs → AreElsewhere cs
  place_elsewhere m [] are = tt
  place_elsewhere m ((place.Cell r i, v) ∷ cs) are = (tt, place_elsewhere m cs are.1)
  place_elsewhere m ((place.Static r j, v) ∷ cs) are = absurd are.0
  place_elsewhere m ((place.Registry i, v) ∷ cs) are = absurd are.0
  place_elsewhere m ((place.AppletCount, v) ∷ cs) are = absurd are.0

  object_still : (args : List Cell) (K : ℕ → MemoryState → Type 0) (object : NamedObject) (m : MemoryState) → ((r : ℕ) (v : MemoryState) → K r v)
      → NamesSo IsStill K args p object m
  object_still args K (Argument i) m so = λ r is. so r m
  object_still args K (New e) m so = λ has there space room. (engine_still m e, λ array new r other name is. so name _)

  pub forms_still : (m : MemoryState) → IsSoundMemory p m → (args : List Cell) (method : PlatformMethod) → FormsPass IsStill Lives method args p m
  forms_still m sound args method = record {
    places = λ cs are. (place_elsewhere m cs are, refl);
    after = λ cs are e bytes is event kept. (tt, refl);
    names = λ sets a pairs number. object_still args _ a.first m (λ first v. object_still args _ a.second v (λ second w own is.
        run_still w (facts w.heap.now own).event own 0 (pair_words a.number first second)));
    named = λ class pairs i own few is event. named_live class pairs args m sound i own few is event;
  }
