-- The end of a load leaves a card as it should be.
use Rattle.std.proofs.Common.{◌≡◌, ℕ, ◌<◌, ◌++◌, nat_le, Bool, true, false, inl, inr, [], ◌∷◌, length, Option, Some, None, refl, sym, ap}
use Rattle.std.proofs.Common.{subst, arith, if◌then◌else◌}
use Rattle.std.specs.Prelude.{IfSome, Result, Ok, Err, is_none}
use Rattle.std.proofs.lemmas.Bool.{leb-false}
use Rattle.jc_cap.specs.declared.texts.LoadedComponents.{LoadedComponents}
use Rattle.jc_heap.specs.declared.refusal.HeapRefusal.{HeapRefusal}
use Rattle.jc_heap.specs.Heap.{HeapState}
use Rattle.jc_heap.specs.Moves.{AddPackage, refusal_of_package}
use Rattle.jc_heap.specs.Completions.{Done}
use Rattle.jc_memory.specs.State.{MemoryState, HeapMove, apply_effect}
use Rattle.jc_memory.specs.Programs.{Program, Finish, Perform, Choose, Completes, TearLeaves, bind, unless_refused}
use Rattle.jc_memory.proofs.ProgramLemmas.{did_bind, left_bind}
use Rattle.jc_linker.specs.Values.{Packages}
use Rattle.jc_platform.specs.Tokens.{Tokens}
use Rattle.jc_linker.specs.Linking.{with_package}
use Rattle.jc_linker.specs.declared.fault.LinkFault.TheVariants as link
use Rattle.jc_packages.specs.RecordContents.{arrays_of, image_of, parts_of, statics_of}
use Rattle.jc_packages.specs.PendingPackages.{PendingPackageValue, linked_components}
use Rattle.jc_packages.specs.declared.load.OpenLoad.{OpenLoad}
use Rattle.jc_packages.specs.declared.load_refusal.LoadRefusal.{LoadRefusal}
use Rattle.jc_packages.specs.declared.load_refusal.LoadRefusal.TheVariants.{HeapFull, Full, LinkFailed, OutOfSequence}
use Rattle.jc_packages.specs.LoadEnd.{LoadResult, assembly_result, with_dropped_load, after_addition, after_preparation, end_of_load}
use Rattle.jc_card.specs.Card.{CardState}
use Rattle.jc_card.specs.Loading.{LoadResponse, answer_of_left, end_load}
use Rattle.law_soundness.specs.LoadedPackages.{AreBytes, IsReadable}
use Rattle.law_soundness.specs.ReadingLoads.{IsOpenReadable}
use Rattle.law_soundness.proofs.Ends.{ends_keep}
use Rattle.law_soundness.proofs.OneMore.{growth_keeps_read}
use Rattle.law_soundness.specs.MemoryLaws.State.{is_open}
use Rattle.law_soundness.specs.Loads.{IsSoundForLoads, LoadsKeepSound, load_move}
use Rattle.law_theorems.specs.NewImages.{EffectsKeepBeginnings, KeepsBeginning}
use Rattle.law_theorems.specs.Cards.{AreLinkedWell, IsOwnCard}
use Rattle.law_theorems.proofs.Commands.{own_memory}
use Rattle.law_theorems.proofs.CardHeaps.{IsLeft, keeps_at, left_own}

module _ (begins : EffectsKeepBeginnings) (loads : LoadsKeepSound) (t : Tokens) (card : CardState) (own : IsOwnCard t card) where
  abbrev m : MemoryState
  m = card.memory

  abbrev p : Packages
  p = card.packages

  abbrev n : ℕ
  n = card.memory.heap.durable.head.1

  -- how the end of a load leaves a memory
  record HasEnded (packages : Packages) (new : MemoryState) : Type 0 where
    linked : AreLinkedWell packages
    fits : IsSoundForLoads packages new
    closed : new.heap.begun ≡ false
    idle : is_open new.registers.installation ≡ false
    beginning : KeepsBeginning n t new

  itself : HasEnded p m
  itself = record {
    linked = own.linked;
    fits = record { sound = own.ready.sound; environment = own.ready.environment; layout = own.layout };
    closed = own.ready.closed;
    idle = own.ready.idle;
    beginning = own.beginning;
  }

  gives_ended : (l left : LoadResult) (old new : MemoryState) → HasEnded l.packages old → Completes (Finish l) old left new → HasEnded left.packages new
  gives_ended l left old new ended did = subst (λ v. HasEnded left.packages v) (sym did.1)
      (subst (λ q. HasEnded q old) (ap (λ x. x.packages) (sym did.0)) ended)

  drops_ended : (refusal : LoadRefusal) (left : LoadResult) (new : MemoryState) → Completes (with_dropped_load p refusal) m left new
      → HasEnded left.packages new
  drops_ended refusal left new did = gives_ended _ left m new itself did

  module _ (texts : LoadedComponents) (readable : IsReadable texts) (q : PendingPackageValue) (is : linked_components p texts ≡ Ok q) where
    -- what adding the package may do, where there is such a reason against it
    abbrev adds : Option HeapRefusal → Program LoadResult
    adds reason = bind (unless_refused reason (Choose (λ r. Perform (HeapMove (AddPackage (parts_of q.texts) (arrays_of (statics_of q.texts))
        (image_of (statics_of q.texts)))) (Finish (Done r))))) m (λ answer after. after_addition p q answer)

    abbrev reason_of : Option HeapRefusal
    reason_of = refusal_of_package m.heap (parts_of q.texts) (arrays_of (statics_of q.texts)) (image_of (statics_of q.texts))

    more : length m.heap.now.packages < 32 → reason_of ≡ None → HasEnded (with_package p q.linked) (apply_effect (HeapMove (load_move q.texts)) m)
    more few none = record {
      linked =
          let g = growth_keeps_read own.linked.components p texts q own.linked.read own.linked.applets
          (λ text there. subst (λ o. IfSome o AreBytes) there readable.applets) is in
          record { components = own.linked.components ++ g.0 ∷ []; read = g.1; applets = g.2 };
      fits = loads own.linked.components p texts q m own.linked.read.linked is own.ready.closed own.ready.idle few itself.fits;
      closed = own.ready.closed;
      idle = own.ready.idle;
      beginning = begins n t (HeapMove (AddPackage (parts_of q.texts) (arrays_of (statics_of q.texts)) (image_of (statics_of q.texts)))) m own.beginning;
    }

    adds_ended : (reason : Option HeapRefusal) → reason_of ≡ reason → length m.heap.now.packages < 32 → (left : LoadResult) (new : MemoryState)
        → Completes (adds reason) m left new → HasEnded left.packages new
    adds_ended None none few left new did = gives_ended (record { ended = Ok tt; packages = with_package p q.linked; load = None }) left
        (apply_effect (HeapMove (load_move q.texts)) m) new (more few none) did.2
    adds_ended (Some reason) none few left new did = drops_ended HeapFull left new did

    adds_lost : (reason : Option HeapRefusal) (passed : ℕ) (h : HeapState) → TearLeaves (adds reason) m passed h → h ≡ m.heap.durable
    adds_lost None passed h (r, new, inl e) = e.0
    adds_lost None passed h (r, new, inr none) = absurd none
    adds_lost (Some reason) passed h none = absurd none

    added_ended : (full : Bool) → nat_le 32 (length m.heap.now.packages) ≡ full → (left : LoadResult) (new : MemoryState)
        → Completes (if full then with_dropped_load p Full else adds reason_of) m left new → HasEnded left.packages new
    added_ended true e left new did = drops_ended Full left new did
    added_ended false e left new did = adds_ended reason_of refl (let a = leb-false 32 (length m.heap.now.packages) e in omega (arith, a)) left new did

    added_lost : (full : Bool) (passed : ℕ) (h : HeapState) → TearLeaves (if full then with_dropped_load p Full else adds reason_of) m passed h → h ≡ m.heap.durable
    added_lost true passed h none = absurd none
    added_lost false passed h lost = adds_lost reason_of passed h lost

  prepared_ended : (texts : LoadedComponents) → IsReadable texts → (r : Result PendingPackageValue LoadRefusal) → linked_components p texts ≡ r
      → (left : LoadResult) (new : MemoryState) → Completes (after_preparation p m r) m left new → HasEnded left.packages new
  prepared_ended texts readable (Err refusal) is left new did = drops_ended refusal left new did
  prepared_ended texts readable (Ok q) is left new did = added_ended texts readable q is (nat_le 32 (length m.heap.now.packages)) refl left new did

  prepared_lost : (texts : LoadedComponents) → IsReadable texts → (r : Result PendingPackageValue LoadRefusal) → linked_components p texts ≡ r
      → (passed : ℕ) (h : HeapState) → TearLeaves (after_preparation p m r) m passed h → h ≡ m.heap.durable
  prepared_lost texts readable (Err refusal) is passed h none = absurd none
  prepared_lost texts readable (Ok q) is passed h lost = added_lost texts readable q is (nat_le 32 (length m.heap.now.packages)) passed h lost

  comes_ended : (texts : LoadedComponents) → IsReadable texts → (left : LoadResult) (new : MemoryState) → Completes (assembly_result p m texts) m left new
      → HasEnded left.packages new
  unfolding assembly_result
  comes_ended texts readable left new (inl did) = prepared_ended texts readable (linked_components p texts) refl left new did
  comes_ended texts readable left new (inr did) = drops_ended (LinkFailed link.NoMemory) left new did

  comes_lost : (texts : LoadedComponents) → IsReadable texts → (passed : ℕ) (h : HeapState) → TearLeaves (assembly_result p m texts) m passed h → h ≡ m.heap.durable
  unfolding assembly_result
  comes_lost texts readable passed h (inl lost) = prepared_lost texts readable (linked_components p texts) refl passed h lost
  comes_lost texts readable passed h (inr none) = absurd none

  open_ended : (load : OpenLoad) → IsOpenReadable load → (b : Bool) (left : LoadResult) (new : MemoryState)
      → Completes (if b then assembly_result p m load.texts else Finish (record { ended = Err OutOfSequence; packages = p; load = Some load })) m left new
      → HasEnded left.packages new
  open_ended load readable true left new did = comes_ended load.texts readable.texts left new did
  open_ended load readable false left new did = gives_ended _ left m new itself did

  open_lost : (load : OpenLoad) → IsOpenReadable load → (b : Bool) (passed : ℕ) (h : HeapState)
      → TearLeaves (if b then assembly_result p m load.texts else Finish (record { ended = Err OutOfSequence; packages = p; load = Some load })) m passed h
      → h ≡ m.heap.durable
  open_lost load readable true passed h lost = comes_lost load.texts readable.texts passed h lost
  open_lost load readable false passed h none = absurd none

  ended : (load : Option OpenLoad) → IfSome load IsOpenReadable → (left : LoadResult) (new : MemoryState) → Completes (end_of_load p m load) m left new
      → HasEnded left.packages new
  ended None readable left new did = gives_ended _ left m new itself did
  ended (Some load) readable left new did = open_ended load readable (is_none load.coming) left new did

  left_by : (load : Option OpenLoad) → IfSome load IsOpenReadable → (passed : ℕ) (h : HeapState) → TearLeaves (end_of_load p m load) m passed h → h ≡ m.heap.durable
  left_by None readable passed h none = absurd none
  left_by (Some load) readable passed h lost = open_lost load readable (is_none load.coming) passed h lost

  pub ends_own : (ans : LoadResponse) (new : MemoryState) → Completes (end_load card) m ans new
      → IsOwnCard t (record { memory = new; packages = ans.packages; load = ans.load; budget = ans.budget })
  ends_own ans new did =
      let both = did_bind (λ left s. Finish (answer_of_left card.budget left)) (end_of_load p m card.load) m new ans did in
      let left = both.0 in
      let mid = both.1 in
      let done = ended card.load own.load left mid both.2 in
      let read = ends_keep.done t p card.load m mid left own.load own.ready.sound.whole own.ready.closed own.reading both.2 in
      let here : IsOwnCard t (record { memory = mid; packages = left.packages; load = left.load; budget = card.budget }) = record {
        linked = done.linked;
        ready = record { sound = done.fits.sound; environment = done.fits.environment; closed = done.closed; idle = done.idle };
        reading = read.0;
        beginning = keeps_at n t mid done.beginning;
        layout = done.fits.layout;
        load = read.1;
      } in
      subst (λ v. IsOwnCard t (record { memory = v; packages = ans.packages; load = ans.load; budget = ans.budget })) (sym both.3.1)
      (subst (λ a. IsOwnCard t (record { memory = mid; packages = a.packages; load = a.load; budget = a.budget })) (sym both.3.0) here)

  pub ends_lost : (passed : ℕ) (h : HeapState) → TearLeaves (end_load card) m passed h → IsLeft n t p h
  ends_lost passed h lost = subst (IsLeft n t p) (sym (elim (left_bind (λ left s. Finish (answer_of_left card.budget left)) (end_of_load p m card.load) m passed h lost) [
    | inl first ↦ left_by card.load own.load passed h first
    | inr later ↦ absurd later.3
  ])) (left_own n t p m (own_memory t card own))
