-- The runtime environment's own objects stay its own.
use Rattle.std.proofs.Common.{◌≡◌, ℕ, ◌<◌, Bool, true, false, inl, inr, List, sym, ◌∙◌, ap, subst, arith, if◌then◌else◌}
use Rattle.std.proofs.lemmas.Bool.{cases_eq, false≢true}
use Rattle.std.specs.Prelude.{slice_index}
use Rattle.jc_environment.specs.Objects.{last_of}
use Rattle.jc_transient.specs.declared.cell.ClearEvent.{ClearEvent}
use Rattle.jc_heap.specs.declared.object.Kind.{Kind}
use Rattle.jc_heap.specs.Object.{Object, facts_of, is_object, new_object, new_transient, object_size}
use Rattle.jc_heap.specs.Heap.{HeapState, add_object, add_transient, area_end, facts, goes_back, heap_item_at, is_allocated}
use Rattle.jc_heap.specs.Moves.{Move, Write, SetPlaces, WriteNonAtomic, SetCells, AddObject, AddTransient, AddPackage, Begin, Commit, Abort}
use Rattle.jc_heap.specs.Place.{place_at, set_place}
use Rattle.jc_heap.proofs.Laws.{heap_item_at-add_object, heap_item_at-add_other, object_named, same_facts}
use Rattle.jc_memory.specs.State.{MemoryState, Effect, HeapMove}
use Rattle.jc_memory.specs.State.{apply_effect}
use Rattle.jc_linker.specs.Values.{Packages}
use Rattle.jc_packages.specs.Objects.{is_instance, is_object_address}
use Rattle.law_soundness.specs.MemoryLaws.Environment.{HasEnvironment, AreEnvironmentObjects, KeepsEnvironment}
use Rattle.law_soundness.specs.MemoryLaws.Fit.{FitsMove, FitsNew, IsFit, IsPlatformClass}
use Rattle.law_soundness.specs.MemoryLaws.State.{IsSoundMemory, last_own}
use Rattle.law_soundness.proofs.Frames.{SameHeaders, end_headers, place_headers, places_headers, run_headers, same_object}
use Rattle.law_soundness.proofs.Memories.{choose}

module _ (p : Packages) (fixed : List ℕ) where
  still : (h g : HeapState) → SameHeaders h g → AreEnvironmentObjects p h fixed → AreEnvironmentObjects p g fixed
  still h g same e = record {
    long = e.long;
    there = λ k low. stands (slice_index fixed k) ∙ e.there k low;
    first = λ r low. ap (λ f. f.owner) (header r) ∙ e.first r low;
    classes = λ r there instance zero. subst (λ f. IsPlatformClass p f.class) (sym (header r))
        (e.classes r (sym (stands r) ∙ there) (ap (λ f. is_instance f.kind) (sym (header r)) ∙ instance) (ap (λ f. f.owner) (sym (header r)) ∙ zero));
  }
    where
      header : (r : ℕ) → facts g r ≡ facts h r
      header r = same_facts (heap_item_at g r) (heap_item_at h r) (same r)

      stands : (r : ℕ) → is_object_address g r ≡ is_object_address h r
      stands r = same_object (heap_item_at g r) (heap_item_at h r) (same r)

  -- a new object
  added : (h : HeapState) (o : Object) (n : ℕ) → is_allocated h h.top ≡ false → last_of fixed < h.top
      → (is_instance o.facts.kind ≡ true → o.facts.owner ≡ 0 → IsPlatformClass p o.facts.class) → AreEnvironmentObjects p h fixed
      → AreEnvironmentObjects p (add_object h o n) fixed
  added h o n free behind class e = record {
    long = e.long;
    there = λ k low. ap is_object (heap_item_at-add_other h o n (slice_index fixed k) (λ at. false≢true
        (sym free ∙ ap (is_allocated h) at ∙ object_named h (slice_index fixed k) (e.there k low)))) ∙ e.there k low;
    first = λ r low. ap (λ t. (facts_of t).owner) (heap_item_at-add_other h o n r (λ at. omega (arith, at, low, behind))) ∙ e.first r low;
    classes = λ r there instance zero. elim (cases_eq h.top r) [
      | inl at ↦ let item = heap_item_at-add_object h o n free in
          subst (λ q. IsPlatformClass p (facts (add_object h o n) q).class) at (subst (λ t. IsPlatformClass p (facts_of t).class) (sym item)
          (class (ap (λ t. is_instance (facts_of t).kind) (sym item) ∙ subst (λ q. is_instance (facts (add_object h o n) q).kind ≡ true) (sym at) instance)
          (ap (λ t. (facts_of t).owner) (sym item) ∙ subst (λ q. (facts (add_object h o n) q).owner ≡ 0) (sym at) zero)))
      | inr other ↦ let item = heap_item_at-add_other h o n r other in
          subst (λ t. IsPlatformClass p (facts_of t).class) (sym item) (e.classes r (ap is_object (sym item) ∙ there)
          (ap (λ t. is_instance (facts_of t).kind) (sym item) ∙ instance) (ap (λ t. (facts_of t).owner) (sym item) ∙ zero))
    ];
  }

module _ (p : Packages) (m : MemoryState) (s : IsSoundMemory p m) (e : HasEnvironment p m) where
  abbrev own : ℕ
  own = last_own m

  free : is_allocated m.heap.now m.heap.now.top ≡ false
  free = s.whole.now.end m.heap.now.top (omega arith)

  behind : own < m.heap.now.top
  behind = let low = s.behind in let order = s.whole.order in omega (arith, low, order)

  -- a change that leaves it so
  changed_so : (h : HeapState) → (AreEnvironmentObjects p m.heap.now m.fixed → AreEnvironmentObjects p h m.fixed) → (b : Bool)
      → AreEnvironmentObjects p (if b then m.heap.durable else h) m.fixed
  changed_so h keep b = choose (λ k. AreEnvironmentObjects p k m.fixed) b m.heap.durable h (λ on. e.durable) (λ off. keep e.now)

  change_so : (h : HeapState) → SameHeaders m.heap.now h → (b : Bool) → AreEnvironmentObjects p (if b then m.heap.durable else h) m.fixed
  change_so h same b = changed_so h (still p m.fixed m.heap.now h same) b

  object_so : (kind : Kind) (class owner long size : ℕ) → FitsNew p m kind class owner long
      → AreEnvironmentObjects p (add_object m.heap.now (new_object kind class owner long) size) m.fixed
  object_so kind class owner long size fits = added p m.fixed m.heap.now (new_object kind class owner long) size free behind fits.environments e.now

  transient_so : (kind : Kind) (event : ClearEvent) (class owner long : ℕ) → FitsNew p m kind class owner long
      → AreEnvironmentObjects p (add_transient m.heap.now kind event class owner long) m.fixed
  unfolding add_transient
  transient_so kind event class owner long fits =
      still p m.fixed (add_object m.heap.now (new_transient kind event class owner long (area_end m.heap.now event)) 5)
      (add_transient m.heap.now kind event class owner long) (end_headers _ event _)
      (added p m.fixed m.heap.now (new_transient kind event class owner long (area_end m.heap.now event)) 5 free behind fits.environments e.now)

  move_so : (move : Move) → FitsMove p move m → HasEnvironment p (apply_effect (HeapMove move) m)
  move_so (Write place v) fits = record {
    now = still p m.fixed m.heap.now _ (place_headers m.heap.now place v) e.now;
    durable = change_so _ (place_headers m.heap.now place v) m.heap.begun;
  }
  move_so (SetPlaces changes) fits = record {
    now = still p m.fixed m.heap.now _ (places_headers changes m.heap.now) e.now;
    durable = change_so _ (places_headers changes m.heap.now) m.heap.begun;
  }
  move_so (WriteNonAtomic place v) fits = record {
    now = still p m.fixed m.heap.now _ (place_headers m.heap.now place v) e.now;
    durable = choose (λ k. AreEnvironmentObjects p k m.fixed) (goes_back m.heap (place_at m.heap.now place)) m.heap.durable (set_place m.heap.durable place v)
        (λ on. e.durable) (λ off. still p m.fixed m.heap.durable _ (place_headers m.heap.durable place v) e.durable);
  }
  move_so (SetCells r i words) fits = record {
    now = still p m.fixed m.heap.now _ (run_headers words m.heap.now r i) e.now;
    durable = change_so _ (run_headers words m.heap.now r i) m.heap.begun;
  }
  move_so (AddObject o size) fits = subst (λ move. HasEnvironment p (apply_effect (HeapMove move) m)) (sym fits.is) (record {
    now = object_so fits.kind fits.class fits.owner fits.long (object_size fits.kind fits.long) fits.fits;
    durable = changed_so _ (λ old. object_so fits.kind fits.class fits.owner fits.long (object_size fits.kind fits.long) fits.fits) m.heap.begun;
  })
  move_so (AddTransient kind event class owner long) fits = record {
    now = transient_so kind event class owner long fits.0;
    durable = changed_so _ (λ old. transient_so kind event class owner long fits.0) m.heap.begun;
  }
  move_so (AddPackage components arrays image) fits = absurd fits
  move_so Begin fits = record { now = e.now; durable = e.now }
  move_so Commit fits = record { now = e.now; durable = e.now }
  move_so Abort fits = record { now = e.durable; durable = e.durable }

  effect_so : (f : Effect) → IsFit p f m → HasEnvironment p (apply_effect f m)
  effect_so (HeapMove move) fits = move_so move fits
  effect_so _ fits = record { now = e.now; durable = e.durable }

pub keeps_environment : KeepsEnvironment
keeps_environment = λ p f m fits s e. effect_so p m s e f fits
