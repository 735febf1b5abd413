-- What is no PIN and no array of bytes stays as a transaction found it.
use Rattle.std.proofs.Common.{◌≡◌, ℕ, ◌<◌, Bool, true, false, None, List, [], ◌∷◌, inl, inr, refl, sym, subst, ◌∙◌, ap, if◌then◌else◌}
use Rattle.std.specs.Prelude.{◌&&◌, is_none}
use Rattle.std.proofs.lemmas.Bool.{cases_Bool, cases_lt, and_from, true≢false}
use Rattle.jc_heap.specs.declared.object.Facts.{Facts}
use Rattle.jc_heap.specs.declared.object.Kind.TheVariants.{ByteArray}
use Rattle.jc_heap.specs.declared.place.Place.TheVariants.{Cell}
use Rattle.jc_heap.specs.Object.{Item, AnObject, APackage, is_object, facts_of}
use Rattle.jc_heap.specs.Heap.{HeapState, facts, goes_back, heap_item_at, is_allocated, set_cell}
use Rattle.jc_heap.specs.Moves.{WriteNonAtomic, IsInside}
use Rattle.jc_heap.specs.Place.{place_at}
use Rattle.jc_heap.proofs.Laws.{heap_item_at-absent, is_allocated-set_cell, same_facts}
use Rattle.jc_memory.specs.State.{MemoryState, Effect, HeapMove}
use Rattle.jc_memory.specs.State.{apply_effect, apply_effects, moves_of}
use Rattle.jc_memory.specs.Reading.{AllEffectsDue}
use Rattle.jc_linker.specs.Values.{Packages}
use Rattle.jc_platform.specs.declared.names.PlatformClass.TheVariants.{OwnerPin}
use Rattle.jc_packages.specs.Objects.{is_bytes, is_persistent_instance, is_object_address}
use Rattle.jc_linker.specs.Classes.{is_a}
use Rattle.law_soundness.specs.MemoryLaws.Fit.{IsPinObject}
use Rattle.law_soundness.specs.MemoryLaws.State.{IsSoundMemory}
use Rattle.law_soundness.specs.MachineLaws.Commands.{IsServed}
use Rattle.law_soundness.proofs.Frames.{same_object}
use Rattle.law_soundness.proofs.CommandEffects.{serving_keeps}
use Rattle.law_theorems.specs.Tries.{is_owner_pin, is_persistent_bytes}
use Rattle.law_theorems.proofs.RestoredCells.{IsDurableSet, IsSame, SetsCounter, SetsByte, durable_set, open_still, parted, set_beside}

-- what says that it is an array of bytes is an object
a_kind : (t : Item) → (facts_of t).kind ≡ ByteArray → is_object t ≡ true
a_kind (AnObject o) is = refl
a_kind (APackage words) is = absurd cc

module _ (p : Packages) (r : ℕ) where
  -- a PIN whose tries are counted is one in the durable heap, if anything stands there
  pin_durable : (m : MemoryState) → IsSoundMemory p m → IsPinObject p m r → is_allocated m.heap.durable r ≡ true → is_owner_pin p m.heap.durable r ≡ true
  pin_durable m s pin there =
      let below : r < m.heap.durable.top = elim (cases_lt r m.heap.durable.top) [
        | inl lt ↦ lt
        | inr le ↦ absurd (true≢false (sym there ∙ s.whole.durable.end r le))
      ] in
      let same = s.whole.shape.items r below in
      let header : facts m.heap.now r ≡ facts m.heap.durable r = same_facts (heap_item_at m.heap.now r) (heap_item_at m.heap.durable r) same in
      and_from (is_object_address m.heap.durable r) _
      (sym (same_object (heap_item_at m.heap.now r) (heap_item_at m.heap.durable r) same) ∙ pin.there)
      (and_from (is_persistent_instance (facts m.heap.durable r)) _ (ap is_persistent_instance (sym header) ∙ pin.kept)
      (ap (λ f. is_a p f.class OwnerPin) (sym header) ∙ pin.pin))

  -- so is an array of bytes
  bytes_durable : (m : MemoryState) → IsSoundMemory p m → (facts m.heap.now r).kind ≡ ByteArray → (facts m.heap.now r).event ≡ None
      → is_allocated m.heap.durable r ≡ true → is_persistent_bytes m.heap.durable r ≡ true
  bytes_durable m s kind persistent there =
      let below : r < m.heap.durable.top = elim (cases_lt r m.heap.durable.top) [
        | inl lt ↦ lt
        | inr le ↦ absurd (true≢false (sym there ∙ s.whole.durable.end r le))
      ] in
      let header : facts m.heap.now r ≡ facts m.heap.durable r =
      same_facts (heap_item_at m.heap.now r) (heap_item_at m.heap.durable r) (s.whole.shape.items r below) in
      let object = a_kind (heap_item_at m.heap.durable r) (ap (λ (f : Facts). f.kind) (sym header) ∙ kind) in
      and_from (is_object_address m.heap.durable r) _ object
      (and_from (is_bytes (facts m.heap.durable r).kind) (is_none (facts m.heap.durable r).event)
      (ap (λ (f : Facts). is_bytes f.kind) (sym header) ∙ ap is_bytes kind) (ap (λ (f : Facts). is_none f.event) (sym header) ∙ ap is_none persistent))

  -- what stands at an address is none of both
  abbrev IsNeither : HeapState → Type 0
  IsNeither h = (is_owner_pin p h r ≡ false) × (is_persistent_bytes h r ≡ false)

  -- where nothing stands nothing is set
  absent_left : (back : Bool) (d : HeapState) (q j v : ℕ) → is_allocated d r ≡ false
      → heap_item_at (if back then d else set_cell d q j v) r ≡ heap_item_at d r
  absent_left true d q j v absent = refl
  absent_left false d q j v absent = heap_item_at-absent (set_cell d q j v) r (is_allocated-set_cell d q j v r ∙ absent) ∙ sym (heap_item_at-absent d r absent)

  left_by : (e : Effect) (m : MemoryState) (q j v : ℕ) → e ≡ HeapMove (WriteNonAtomic (Cell q j) v) → (is_allocated m.heap.durable r ≡ true → q ≡ r → ⊥)
      → heap_item_at (apply_effect e m).heap.durable r ≡ heap_item_at m.heap.durable r
  left_by e m q j v set other =
      subst (λ x. heap_item_at (apply_effect x m).heap.durable r ≡ heap_item_at m.heap.durable r) (sym set) (elim (cases_Bool (is_allocated m.heap.durable r)) [
        | inl there ↦ set_beside (goes_back m.heap (place_at m.heap.now (Cell q j))) m.heap.durable r q j v (other there)
        | inr absent ↦ absent_left (goes_back m.heap (place_at m.heap.now (Cell q j))) m.heap.durable q j v absent
      ])

  one_left : (e : Effect) (m : MemoryState) → IsDurableSet p e m → IsSoundMemory p m → IsNeither m.heap.durable
      → heap_item_at (apply_effect e m).heap.durable r ≡ heap_item_at m.heap.durable r
  one_left e m (IsSame same) s none = ap (λ d. heap_item_at d r) same
  one_left e m (SetsCounter q v set pin) s none = left_by e m q 2 v set
      (λ there same. true≢false (sym (pin_durable m s (subst (IsPinObject p m) same pin) there) ∙ none.0))
  one_left e m (SetsByte q j v set kind persistent) s none = left_by e m q j v set (λ there same.
      let is : (facts m.heap.now r).kind ≡ ByteArray = subst (λ a. (facts m.heap.now a).kind ≡ ByteArray) same kind in
      let kept : (facts m.heap.now r).event ≡ None = subst (λ a. (facts m.heap.now a).event ≡ None) same persistent in
      no_bytes m s is kept there none.1)
    where
      no_bytes : (m : MemoryState) → IsSoundMemory p m → (facts m.heap.now r).kind ≡ ByteArray → (facts m.heap.now r).event ≡ None
          → is_allocated m.heap.durable r ≡ true → is_persistent_bytes m.heap.durable r ≡ false → ⊥
      no_bytes m s is kept there none = true≢false (sym (bytes_durable m s is kept there) ∙ none)

  still_none : (h g : HeapState) → heap_item_at g r ≡ heap_item_at h r → IsNeither h → IsNeither g
  still_none h g same none = (
    ap (λ (t : Item). is_object t && (is_persistent_instance (facts_of t) && is_a p (facts_of t).class OwnerPin)) same ∙ none.0,
    ap (λ (t : Item). is_object t && (is_bytes (facts_of t).kind && is_none (facts_of t).event)) same ∙ none.1,
  )

  pub others : (es : List Effect) (m : MemoryState) → AllEffectsDue (IsServed p) es m → IsSoundMemory p m → m.heap.begun ≡ true → IsInside (moves_of es)
      → is_owner_pin p m.heap.durable r ≡ false → is_persistent_bytes m.heap.durable r ≡ false
      → heap_item_at (apply_effects es m).heap.durable r ≡ heap_item_at m.heap.durable r
  others [] m due s begun inside pin bytes = refl
  others (e ∷ es) m due s begun inside pin bytes =
      let both = parted e es inside in
      let same = one_left e m (durable_set p e m due.0 begun both.0) s (pin, bytes) in
      let none = still_none m.heap.durable (apply_effect e m).heap.durable same (pin, bytes) in
      others es (apply_effect e m) due.1 (serving_keeps.sound p e m due.0 s) (open_still e m begun both.0) both.1 none.0 none.1 ∙ same
