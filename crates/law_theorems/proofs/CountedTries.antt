-- A try that was counted stays counted.
use Rattle.std.proofs.Common.{◌≡◌, ℕ, ◌<◌, Bool, true, false, List, [], ◌∷◌, ◌++◌, length, set, get_or, None, sym, subst, ◌∙◌, ap, if◌then◌else◌}
use Rattle.std.specs.Prelude.{◌&&◌}
use Rattle.std.proofs.lemmas.Bool.{and_parts}
use Rattle.std.proofs.lemmas.List.{get_or-set_same, length-replicate}
use Rattle.jc_heap.specs.declared.object.Facts.{Facts}
use Rattle.jc_heap.specs.Object.{Object, AnObject, cells_of, facts_of, header_only, is_object, with_cell}
use Rattle.jc_heap.specs.Heap.{HeapState, facts, goes_back, heap_item_at, set_cell}
use Rattle.jc_heap.specs.Moves.{Write, SetPlaces, WriteNonAtomic, SetCells, AddObject, AddTransient, AddPackage, Begin, Commit, Abort}
use Rattle.jc_heap.specs.Place.{place_at}
use Rattle.jc_heap.proofs.Laws.{heap_item_at-set_cell, object_named, same_facts}
use Rattle.jc_memory.specs.State.{MemoryState, Effect, HeapMove, SetTransient, SetFlag, ClearTransient, SetRegisters, BeginCommand, SendBytes}
use Rattle.jc_memory.specs.State.{apply_effect, apply_effects}
use Rattle.jc_memory.specs.Reading.{AllEffectsDue}
use Rattle.jc_linker.specs.Values.{Packages}
use Rattle.jc_environment.specs.Pins.{counter}
use Rattle.jc_platform.specs.declared.names.PlatformClass.TheVariants.{OwnerPin}
use Rattle.jc_packages.specs.Objects.{is_object_address, is_persistent_instance}
use Rattle.jc_linker.specs.Classes.{is_a}
use Rattle.law_soundness.specs.MachineLaws.Commands.{IsServed}
use Rattle.law_soundness.specs.MachineLaws.Soundness.{AreKnown}
use Rattle.law_soundness.specs.MemoryLaws.State.{IsSoundMemory}
use Rattle.law_soundness.proofs.Effects.{event_none}
use Rattle.law_soundness.proofs.CommandEffects.{serving_keeps}
use Rattle.jc_packages.proofs.RecordArrays.{below_end}
use Rattle.law_theorems.specs.Tries.{is_owner_pin, tries_in}
use Rattle.law_theorems.specs.SessionTheorems.Cuts.{SetNoTries, SetsTries}
use Rattle.law_theorems.specs.SessionTheorems.TryChanges.{Renews}
use Rattle.law_theorems.proofs.OwnerPins.{an_object, pin_in, pin_stands}
use Rattle.law_theorems.proofs.Pins.{PinIn}
use Rattle.law_theorems.proofs.PinTries.{Holds, held_behind, held_place}
use Rattle.law_theorems.proofs.KeptTries.{pin_now}

-- it is so in the heap as it is, and in the durable one
abbrev pub HoldsInBoth : ℕ → ℕ → Facts → MemoryState → Type 0
HoldsInBoth q n f m = Holds q n f m.heap.now × Holds q n f m.heap.durable

module _ (p : Packages) (known : AreKnown p) (q n : ℕ) (f : Facts) (pin : (is_persistent_instance f && is_a p f.class OwnerPin) ≡ true) where
  owner_pin : (h : HeapState) → Holds q n f h → is_owner_pin p h q ≡ true
  owner_pin h held =
      ap (λ t. is_object t && (is_persistent_instance (facts_of t) && is_a p (facts_of t).class OwnerPin)) held.item
      ∙ ap (λ (g : Facts). is_persistent_instance g && is_a p g.class OwnerPin) held.same ∙ pin

  choose : (b : Bool) (d x : HeapState) → Holds q n f d → Holds q n f x → Holds q n f (if b then d else x)
  choose true d x first second = first
  choose false d x first second = second

  module _ (m : MemoryState) (s : IsSoundMemory p m) (held : HoldsInBoth q n f m) where
    now_behind : (e : Effect) → IsServed p e m → (Renews q e m → ⊥) → Holds q n f (apply_effect e m).heap.now
    now_behind e served none = held_behind p m s q (pin_stands p known m s q (owner_pin m.heap.now held.0)) n f held.0 e served none

    behind_one : (e : Effect) → IsServed p e m → (SetsTries q e m → ⊥) → HoldsInBoth q n f (apply_effect e m)
    behind_one (HeapMove (Write place v)) served none =
        let now = now_behind (HeapMove (Write place v)) served none in (now, choose m.heap.begun m.heap.durable _ held.1 now)
    behind_one (HeapMove (SetPlaces cs)) served none =
        let now = now_behind (HeapMove (SetPlaces cs)) served none in (now, choose m.heap.begun m.heap.durable _ held.1 now)
    behind_one (HeapMove (WriteNonAtomic place v)) served none = (
      now_behind (HeapMove (WriteNonAtomic place v)) served none,
      choose (goes_back m.heap (place_at m.heap.now place)) m.heap.durable _ held.1 (held_place q n f m.heap.durable place v none held.1),
    )
    behind_one (HeapMove (SetCells r i vs)) served none =
        let now = now_behind (HeapMove (SetCells r i vs)) served none in (now, choose m.heap.begun m.heap.durable _ held.1 now)
    behind_one (HeapMove (AddObject o size)) served none =
        let now = now_behind (HeapMove (AddObject o size)) served none in (now, choose m.heap.begun m.heap.durable _ held.1 now)
    behind_one (HeapMove (AddTransient kind event class owner long)) served none =
        let now = now_behind (HeapMove (AddTransient kind event class owner long)) served none in (now, choose m.heap.begun m.heap.durable _ held.1 now)
    behind_one (HeapMove (AddPackage components arrays rest)) served none = absurd served
    behind_one (HeapMove Begin) served none = (held.0, held.0)
    behind_one (HeapMove Commit) served none = (held.0, held.0)
    behind_one (HeapMove Abort) served none = (held.1, held.1)
    behind_one (SetTransient r i values) served none = held
    behind_one (SetFlag r flag) served none = held
    behind_one (ClearTransient event) served none = held
    behind_one (SetRegisters g) served none = held
    behind_one (BeginCommand bytes) served none = held
    behind_one (SendBytes bytes) served none = held

  pub behind_all : (es : List Effect) (m : MemoryState) → AllEffectsDue (IsServed p) es m → IsSoundMemory p m → SetNoTries q es m → HoldsInBoth q n f m
      → HoldsInBoth q n f (apply_effects es m)
  behind_all [] m served s none held = held
  behind_all (e ∷ es) m served s none held =
      behind_all es (apply_effect e m) served.1 (serving_keeps.sound p e m served.0 s) none.1 (behind_one m s held e served.0 none.0)

pub none_before : (q : ℕ) (es fs : List Effect) (m : MemoryState) → SetNoTries q (es ++ fs) m → SetNoTries q es m
none_before q [] fs m none = tt
none_before q (e ∷ es) fs m none = (none.0, none_before q es fs (apply_effect e m) none.1)

-- ---- as it is counted

as_many : (a b : Object) → header_only (AnObject a) ≡ header_only (AnObject b) → length a.cells ≡ length b.cells
as_many a b same = sym (length-replicate (length a.cells) 0) ∙ ap (λ t. length (cells_of t)) same ∙ length-replicate (length b.cells) 0

set_holds : (q v : ℕ) (f : Facts) (h : HeapState) (o : Object) → heap_item_at h q ≡ AnObject o → 2 < length o.cells → o.facts.event ≡ None → o.facts ≡ f
    → Holds q v f (set_cell h q 2 v)
set_holds q v f h o item long persistent same = record {
  object = record o { cells = set o.cells 2 v };
  item = heap_item_at-set_cell h q 2 v (object_named h q (ap is_object item)) ∙ ap (λ t. with_cell t 2 v) item;
  persistent = persistent;
  tries = get_or-set_same o.cells 2 v 0 long;
  same = same;
}

pub counted_in_both : (p : Packages) (known : AreKnown p) (m : MemoryState) → IsSoundMemory p m → (q v : ℕ) → is_owner_pin p m.heap.durable q ≡ true
    → goes_back m.heap (place_at m.heap.now (counter q)) ≡ false
    → HoldsInBoth q v (facts m.heap.durable q) (apply_effect (HeapMove (WriteNonAtomic (counter q) v)) m)
counted_in_both p known m s q v is away =
    let f = facts m.heap.durable q in
    let parts = and_parts (is_object_address m.heap.durable q) _ is in
    let kept : is_persistent_instance f ≡ true = (and_parts (is_persistent_instance f) _ parts.1).0 in
    let event : f.event ≡ None = event_none f kept in
    let shape = s.whole.shape.items q (below_end m.heap.durable q s.whole.durable.end parts.0) in
    let now : PinIn q m.heap.now = pin_in p known m s q (pin_now p m q s is) in
    let d = an_object (heap_item_at m.heap.durable q) parts.0 in
    let header : header_only (AnObject now.object) ≡ header_only (AnObject d.0) = ap header_only (sym now.item) ∙ shape ∙ ap header_only d.1 in
    let long : 2 < length (d.0).cells = subst (λ k. 2 < k) (as_many now.object d.0 header) now.cells in
    let now_same : (now.object).facts ≡ f = ap facts_of (sym now.item) ∙ same_facts (heap_item_at m.heap.now q) (heap_item_at m.heap.durable q) shape in
    let durable_same : (d.0).facts ≡ f = ap facts_of (sym d.1) in (
      set_holds q v f m.heap.now now.object now.item now.cells (ap (λ (g : Facts). g.event) now_same ∙ event) now_same,
      subst (λ (b : Bool). Holds q v f (if b then m.heap.durable else set_cell m.heap.durable q 2 v)) (sym away)
          (set_holds q v f m.heap.durable d.0 d.1 long (ap (λ (g : Facts). g.event) durable_same ∙ event) durable_same),
    )

pub tries_of : (q v : ℕ) (f : Facts) (h : HeapState) → Holds q v f h → tries_in h q ≡ v
tries_of q v f h held = ap (λ t. get_or (cells_of t) 2 0) held.item ∙ held.tries
