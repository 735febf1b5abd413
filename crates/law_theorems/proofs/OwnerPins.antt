-- What stands of an OwnerPIN in a sound memory.
use Rattle.std.proofs.Common.{◌≡◌, ℕ, ◌≤◌, true, length, refl, sym, ap, arith}
use Rattle.std.specs.Prelude.{not}
use Rattle.std.proofs.lemmas.Bool.{and_parts, eqb-true, true≢false}
use Rattle.jc_heap.specs.declared.object.Kind.{Kind}
use Rattle.jc_heap.specs.declared.object.Kind.TheVariants.{Instance, BooleanArray, ByteArray, ShortArray, ReferenceArray}
use Rattle.jc_heap.specs.Object.{Object, Item, AnObject, APackage, cells_of, is_object}
use Rattle.jc_heap.specs.Heap.{cells, facts, heap_item_at}
use Rattle.jc_heap.proofs.Laws.{object_named}
use Rattle.jc_memory.specs.State.{MemoryState}
use Rattle.jc_linker.specs.Classes.{is_class, size_of, is_a}
use Rattle.jc_linker.specs.Resolve.{names_interface}
use Rattle.jc_linker.specs.Values.{Packages}
use Rattle.jc_platform.specs.declared.names.PlatformClass.TheVariants.{OwnerPin}
use Rattle.jc_platform.specs.Hierarchy.{cells_of as platform_cells, is_interface}
use Rattle.jc_platform.specs.Names.{classes}
use Rattle.jc_packages.specs.Objects.{fits_class, is_instance, is_persistent_instance, is_object_address}
use Rattle.law_soundness.specs.MemoryLaws.State.{IsSoundMemory}
use Rattle.law_soundness.specs.MachineLaws.Soundness.{AreKnown}
use Rattle.law_soundness.proofs.RunObjects.{instance_kind, kept_behind, kept_fits}
use Rattle.law_soundness.proofs.Effects.{event_none}
use Rattle.law_theorems.specs.Tries.{is_owner_pin}
use Rattle.law_theorems.proofs.Pins.{PinIn}
use Rattle.law_theorems.proofs.EffectWords.{PinStands}

pub an_object : (t : Item) → is_object t ≡ true → (o : Object) × (t ≡ AnObject o)
an_object (AnObject o) e = (o, refl)
an_object (APackage ws) e = absurd (true≢false (sym e))

as_long : (p : Packages) (kind : Kind) (class long : ℕ) → kind ≡ Instance → fits_class p kind class long ≡ true → long ≡ size_of p class
as_long p Instance class long is e = eqb-true long (size_of p class) (and_parts (not (names_interface p class)) _ (and_parts (is_class p class) _ e).1).1
as_long p BooleanArray class long is e = absurd cc
as_long p ByteArray class long is e = absurd cc
as_long p ShortArray class long is e = absurd cc
as_long p ReferenceArray class long is e = absurd cc

module _ (p : Packages) (known : AreKnown p) (m : MemoryState) (s : IsSoundMemory p m) (r : ℕ) (is : is_owner_pin p m.heap.now r ≡ true) where
  there : is_object_address m.heap.now r ≡ true
  there = (and_parts (is_object_address m.heap.now r) _ is).0

  kept : is_persistent_instance (facts m.heap.now r) ≡ true
  kept = (and_parts (is_persistent_instance (facts m.heap.now r)) _ (and_parts (is_object_address m.heap.now r) _ is).1).0

  pin : is_a p (facts m.heap.now r).class OwnerPin ≡ true
  pin = (and_parts (is_persistent_instance (facts m.heap.now r)) _ (and_parts (is_object_address m.heap.now r) _ is).1).1

  declared : 5 ≤ (facts m.heap.now r).length
  unfolding platform_cells is_interface classes
  declared =
      let f = s.now.objects r (kept_behind p m s r there kept) there in
      let kind = instance_kind (facts m.heap.now r).kind (and_parts (is_instance (facts m.heap.now r).kind) _ kept).0 in
      let size = as_long p (facts m.heap.now r).kind (facts m.heap.now r).class (facts m.heap.now r).length kind f.class in
      let has : 5 ≤ size_of p (facts m.heap.now r).class =
      known.classes.platform.sizes (facts m.heap.now r).class OwnerPin (kept_fits p m s r there kept) refl pin in
      omega (arith, size, has)

  five : 5 ≤ length (cells m.heap.now r)
  five =
      let long = (s.now.objects r (kept_behind p m s r there kept) there).cells (event_none (facts m.heap.now r) kept) in
      let five = declared in
      omega (arith, long, five)

  pub pin_stands : PinStands p m r
  pin_stands = record { there = there; kept = kept; pin = pin; long = declared }

  pub pin_in : PinIn r m.heap.now
  pin_in =
      let o = an_object (heap_item_at m.heap.now r) there in record {
        object = o.0;
        item = o.1;
        cells = let l = ap (λ t. length (cells_of t)) o.1 in let n = five in omega (arith, l, n);
        there = object_named m.heap.now r there;
      }
