-- Reasons of exceptions, and transient arrays.
use Rattle.std.proofs.Common.{◌≡◌, ℕ, ◌+◌, Bool, true, false, Option, Some, None, refl, sym, ◌∙◌, ap, subst, arith, if◌then◌else◌}
use Rattle.std.proofs.lemmas.Bool.{and_parts, both_ways, false_from_ne_true, ltb-false}
use Rattle.std.proofs.lemmas.Option.{none-some}
use Rattle.std.specs.Prelude.{nat_lt}
use Rattle.jc_transient.specs.declared.cell.ClearEvent.{ClearEvent}
use Rattle.jc_heap.specs.declared.object.Kind.{Kind}
use Rattle.jc_heap.specs.declared.object.Kind.TheVariants.{Instance, BooleanArray, ByteArray, ShortArray, ReferenceArray}
use Rattle.jc_heap.specs.declared.refusal.HeapRefusal.{HeapRefusal}
use Rattle.jc_heap.specs.declared.refusal.HeapRefusal.TheVariants.{NoTransientSpace}
use Rattle.jc_heap.specs.Heap.{LacksCells, area_end, area_limit, facts}
use Rattle.jc_memory.specs.declared.making.NewObject.{NewObject}
use Rattle.jc_transient.specs.Owners.{owner_number}
use Rattle.jc_memory.specs.State.{MemoryState}
use Rattle.jc_memory.specs.Making.{creation_refusal, creation_refusal_in}
use Rattle.jc_linker.specs.Classes.{is_class, reference_cell, is_a}
use Rattle.jc_linker.specs.Values.{Packages}
use Rattle.jc_platform.specs.declared.names.PlatformClass.{PlatformClass}
use Rattle.jc_platform.specs.declared.names.PlatformClass.TheVariants.{Object}
use Rattle.jc_platform.specs.NamePlaces.{class_word}
use Rattle.jc_platform.specs.Hierarchy.{is_interface}
use Rattle.jc_platform.specs.Names.{classes}
use Rattle.jc_packages.specs.Objects.{fits_class, is_instance}
use Rattle.jc_world.specs.Instances.{IsInstanceWith}
use Rattle.jc_api.specs.NewArrays.{class_for}
use Rattle.law_code.specs.Classes.{KnowsClasses}
use Rattle.law_soundness.specs.MemoryLaws.Fit.{FitsNew, FitsValue, IsFit}
use Rattle.law_soundness.specs.MemoryLaws.State.{IsSoundMemory, IsSteady, is_owner_up_to, most_new}
use Rattle.jc_api.proofs.Passing.{IsTransientArray, Makes}
use Rattle.law_soundness.proofs.RunObjects.{active_known, instance_kind, instance_no_array, kept_fits, new_transient}
use Rattle.law_soundness.proofs.Below.{HasReason, reason_no_aid, reason_no_pin}

-- the reason of an exception
module _ (p : Packages) (m : MemoryState) (known : KnowsClasses p) (sound : IsSoundMemory p m) where
  pub reason_fits : (of : PlatformClass) → HasReason of → (own w : ℕ) → is_a p (facts m.heap.now own).class of ≡ true → IsInstanceWith m own 1
      → FitsValue p m.heap.now own 0 w
  reason_fits of has own w is there = (
    λ stays. (let instances = kept_fits p m sound own there.there stays in record {
      reference = λ holds. absurd (both_ways (reference_cell p (facts m.heap.now own).class 0)
          (known.platform.kinds (facts m.heap.now own).class 0 of instances has.class is has.cells ∙ has.number) holds);
      aid = λ isnt. absurd (reason_no_aid p known (facts m.heap.now own).class instances of has is isnt);
      pin = λ isnt. absurd (reason_no_pin p known (facts m.heap.now own).class instances of has is isnt);
    }),
    λ array. absurd (instance_no_array (facts m.heap.now own).kind (ap is_instance there.instance) array),
  )

-- transient arrays
module _ (p : Packages) (m : MemoryState) (known : KnowsClasses p) (sound : IsSoundMemory p m) (steady : IsSteady m) where
  -- a cell that there is no space for is refused
  space_in : (event : ClearEvent) (long : ℕ) (b : Bool) → nat_lt (area_limit m.heap.now event) (area_end m.heap.now event + long) ≡ b → (other : Option HeapRefusal)
      → (if b then Some NoTransientSpace else other) ≡ None → LacksCells m.heap.now event long → ⊥
  space_in event long true lacks other e more = absurd (none-some NoTransientSpace (sym e))
  space_in event long false lacks other e more = let le = ltb-false (area_limit m.heap.now event) (area_end m.heap.now event + long) lacks in omega (arith, le, more)

  has_space : (o : NewObject) (event : ClearEvent) → o.event ≡ Some event → creation_refusal m o ≡ None → LacksCells m.heap.now event o.length → ⊥
  has_space o event is room = space_in event o.length (nat_lt (area_limit m.heap.now event) (area_end m.heap.now event + o.length)) refl _
      (subst (λ e. creation_refusal_in e m o ≡ None) is room)

  fits_for : (kind : Kind) (n : ℕ) → (kind ≡ Instance → ⊥) → fits_class p kind (class_for kind p) n ≡ true
  unfolding is_interface classes
  fits_for Instance n none = absurd (none refl)
  fits_for BooleanArray n none = refl
  fits_for ByteArray n none = refl
  fits_for ShortArray n none = refl
  fits_for ReferenceArray n none = (and_parts (is_class p (class_word p.platform Object)) _ (known.platform.own Object (known.platform.needed Object refl) refl)).0

  pub array_new : (o : NewObject) → (o.kind ≡ Instance → ⊥) → o.class ≡ class_for o.kind p → o.owner ≡ m.registers.active
      → FitsNew p m o.kind o.class (owner_number o.owner) o.length
  array_new o array class owner = record {
    there = subst (λ c. fits_class p o.kind c o.length ≡ true) (sym class) (fits_for o.kind o.length array);
    known = subst (λ a. is_owner_up_to (most_new m) m.heap.now (owner_number a) ≡ true) (sym owner) (active_known p m sound steady);
    small = λ instance. absurd (array (instance_kind o.kind instance));
    environments = λ instance zero. absurd (array (instance_kind o.kind instance));
  }

  pub transient_fits : (o : NewObject) → IsTransientArray p m o → creation_refusal m o ≡ None → Makes (IsFit p) m o
  transient_fits o is room = new_transient p m o (array_new o is.array is.class is.owner) is.event is.kept (has_space o is.event is.kept room)
      (false_from_ne_true (is_instance o.kind) (λ instance. is.array (instance_kind o.kind instance)))
