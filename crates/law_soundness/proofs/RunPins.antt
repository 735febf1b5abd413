-- OwnerPIN.
use Rattle.std.proofs.Common.{◌≡◌, ℕ, ◌<◌, ◌≤◌, Bool, true, false, refl, sym, ◌∙◌, ap, subst, arith}
use Rattle.std.proofs.lemmas.Bool.{and_from, eq-eqb, false_from_ne_true, true≢false}
use Rattle.std.specs.Prelude.{is_none}
use Rattle.jc_environment.specs.Objects.{last_of}
use Rattle.jc_heap.specs.declared.object.Kind.TheVariants.{ByteArray}
use Rattle.jc_heap.specs.Object.{AnObject, Object, facts_of, is_object, new_object, object_size}
use Rattle.jc_heap.specs.Heap.{HeapState, add_object, facts, heap_item_at, is_allocated, set_cell}
use Rattle.jc_heap.specs.Moves.{WriteNonAtomic}
use Rattle.jc_heap.proofs.Laws.{header_only-set_cell, facts-set_cell, heap_item_at-add_object, heap_item_at-add_other, object_named}
use Rattle.jc_heap.proofs.Keeping.{object-header_only}
use Rattle.jc_transient.specs.Owners.{owner_number}
use Rattle.jc_memory.specs.State.{MemoryState, HeapMove, SetFlag, IsNew, apply_effect}
use Rattle.jc_memory.specs.Making.{object_creation}
use Rattle.jc_memory.specs.Reading.{AllDue}
use Rattle.jc_linker.specs.Classes.{reference_cell, is_a}
use Rattle.jc_linker.specs.Values.{Packages}
use Rattle.jc_environment.specs.Pins.{counter, is_pin}
use Rattle.jc_environment.specs.Pins.PinInit.{value_array}
use Rattle.jc_platform.specs.declared.names.PlatformClass.TheVariants.{Aid, OwnerPin}
use Rattle.jc_platform.specs.Hierarchy.{cells_of, is_interface}
use Rattle.jc_platform.specs.Names.{classes}
use Rattle.jc_packages.specs.Objects.{is_byte_array, is_instance, is_persistent_instance, is_object_address}
use Rattle.law_code.proofs.ClassFacts.{numbers_before}
use Rattle.law_code.specs.Classes.{KnowsClasses}
use Rattle.law_soundness.specs.MemoryLaws.Fit.{IsFit, IsPinObject, OfPin}
use Rattle.law_soundness.specs.MemoryLaws.State.{IsSoundMemory, IsSteady}
use Rattle.jc_api_framework.proofs.Passing.{recorded}
use Rattle.law_code.proofs.Pins.{pin_record}
use Rattle.law_soundness.proofs.RunObjects.{active_known, kept_behind, kept_fits, new_kept}
use Rattle.law_soundness.proofs.Below.{aid_no_pin}

-- a PIN's object stays one where its header stays
pub pin_stays : (p : Packages) (m v : MemoryState) (r : ℕ) → IsPinObject p m r → facts v.heap.now r ≡ facts m.heap.now r
    → is_object_address v.heap.now r ≡ is_object_address m.heap.now r → v.fixed ≡ m.fixed → IsPinObject p v r
pin_stays p m v r old same there fixed = record {
  there = there ∙ old.there;
  behind = subst (λ l. last_of l < r) (sym fixed) old.behind;
  kept = subst (λ f. is_persistent_instance f ≡ true) (sym same) old.kept;
  pin = subst (λ f. is_a p f.class OwnerPin ≡ true) (sym same) old.pin;
  aid = subst (λ f. is_a p f.class Aid ≡ false) (sym same) old.aid;
  numbers = λ k lt. subst (λ f. reference_cell p f.class k ≡ false) (sym same) (old.numbers k lt);
  long = subst (λ f. 5 ≤ f.length) (sym same) old.long;
}

is_object_address-set_cell : (h : HeapState) (r i v q : ℕ) → is_object_address (set_cell h r i v) q ≡ is_object_address h q
is_object_address-set_cell h r i v q = sym (object-header_only (heap_item_at (set_cell h r i v) q)) ∙ ap is_object (header_only-set_cell h r i v q)
    ∙ object-header_only (heap_item_at h q)

pub positive : (n : ℕ) → (n ≡ 0 → ⊥) → 0 < n
positive n some = omega (arith, some)

module _ (p : Packages) where
  -- its counter
  pub after_flag : (m : MemoryState) (r : ℕ) (flag : Bool) → IsPinObject p m r → IsPinObject p (apply_effect (SetFlag r flag) m) r
  after_flag m r flag pin = pin_stays p m (apply_effect (SetFlag r flag) m) r pin refl refl refl

  pub after_count : (m : MemoryState) (r x : ℕ) → IsPinObject p m r → IsPinObject p (apply_effect (HeapMove (WriteNonAtomic (counter r) x)) m) r
  after_count m r x pin = pin_stays p m (apply_effect (HeapMove (WriteNonAtomic (counter r) x)) m) r pin (facts-set_cell m.heap.now r 2 x r)
      (is_object_address-set_cell m.heap.now r 2 x r) refl

-- a PIN is set up
module _ (p : Packages) (m : MemoryState) (sound : IsSoundMemory p m) (steady : IsSteady m) (r limit maximum : ℕ) (pin : IsPinObject p m r) where
  array : Object
  array = new_object ByteArray 0 (owner_number m.registers.active) maximum

  with_array : HeapState
  with_array = add_object m.heap.now array (object_size ByteArray maximum)

  array_at : (value : ℕ) → IsNew m.heap.now value → heap_item_at with_array value ≡ AnObject array
  unfolding array with_array
  array_at value new = subst (λ x. heap_item_at with_array x ≡ AnObject array) (sym new.chosen)
      (heap_item_at-add_object m.heap.now array (object_size ByteArray maximum) (subst (λ t. is_allocated m.heap.now t ≡ false) new.chosen new.free))

  pin_there : (value : ℕ) → IsNew m.heap.now value → heap_item_at with_array r ≡ heap_item_at m.heap.now r
  unfolding array with_array
  pin_there value new = heap_item_at-add_other m.heap.now array (object_size ByteArray maximum) r
      (λ same. true≢false (sym (object_named m.heap.now r pin.there) ∙ ap (is_allocated m.heap.now) (sym same ∙ sym new.chosen) ∙ new.free))

  is_bytes_new : is_byte_array array.facts maximum ≡ true
  unfolding array
  is_bytes_new = eq-eqb maximum maximum refl

  pub starts : AllDue (IsFit p) (object_creation (value_array m maximum) (recorded r limit maximum)) m
  unfolding array with_array
  starts = λ value new. (
    new_kept p m (value_array m maximum) (record {
      there = refl;
      known = active_known p m sound steady;
      small = λ is. absurd (true≢false (sym is));
      environments = λ is zero. absurd (true≢false (sym is));
    }) refl value new,
    (
      OfPin (record {
        pin = r;
        limit = limit;
        maximum = maximum;
        value = value;
        is = refl;
        object = pin_stays p m _ r pin (ap facts_of (pin_there value new)) (ap is_object (pin_there value new)) refl;
        array = ap is_object (array_at value new);
        bytes = ap (λ t. is_byte_array (facts_of t) maximum) (array_at value new) ∙ is_bytes_new;
        some = positive value new.some;
      }),
      (tt, tt),
    ),
  )

-- a PIN of the class, or of one below it
module _ (p : Packages) (m : MemoryState) (known : KnowsClasses p) (sound : IsSoundMemory p m) where
  pub pin_object : (r : ℕ) → is_pin m r ≡ true → is_a p (facts m.heap.now r).class OwnerPin ≡ true → IsPinObject p m r
  unfolding cells_of is_interface classes
  pin_object r e own =
      let is = pin_record m r e in
      let kept = and_from (is_instance (facts m.heap.now r).kind) (is_none (facts m.heap.now r).event) (ap is_instance is.kind) is.persistent in
      let instances = kept_fits p m sound r is.there kept in
      record {
        there = is.there;
        behind = kept_behind p m sound r is.there kept;
        kept = kept;
        pin = own;
        aid = false_from_ne_true (is_a p (facts m.heap.now r).class Aid) (λ isnt. aid_no_pin p known (facts m.heap.now r).class instances isnt own);
        numbers = λ k lt. known.platform.kinds (facts m.heap.now r).class k OwnerPin instances refl own (omega (arith, lt))
            ∙ numbers_before OwnerPin 4 refl k lt;
        long = is.long;
      }
