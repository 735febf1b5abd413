-- What checks of instructions say where they let one go on: cells of fields, and arrays, within reach.
use Rattle.std.proofs.Common.{◌≡◌, ℕ, ◌<◌, Bool, true, false, Option, Some, None, Result, Ok, Err, refl, ◌∙◌, ap, subst, if◌then◌else◌}
use Rattle.std.proofs.lemmas.Bool.{and_parts, ltb-true}
use Rattle.std.proofs.lemmas.Option.{cond_some, none-some}
use Rattle.std.specs.Option.{option_and_then}
use Rattle.std.specs.Prelude.{ℤ, pos, negsuc, nat_lt}
use Rattle.jc_heap.specs.declared.object.Facts.{Facts}
use Rattle.jc_heap.specs.declared.object.Kind.{Kind}
use Rattle.jc_heap.specs.declared.object.Kind.TheVariants.{Instance}
use Rattle.jc_heap.specs.Heap.{IsObject, facts}
use Rattle.jc_frames.specs.declared.instr.ValueType.{ValueType}
use Rattle.jc_frames.specs.declared.exceptions.Exception.TheVariants.{ArrayIndexOutOfBoundsException}
use Rattle.jc_frames.specs.declared.outcome.Outcome.TheVariants.{Fault}
use Rattle.jc_frames.specs.declared.outcome.FrameExit.{FrameExit}
use Rattle.jc_frames.specs.declared.outcome.FrameExit.TheVariants.{Throw, End}
use Rattle.jc_memory.specs.State.{MemoryState}
use Rattle.jc_linker.specs.declared.target.Target.{Target}
use Rattle.jc_linker.specs.declared.target.Target.TheVariants as targets
use Rattle.jc_linker.specs.Classes.{is_below}
use Rattle.jc_linker.specs.Lookups.{target_at}
use Rattle.jc_linker.specs.Values.{Packages}
use Rattle.jc_firewall.specs.declared.access.Access.TheVariants.{ArrayElement, InstanceField}
use Rattle.jc_firewall.specs.FirewallLaws.{IsInReach}
use Rattle.jc_world.specs.Contexts.{firewall_check, situation_of}
use Rattle.jc_world.specs.Objects.{is_instance, is_instance_of, object_at}
use Rattle.jc_instructions.specs.declared.array_elements.Element.{Element}
use Rattle.jc_instructions.specs.ArrayElements.{array_at, array_in, header_if_allowed, has_elements, with_index}
use Rattle.jc_instructions.specs.declared.field_names.FieldOfClass.{FieldOfClass}
use Rattle.jc_instructions.specs.Fields.{cell_if_allowed, cell_in, has_cell, field_cell}
use Rattle.jc_instructions.specs.FieldNames.{field_named, field_of, is_type_of_cell}
use Rattle.jc_api.proofs.Reaching.{element_allowed, err_not_ok, field_allowed, object_is, same_Ok}

-- an entry names a field, which holds references or not
pub record Names (p : Packages) (number index : ℕ) (of_type : ValueType) (field : FieldOfClass) : Type 0 where
  pub reference : Bool
  pub target : target_at p number index ≡ Some (targets.InstanceField field.class field.cell reference)
  pub of : is_type_of_cell of_type reference ≡ true

module _ (p : Packages) (number index : ℕ) (of_type : ValueType) (field : FieldOfClass) where
  named_in : (o : Option Target) → target_at p number index ≡ o → option_and_then (field_of of_type) o ≡ Some field → Names p number index of_type field
  named_in None is e = absurd (none-some field e)
  named_in (Some (targets.InstanceField class cell reference)) is e =
      let so = cond_some (is_type_of_cell of_type reference) (record { class = class; cell = cell }) field e in
      record { reference = reference; target = is ∙ ap (λ f. Some (targets.InstanceField f.class f.cell reference)) so.1; of = so.0 }
  named_in (Some t) is e = absurd (none-some field e)

  pub names : field_named of_type p number index ≡ Some field → Names p number index of_type field
  unfolding field_named
  names e = named_in (target_at p number index) refl e

-- the cell of a field, of an instance within reach
pub record IsCell (p : Packages) (m : MemoryState) (field : FieldOfClass) (r i : ℕ) : Type 0 where
  pub there : IsObject m.heap.now r
  pub kind : (facts m.heap.now r).kind ≡ Instance
  pub below : is_below p (facts m.heap.now r).class field.class ≡ true
  pub cell : field.cell ≡ i
  pub within : i < (facts m.heap.now r).length
  pub reach : IsInReach (situation_of p m (facts m.heap.now r))

pub instance_kind : (kind : Kind) → is_instance kind ≡ true → kind ≡ Instance
instance_kind Instance e = refl
instance_kind _ e = absurd cc

module _ (field : FieldOfClass) (p : Packages) (m : MemoryState) (r i : ℕ) where
  allowed_cell : (f : Facts) → IsObject m.heap.now r → f ≡ facts m.heap.now r → (b : Bool) → has_cell field p f ≡ b → (a : Result (Unit {0}) FrameExit)
      → firewall_check InstanceField p m f ≡ a → (if b then cell_if_allowed field.cell a else Err (End Fault)) ≡ Ok i → IsCell p m field r i
  allowed_cell f there is false has a fine e = absurd (err_not_ok e)
  allowed_cell f there is true has (Err x) fine e = absurd (err_not_ok e)
  allowed_cell f there is true has (Ok u) fine e =
      let fits = and_parts (is_instance_of p f field.class) (nat_lt field.cell f.length) has in
      let own = and_parts (is_instance f.kind) (is_below p f.class field.class) fits.0 in
      let cell : field.cell ≡ i = same_Ok field.cell i e in
      record {
        there = there;
        kind = subst (λ g. g.kind ≡ Instance) is (instance_kind f.kind own.0);
        below = subst (λ g. is_below p g.class field.class ≡ true) is own.1;
        cell = cell;
        within = subst (λ g. i < g.length) is (subst (λ n. n < f.length) cell (ltb-true field.cell f.length fits.1));
        reach = subst (λ g. IsInReach (situation_of p m g)) is (field_allowed p m f fine);
      }

  cell_found : (o : Result Facts FrameExit) → object_at m r ≡ o → cell_in field p m o ≡ Ok i → IsCell p m field r i
  cell_found (Err x) is e = absurd (err_not_ok e)
  cell_found (Ok f) is e =
      let there = object_is m r f is in allowed_cell f there.0 there.1 (has_cell field p f) refl (firewall_check InstanceField p m f) refl e

  pub cell_reached : field_cell field p m r ≡ Ok i → IsCell p m field r i
  unfolding field_cell
  cell_reached e = cell_found (object_at m r) refl e

-- an array within reach, with elements of a type, and its header
pub record IsArray (p : Packages) (m : MemoryState) (of_type : ValueType) (r : ℕ) (f : Facts) : Type 0 where
  pub is : f ≡ facts m.heap.now r
  pub elements : has_elements of_type (facts m.heap.now r).kind ≡ true
  pub reach : IsInReach (situation_of p m (facts m.heap.now r))

module _ (of_type : ValueType) (p : Packages) (m : MemoryState) (r : ℕ) (f : Facts) where
  allowed_array : (g : Facts) → g ≡ facts m.heap.now r → (b : Bool) → has_elements of_type g.kind ≡ b → (a : Result (Unit {0}) FrameExit)
      → firewall_check ArrayElement p m g ≡ a → (if b then header_if_allowed g a else Err (End Fault)) ≡ Ok f → IsArray p m of_type r f
  allowed_array g is false has a fine e = absurd (err_not_ok e)
  allowed_array g is true has (Err x) fine e = absurd (err_not_ok e)
  allowed_array g is true has (Ok u) fine e = subst (IsArray p m of_type r) (same_Ok g f e) (record {
    is = is;
    elements = subst (λ h. has_elements of_type h.kind ≡ true) is has;
    reach = subst (λ h. IsInReach (situation_of p m h)) is (element_allowed p m g fine);
  })

  array_found : (o : Result Facts FrameExit) → object_at m r ≡ o → array_in (Some of_type) p m o ≡ Ok f → IsArray p m of_type r f
  array_found (Err x) is e = absurd (err_not_ok e)
  array_found (Ok g) is e = allowed_array g (object_is m r g is).1 (has_elements of_type g.kind) refl (firewall_check ArrayElement p m g) refl e

  pub array_reached : array_at (Some of_type) p m r ≡ Ok f → IsArray p m of_type r f
  unfolding array_at
  array_reached e = array_found (object_at m r) refl e

index_in : (f : Facts) (i : ℕ) (b : Bool) → nat_lt i f.length ≡ b → (e : Element)
    → (if b then Ok (record { index = i; class = f.class }) else Err (Throw ArrayIndexOutOfBoundsException)) ≡ Ok e → e.index < f.length
index_in f i false is e there = absurd (err_not_ok there)
index_in f i true is e there = subst (λ x. x.index < f.length) (same_Ok (record { index = i; class = f.class }) e there) (ltb-true i f.length is)

pub index_within : (f : Facts) (i : ℤ) (e : Element) → with_index f i ≡ Ok e → e.index < f.length
index_within f (pos i) e there = index_in f i (nat_lt i f.length) refl e there
index_within f (negsuc i) e there = absurd (err_not_ok there)
