-- Instructions on arrays.
use Rattle.std.proofs.Common.{◌≡◌, ℕ, ◌<◌, true, false, [], ◌∷◌, Option, Some, None, Result, Ok, Err, refl, sym, ◌∙◌, ap, subst}
use Rattle.std.proofs.lemmas.Bool.{and_parts, both_ways, true≢false}
use Rattle.std.proofs.lemmas.Option.{none-some, same_Some}
use Rattle.std.specs.Option.{option_and_then}
use Rattle.std.specs.Prelude.{is_none}
use Rattle.jc_transient.specs.declared.cell.CellValue.{CellValue}
use Rattle.jc_transient.specs.declared.cell.CellValue.TheVariants as kept
use Rattle.jc_heap.specs.declared.object.Kind.{Kind}
use Rattle.jc_heap.specs.declared.object.Kind.TheVariants.{Instance, BooleanArray, ByteArray, ShortArray, ReferenceArray}
use Rattle.jc_heap.specs.Heap.{facts}
use Rattle.jc_frames.specs.declared.instr.PrimitiveArray.{PrimitiveArray}
use Rattle.jc_frames.specs.declared.instr.PrimitiveArray.TheVariants.{Booleans, Bytes, Shorts}
use Rattle.jc_frames.specs.declared.instr.ValueType.{ValueType}
use Rattle.jc_frames.specs.declared.instr.ValueType.TheVariants as types
use Rattle.jc_frames.specs.declared.outcome.FrameExit.{FrameExit}
use Rattle.jc_memory.specs.State.{MemoryState}
use Rattle.jc_memory.specs.Cells.{word_of}
use Rattle.jc_linker.specs.declared.target.Target.{Target}
use Rattle.jc_linker.specs.declared.target.Target.TheVariants as targets
use Rattle.jc_linker.specs.Classes.{is_class}
use Rattle.jc_linker.specs.Lookups.{target_at}
use Rattle.jc_linker.specs.Values.{Packages}
use Rattle.jc_packages.specs.Objects.{fits_class, is_instance, is_reference}
use Rattle.jc_world.specs.Types.{class_named, class_of}
use Rattle.jc_world.specs.Values.{keepable}
use Rattle.jc_instructions.specs.ArrayElements.{assignable_or_null, element_value, has_elements, element_if_assignable}
use Rattle.jc_instructions.specs.ArrayCreation.{kind_of}
use Rattle.law_code.specs.Classes.{KnowsClasses}
use Rattle.law_soundness.specs.MemoryLaws.Fit.{FitsFill, FitsValue, IsFit}
use Rattle.law_soundness.specs.MemoryLaws.State.{IsLivingValue, IsSoundMemory, IsSteady}
use Rattle.law_code.proofs.Instructions.{arrays_due}
use Rattle.jc_api.proofs.Passing.{Makes}
use Rattle.jc_api.proofs.Reaching.{err_not_ok, same_Ok}
use Rattle.law_code.proofs.EffectConditions.{ArraysPass, new_for}
use Rattle.law_soundness.specs.MachineLaws.Groups.{ArraysFit}
use Rattle.law_soundness.proofs.RunObjects.{active_known, new_kept, one_fits, set_in}
use Rattle.law_soundness.proofs.RunValues.{HasType, IsRef, element_of, has_type, keepable_is, keepable_lives, keepable_same}

no_instance : (of_type : ValueType) (kind : Kind) → has_elements of_type kind ≡ true → is_instance kind ≡ true → ⊥
no_instance types.Reference Instance has is = absurd cc
no_instance types.Byte Instance has is = absurd cc
no_instance types.Short Instance has is = absurd cc
no_instance of_type _ has is = absurd cc

references : (of_type : ValueType) (kind : Kind) (value : CellValue) → has_elements of_type kind ≡ true → kind ≡ ReferenceArray → HasType of_type value
    → IsRef value
references types.Reference kind value has is of = of
references types.Byte kind value has is of = absurd (one kind has is)
  where
    one : (k : Kind) → has_elements types.Byte k ≡ true → k ≡ ReferenceArray → ⊥
    one k has is = true≢false (sym has ∙ ap (has_elements types.Byte) is)
references types.Short kind value has is of = absurd (one kind has is)
  where
    one : (k : Kind) → has_elements types.Short k ≡ true → k ≡ ReferenceArray → ⊥
    one k has is = true≢false (sym has ∙ ap (has_elements types.Short) is)

module _ (p : Packages) (m : MemoryState) where
  kept_same : (value v : CellValue) (o : Result (Unit {0}) FrameExit) → element_if_assignable value o ≡ Ok v → value ≡ v
  kept_same value v (Err x) e = absurd (err_not_ok e)
  kept_same value v (Ok u) e = same_Ok value v e

  element_same : (class : ℕ) (value v : CellValue) → element_value p m class value ≡ Ok v → value ≡ v
  unfolding element_value
  element_same class (kept.Short x) v e = same_Ok (kept.Short x) v e
  element_same class (kept.Reference r) v e = kept_same (kept.Reference r) v (assignable_or_null p m class r) e

  element_fits : (of_type : ValueType) (r i : ℕ) (value k v : CellValue) (class : ℕ) → has_elements of_type (facts m.heap.now r).kind ≡ true
      → HasType of_type value → keepable p m value ≡ Ok k → element_value p m class k ≡ Ok v → FitsValue p m.heap.now r i (word_of v)
  element_fits of_type r i value k v class has of kept fits = (
    λ stays. absurd (no_instance of_type (facts m.heap.now r).kind has (and_parts (is_instance (facts m.heap.now r).kind)
        (is_none (facts m.heap.now r).event) stays).0),
    λ array. subst (λ x. is_reference m.heap.now (word_of x) ≡ true) (element_same class k v fits)
        (keepable_is p m value k (references of_type (facts m.heap.now r).kind value has array of) kept),
  )

  -- into a transient array
  element_fills : (of_type : ValueType) (r i : ℕ) (value k v : CellValue) (class : ℕ) → has_elements of_type (facts m.heap.now r).kind ≡ true
      → HasType of_type value → keepable p m value ≡ Ok k → element_value p m class k ≡ Ok v → i < (facts m.heap.now r).length → FitsFill m r i (v ∷ [])
  element_fills of_type r i value k v class has of kept fits within =
      let lives = subst (IsLivingValue m.heap.now) (element_same class k v fits) (keepable_lives p m value k kept) in
      one_fits m r i v within lives (λ array. element_of m.heap.now v (subst IsRef (keepable_same p m value k kept ∙ element_same class k v fits)
      (references of_type (facts m.heap.now r).kind value has array of)) lives)

module _ (p : Packages) (m : MemoryState) (known : KnowsClasses p) (sound : IsSoundMemory p m) (steady : IsSteady m) where
  array_fits : (kind : Kind) (class n : ℕ) → is_instance kind ≡ false → fits_class p kind class n ≡ true → Makes (IsFit p) m (new_for m kind class n)
  array_fits kind class n none fits = new_kept p m (new_for m kind class n) (record {
    there = fits;
    known = active_known p m sound steady;
    small = λ is. absurd (both_ways (is_instance kind) none is);
    environments = λ is zero. absurd (both_ways (is_instance kind) none is);
  }) refl

  of_kind : (of_type : PrimitiveArray) (n : ℕ) → Makes (IsFit p) m (new_for m (kind_of of_type) 0 n)
  of_kind Booleans n = array_fits BooleanArray 0 n refl refl
  of_kind Bytes n = array_fits ByteArray 0 n refl refl
  of_kind Shorts n = array_fits ShortArray 0 n refl refl

  class_there : (number index class : ℕ) (o : Option Target) → target_at p number index ≡ o → option_and_then class_of o ≡ Some class → is_class p class ≡ true
  class_there number index class None is e = absurd (none-some class e)
  class_there number index class (Some (targets.Class c)) is e = known.classes number index class (is ∙ ap (λ x. Some (targets.Class x)) (same_Some c class e))
  class_there number index class (Some t) is e = absurd (none-some class e)

  named_there : (number index class : ℕ) → class_named p number index ≡ Some class → is_class p class ≡ true
  unfolding class_named
  named_there number index class e = class_there number index class (target_at p number index) refl e

  pub arrays_pass : ArraysPass (IsFit p) p m
  arrays_pass = record {
    element = λ of_type r f e cells v k w taken kept array inside fits. set_in p m (facts m.heap.now r).event r e.index w refl
        (element_fits p m of_type r e.index v.0 k w e.class array.elements (has_type of_type cells v taken) kept fits)
        (element_fills p m of_type r e.index v.0 k w e.class array.elements (has_type of_type cells v taken) kept fits
        (subst (λ g. e.index < g.length) array.is inside));
    numbers = of_kind;
    references = λ number index class n named. array_fits ReferenceArray class n refl (named_there number index class named);
  }

pub arrays_are_fit : ArraysFit
arrays_are_fit operation p s m known sound steady = arrays_due (IsFit p) p m (arrays_pass p m known sound steady) operation s
