-- Instructions on fields.
use Rattle.std.proofs.Common.{◌≡◌, ℕ, Bool, true, false, Ok, refl, sym, ◌∙◌, ap, subst}
use Rattle.jc_transient.specs.declared.cell.CellValue.{CellValue}
use Rattle.jc_heap.specs.Heap.{facts}
use Rattle.jc_frames.specs.declared.instr.ValueType.{ValueType}
use Rattle.jc_frames.specs.declared.instr.ValueType.TheVariants as types
use Rattle.jc_memory.specs.State.{MemoryState}
use Rattle.jc_memory.specs.Cells.{word_of}
use Rattle.jc_platform.specs.declared.names.PlatformClass.TheVariants.{Aid, OwnerPin}
use Rattle.jc_platform.specs.Hierarchy.{cells_of, is_interface}
use Rattle.jc_platform.specs.Names.{classes}
use Rattle.jc_linker.specs.Values.{Packages}
use Rattle.jc_packages.specs.Objects.{is_instance, is_persistent_instance, is_reference}
use Rattle.jc_world.specs.Values.{keepable}
use Rattle.jc_instructions.specs.declared.field_names.FieldOfClass.{FieldOfClass}
use Rattle.jc_instructions.specs.FieldNames.{is_type_of_cell}
use Rattle.law_code.proofs.Instructions.{fields_due}
use Rattle.law_code.proofs.EffectConditions.{FieldsPass}
use Rattle.law_code.proofs.AccessChecks.{IsCell, Names}
use Rattle.law_code.specs.Classes.{KnowsClasses}
use Rattle.law_soundness.specs.MemoryLaws.Fit.{FitsCell, FitsValue, IsFit, OfPlaces}
use Rattle.law_soundness.specs.MemoryLaws.State.{IsSoundMemory}
use Rattle.law_soundness.specs.MachineLaws.Groups.{FieldsFit}
use Rattle.law_soundness.proofs.RunObjects.{instance_no_array, kept_fits, one_fits, set_in}
use Rattle.law_soundness.proofs.RunStatics.{halves_set, static_is, word_set}
use Rattle.law_soundness.proofs.RunValues.{HasType, has_type, keepable_is, keepable_lives}

module _ (p : Packages) (m : MemoryState) (known : KnowsClasses p) (sound : IsSoundMemory p m) where
  -- a value that may be kept, where the field holds references
  refers : (of_type : ValueType) (reference : Bool) (value v : CellValue) → is_type_of_cell of_type reference ≡ true → HasType of_type value
      → keepable p m value ≡ Ok v → reference ≡ true → is_reference m.heap.now (word_of v) ≡ true
  refers types.Reference reference value v of is kept holds = keepable_is p m value v is kept
  refers types.Byte true value v of is kept holds = absurd cc
  refers types.Byte false value v of is kept holds = absurd cc
  refers types.Short true value v of is kept holds = absurd cc
  refers types.Short false value v of is kept holds = absurd cc

  module _ (number index : ℕ) (of_type : ValueType) (field : FieldOfClass) (r i : ℕ) (value v : CellValue) (named : Names p number index of_type field)
      (has : IsCell p m field r i) (is : HasType of_type value) (kept : keepable p m value ≡ Ok v) where
    fits_kept : is_persistent_instance (facts m.heap.now r) ≡ true → FitsCell p m.heap.now r field.cell (word_of v)
    unfolding cells_of is_interface classes
    fits_kept stays =
        let instances = kept_fits p m sound r has.there stays in
        record {
          reference = λ holds. refers of_type named.reference value v named.of is kept
              (sym (known.fields.kinds number index field.class field.cell (facts m.heap.now r).class named.reference named.target instances has.below)
              ∙ holds);
          aid = λ below. known.fields.behind number index field.class field.cell (facts m.heap.now r).class named.reference Aid named.target instances refl
              has.below below;
          pin = λ below. known.fields.behind number index field.class field.cell (facts m.heap.now r).class named.reference OwnerPin named.target instances refl
              has.below below;
        }

    fits_place : FitsValue p m.heap.now r i (word_of v)
    fits_place = (
      λ stays. subst (λ c. FitsCell p m.heap.now r c (word_of v)) has.cell (fits_kept stays),
      λ array. absurd (instance_no_array (facts m.heap.now r).kind (ap is_instance has.kind) array),
    )

  pub fields_pass : FieldsPass (IsFit p) p m
  fields_pass = record {
    field = λ of_type number index r i field cells v k taken kept named cell. set_in p m (facts m.heap.now r).event r i k refl
        (fits_place number index of_type field r i v.0 k named cell (has_type of_type cells v taken) kept)
        (one_fits m r i k cell.within (keepable_lives p m v.0 k kept)
        (λ array. absurd (instance_no_array (facts m.heap.now r).kind (ap is_instance cell.kind) array)));
    word = λ of_type number index field cells v k w x taken kept named there whole. word_set p m sound field w there of_type v.0 k x
        (static_is p of_type field number index named) (has_type of_type cells v taken) kept whole;
    halves = λ of_type number index field w behind x y named there odd next. OfPlaces
        (halves_set p m sound field w there of_type behind x y (static_is p of_type field number index named) odd next);
  }

pub fields_are_fit : FieldsFit
fields_are_fit field p s m known sound = fields_due (IsFit p) p m (fields_pass p m known sound) field s
