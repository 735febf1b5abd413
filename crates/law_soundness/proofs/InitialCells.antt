-- Cells of objects with a state, as calls set them from values that they were given.
use Rattle.std.proofs.Common.{◌≡◌, ◌∙◌, ℕ, zero, suc, ◌+◌, ◌<◌, true, false, inl, inr, List, [], ◌∷◌, length, refl, sym, ap, subst, arith}
use Rattle.std.proofs.lemmas.Bool.{and_parts, both_ways, or_right}
use Rattle.std.proofs.lemmas.List.{length-map}
use Rattle.std.proofs.lemmas.Option.{slice_get_cases}
use Rattle.std.specs.Option.{option_and_then}
use Rattle.std.specs.Prelude.{◌==◌, ◌||◌, slice_index, unwrap_or}
use Rattle.jc_heap.specs.Heap.{HeapState, facts}
use Rattle.jc_heap.specs.WholeHeap.{IsReference}
use Rattle.jc_frames.specs.Cell.{as_reference}
use Rattle.jc_frames.specs.declared.cell.Cell.{Cell}
use Rattle.jc_frames.specs.declared.cell.Cell.TheVariants.{Short, Reference, ReturnAddress}
use Rattle.jc_memory.specs.State.{MemoryState}
use Rattle.jc_linker.specs.Classes.{is_a}
use Rattle.jc_linker.specs.Values.{Packages}
use Rattle.jc_platform.specs.Hierarchy.{cells_of, holds_reference}
use Rattle.jc_platform.specs.declared.names.PlatformClass.{PlatformClass}
use Rattle.jc_platform.specs.declared.names.PlatformMethod.{PlatformMethod}
use Rattle.jc_packages.specs.Objects.{is_instance, is_object_address, is_reference}
use Rattle.jc_world.specs.Objects.{reference_argument}
use Rattle.jc_world.specs.Objects as called
use Rattle.jc_api.specs.Initializing.{AreFields, FieldsAnswer, word_given, words_given}
use Rattle.jc_api.specs.declared.initializing.FieldValue.{FieldValue}
use Rattle.jc_api.specs.declared.initializing.FieldValue.TheVariants.{Argument, Word}
use Rattle.jc_api.proofs.Passing.{IsInitializing}
use Rattle.law_code.specs.Classes.{KnowsClasses}
use Rattle.law_soundness.specs.MemoryLaws.Fit.{FitsRun}
use Rattle.law_soundness.specs.LivingReferences.{AreLivingCells, IsLivingCell}
use Rattle.law_soundness.specs.MemoryLaws.State.{IsSoundMemory}
use Rattle.law_soundness.proofs.RunObjects.{instance_no_array, kept_fits}
use Rattle.law_soundness.proofs.Stateful.{cell_is, no_aid, no_pin}

-- the reference of an argument is null, as is what is taken for it where it has none, or names an object
module _ (h : HeapState) (args : List Cell) (living : AreLivingCells h args) where
  refers : (r : ℕ) → IsReference h r → is_reference h r ≡ true
  refers r (inl null) = ap (λ n. n == 0 || is_object_address h n) null
  refers r (inr there) = or_right (r == 0) (is_object_address h r) there

  cell_lives : (c : Cell) → IsLivingCell h c → is_reference h (unwrap_or (as_reference c) 0) ≡ true
  cell_lives (Short v) lives = refl
  cell_lives (Reference r) lives = refers r lives
  cell_lives (ReturnAddress a) lives = refl

  pub argument_lives : (i : ℕ) → is_reference h (unwrap_or (reference_argument args i) 0) ≡ true
  argument_lives i = elim (slice_get_cases args i).1 [
    | inl found ↦ subst (λ o. is_reference h (unwrap_or (option_and_then as_reference o) 0) ≡ true) (sym found.2)
        (cell_lives found.0 (subst (IsLivingCell h) found.3 (living i found.0 found.1)))
    | inr past ↦ subst (λ o. is_reference h (unwrap_or (option_and_then as_reference o) 0) ≡ true) (sym past.1) refl
  ]

  -- so a cell that holds a reference gets one
  field_lives : (class : PlatformClass) (values : List FieldValue) (i : ℕ) → AreFields class i values → (k : ℕ) → k < length values
      → holds_reference class (i + k) ≡ true → is_reference h (slice_index (words_given args values) k) ≡ true
  field_lives class [] i fields k lt holds = absurd (omega (arith, lt))
  field_lives class (Word w ∷ values) i fields zero lt holds =
      absurd (both_ways (holds_reference class i) fields.0 (subst (λ j. holds_reference class j ≡ true) (omega arith) holds))
  field_lives class (Word w ∷ values) i fields (suc k) lt holds = field_lives class values (suc i) fields.1 k (omega (arith, lt))
      (subst (λ j. holds_reference class j ≡ true) (omega arith) holds)
  field_lives class (Argument place ∷ values) i fields zero lt holds = argument_lives place
  field_lives class (Argument place ∷ values) i fields (suc k) lt holds = field_lives class values (suc i) fields k (omega (arith, lt))
      (subst (λ j. holds_reference class j ≡ true) (omega arith) holds)

-- the cells that such a call sets fit
pub fields_fit : (p : Packages) (m : MemoryState) → KnowsClasses p → IsSoundMemory p m → (method : PlatformMethod) (args : List Cell)
    → AreLivingCells m.heap.now args → (a : FieldsAnswer) (own : ℕ) → IsInitializing method args p m a own
    → FitsRun p m own a.start (words_given args a.values)
fields_fit p m known sound method args living a own is = (
  λ stays.
      let instances = kept_fits p m sound own is.there.there stays in
      let has = is.fits.class in
      let within = is.fits.within in
      let of : is_a p (facts m.heap.now own).class a.class ≡ true = (and_parts (called.is_instance (facts m.heap.now own).kind) _ is.class).1 in
      inr (record {
        fits = λ k lt.
            let given : k < length a.values = subst (λ n. k < n) (length-map a.values (word_given args)) lt in
            record {
              reference = λ holds. field_lives m.heap.now args living a.class a.values a.start is.fits.fields k given
                  (sym (cell_is p known (facts m.heap.now own).class a.class has instances of (a.start + k) (omega (arith, given, within))) ∙ holds);
              aid = λ isnt. absurd (no_aid p known (facts m.heap.now own).class a.class has instances of isnt);
              pin = λ isnt. absurd (no_pin p known (facts m.heap.now own).class a.class has instances of isnt);
            };
      }),
  λ array. absurd (instance_no_array (facts m.heap.now own).kind (ap is_instance is.there.instance) array),
)
