-- Static fields.
use Rattle.std.proofs.Common.{◌≡◌, ℕ, ◌+◌, ◌-◌, ◌*◌, ◌<◌, ◌≤◌, ◌⊎◌, Bool, true, false, inl, inr, [], ◌∷◌, length, Option, Some, None, Ok, refl, sym, ◌∙◌, ap}
use Rattle.std.proofs.Common.{subst, arith, if◌then◌else◌}
use Rattle.std.proofs.lemmas.Bool.{and_parts, both_ways, cases_order, eqb-false, leb-true, ltb-true}
use Rattle.std.proofs.lemmas.Option.{cond_some, get_or_from_slice_get, none-some, option_and_then_some, same_Some, slice_get_within}
use Rattle.std.specs.Option.{option_and_then}
use Rattle.std.specs.Prelude.{◌==◌, ◌&&◌, ◌%◌, ◌/◌, nat_le, nat_lt, slice_get, slice_index}
use Rattle.jc_transient.specs.declared.cell.CellValue.{CellValue}
use Rattle.jc_heap.specs.Component.{record_of}
use Rattle.jc_heap.specs.Heap.{HeapState, is_allocated}
use Rattle.jc_heap.specs.Statics.{statics_of}
use Rattle.jc_frames.specs.declared.instr.ValueType.{ValueType}
use Rattle.jc_frames.specs.declared.instr.ValueType.TheVariants as types
use Rattle.jc_memory.specs.State.{MemoryState}
use Rattle.jc_memory.specs.Cells.{word_of}
use Rattle.jc_linker.specs.declared.target.Target.{Target}
use Rattle.jc_linker.specs.declared.target.Target.TheVariants as targets
use Rattle.jc_linker.specs.Lookups.{statics_at, target_at}
use Rattle.jc_linker.specs.Values.{Packages}
use Rattle.jc_packages.specs.Objects.{is_reference}
use Rattle.jc_world.specs.Values.{keepable}
use Rattle.jc_instructions.specs.declared.static_images.ImageWord.{ImageWord}
use Rattle.jc_instructions.specs.declared.field_names.FieldOfImage.{FieldOfImage}
use Rattle.jc_instructions.specs.StaticImages.{package_record_or_none, image_word, next_word, place_of, record_at, word_behind, word_in}
use Rattle.jc_instructions.specs.FieldNames.{has_field, static_named, static_of}
use Rattle.law_soundness.specs.MemoryLaws.Fit.{FitPlaces, FitsStatic}
use Rattle.law_soundness.specs.MemoryLaws.State.{IsSoundMemory}
use Rattle.law_code.proofs.EffectConditions.{IsWordOf}
use Rattle.law_soundness.proofs.RunValues.{HasType, keepable_is}

-- an entry names a static field, and the image has it
module _ (p : Packages) (of_type : ValueType) (field : FieldOfImage) where
  abbrev pub HasStatic : Type 0
  HasStatic = has_field of_type (statics_at p field.package_number).0 (statics_at p field.package_number).1 field.offset ≡ true

  static_in : (o : Option Target) → option_and_then (static_of of_type p) o ≡ Some field → HasStatic
  static_in None e = absurd (none-some field e)
  static_in (Some (targets.StaticField number offset)) e =
      let so = cond_some (has_field of_type (statics_at p number).0 (statics_at p number).1 offset)
      (record { package_number = number; offset = offset }) field e in
      subst (λ f. has_field of_type (statics_at p f.package_number).0 (statics_at p f.package_number).1 f.offset ≡ true) so.1 so.0
  static_in (Some t) e = absurd (none-some field e)

  pub static_is : (number index : ℕ) → static_named of_type p number index ≡ Some field → HasStatic
  unfolding static_named
  static_is number index e = static_in (target_at p number index) e

-- a word of a package's image, with this number
pub record IsWord (h : HeapState) (number k : ℕ) (w : ImageWord) : Type 0 where
  pub begin : ℕ
  pub some : (number == 0) ≡ false
  pub record_is : slice_get h.packages (number - 1) ≡ Some w.owner
  pub image : statics_of (record_of h w.owner) ≡ Some begin
  pub offset : w.offset ≡ begin + k
  pub within : w.offset < length (record_of h w.owner)

module _ (h : HeapState) (number k : ℕ) where
  record_found : (b : Bool) → (number == 0) ≡ b → (r : ℕ) → (if b then None else option_and_then (package_record_or_none h) (slice_get h.packages (number - 1)))
      ≡ Some r → ((number == 0) ≡ false) × (slice_get h.packages (number - 1) ≡ Some r)
  record_found true is r e = absurd (none-some r e)
  record_found false is r e = option_and_then_some (package_record_or_none h) (slice_get h.packages (number - 1)) r e
      (λ x there same. (is, there ∙ ap Some ((cond_some (is_allocated h x) x r same).1)))

  record_is_at : (r : ℕ) → record_at h number ≡ Some r → ((number == 0) ≡ false) × (slice_get h.packages (number - 1) ≡ Some r)
  unfolding record_at
  record_is_at r e = record_found (number == 0) refl r e

  pub word_is : (w : ImageWord) → image_word h number k ≡ Some w → IsWord h number k w
  unfolding image_word
  word_is w e = option_and_then_some (word_in h k) (record_at h number) w e (λ r there in_record. option_and_then_some (word_behind h r k)
      (statics_of (record_of h r)) w in_record (λ begin image behind.
      let record_at = record_is_at r there in
      let so = cond_some (nat_lt (begin + k) (length (record_of h r))) (record { owner = r; offset = begin + k }) w behind in
      let owner : r ≡ w.owner = ap (λ x. x.owner) so.1 in
      let place : begin + k ≡ w.offset = ap (λ x. x.offset) so.1 in
      record {
        begin = begin;
        some = record_at.0;
        record_is = record_at.1 ∙ ap Some owner;
        image = subst (λ o. statics_of (record_of h o) ≡ Some begin) owner image;
        offset = sym place;
        within = subst (λ o. w.offset < length (record_of h o)) owner (subst (λ n. n < length (record_of h r)) place
            (ltb-true (begin + k) (length (record_of h r)) so.0));
      }))

  word_next : (w behind : ImageWord) → IsWord h number k w → next_word h w ≡ Some behind → IsWord h number (k + 1) behind
  word_next w behind is e =
      let so = cond_some (nat_lt (w.offset + 1) (length (record_of h w.owner))) (record { owner = w.owner; offset = w.offset + 1 }) behind e in
      let owner : w.owner ≡ behind.owner = ap (λ x. x.owner) so.1 in
      let place : w.offset + 1 ≡ behind.offset = ap (λ x. x.offset) so.1 in
      let first = is.offset in
      record {
        begin = is.begin;
        some = is.some;
        record_is = is.record_is ∙ ap Some owner;
        image = subst (λ o. statics_of (record_of h o) ≡ Some is.begin) owner is.image;
        offset = omega (arith, place, first);
        within = subst (λ o. behind.offset < length (record_of h o)) owner (subst (λ n. n < length (record_of h w.owner)) place
            (ltb-true (w.offset + 1) (length (record_of h w.owner)) so.0));
      }

module _ (p : Packages) (m : MemoryState) (sound : IsSoundMemory p m) where
  -- a word fits where it is a reference, or after the image's references
  word_fits : (number k v : ℕ) (w : ImageWord) → IsWord m.heap.now number k w → (k < (statics_at p number).1 → is_reference m.heap.now v ≡ true)
      → FitsStatic p m.heap.now w.owner w.offset v
  word_fits number k v w is fits = record {
    there = record { begin = is.begin; image = is.image; behind = (let o = is.offset in omega (arith, o)); within = is.within };
    reference = λ place begin lt at image among.
        let here : number - 1 < length m.heap.now.packages = slice_get_within m.heap.now.packages (number - 1) w.owner is.record_is in
        let found : slice_index m.heap.now.packages (number - 1) ≡ w.owner = get_or_from_slice_get m.heap.now.packages (number - 1) w.owner 0 is.record_is in
        let some = eqb-false number 0 is.some in
        let next : place ≡ number - 1 → place + 1 ≡ number = λ same. omega (arith, same, some) in
        let same_begin : begin ≡ is.begin = same_Some begin is.begin (sym image ∙ is.image) in
        let o = is.offset in
        elim (cases_order place (number - 1)) [
          | inl same ↦ fits (let n = ap (λ x. (statics_at p x).1) (next same) in omega (arith, among, same_begin, o, n))
          | inr (inl less) ↦ absurd (sound.whole.now.whole.distinct place (number - 1) less here (at ∙ sym found))
          | inr (inr more) ↦ absurd (sound.whole.now.whole.distinct (number - 1) place more lt (found ∙ sym at))
        ];
  }

  -- after the references
  past : (number k : ℕ) (w : ImageWord) → IsWord m.heap.now number k w → (statics_at p number).1 ≤ k → (x : ℕ) → FitsStatic p m.heap.now w.owner w.offset x
  past number k w is le x = word_fits number k x w is (λ lt. absurd (omega (arith, le, lt)))

  module _ (field : FieldOfImage) (w : ImageWord) (there : IsWordOf m field w) where
    word : IsWord m.heap.now field.package_number (field.offset / 2) w
    word = word_is m.heap.now field.package_number (field.offset / 2) w there

    -- of a field that holds no reference
    is_past : (rest : Bool) → (nat_le (2 * (statics_at p field.package_number).1) field.offset && rest) ≡ true
        → (statics_at p field.package_number).1 ≤ field.offset / 2
    is_past rest has =
        let low = and_parts (nat_le (2 * (statics_at p field.package_number).1) field.offset) rest has in
        let le = leb-true (2 * (statics_at p field.package_number).1) field.offset low.0 in
        omega (arith, le)

    number_fits : (x : ℕ) → (statics_at p field.package_number).1 ≤ field.offset / 2 → FitsStatic p m.heap.now w.owner w.offset x
    number_fits x le = past field.package_number (field.offset / 2) w word le x

    numbers_fit : (behind : ImageWord) (x y : ℕ) → next_word m.heap.now w ≡ Some behind → (statics_at p field.package_number).1 ≤ field.offset / 2
        → FitPlaces p m.heap.now ((place_of w, x) ∷ (place_of behind, y) ∷ [])
    numbers_fit behind x y next le = (
      number_fits x le,
      (
        past field.package_number (field.offset / 2 + 1) behind
            (word_next m.heap.now field.package_number (field.offset / 2) w behind word next) (omega (arith, le)) y,
        tt,
      ),
    )

    -- a word that is set of a static field
    pub word_set : (of_type : ValueType) (value v : CellValue) (x : ℕ) → HasStatic p of_type field → HasType of_type value → keepable p m value ≡ Ok v
        → (of_type ≡ types.Byte) ⊎ (x ≡ word_of v) → FitsStatic p m.heap.now w.owner w.offset x
    word_set types.Byte value v x has of kept whole = number_fits x (is_past _ has)
    word_set types.Short value v x has of kept whole = number_fits x (is_past _ has)
    word_set types.Reference value v x has of kept (inl byte) = absurd cc
    word_set types.Reference value v x has of kept (inr same) = word_fits field.package_number (field.offset / 2) x w word
        (λ lt. subst (λ n. is_reference m.heap.now n ≡ true) (sym same) (keepable_is p m value v of kept))

    pub halves_set : (of_type : ValueType) (behind : ImageWord) (x y : ℕ) → HasStatic p of_type field → (field.offset % 2 == 0) ≡ false
        → next_word m.heap.now w ≡ Some behind → FitPlaces p m.heap.now ((place_of w, x) ∷ (place_of behind, y) ∷ [])
    halves_set types.Byte behind x y has odd next = numbers_fit behind x y next (is_past _ has)
    halves_set types.Short behind x y has odd next = numbers_fit behind x y next (is_past _ has)
    halves_set types.Reference behind x y has odd next = absurd (both_ways (field.offset % 2 == 0) odd (and_parts (field.offset % 2 == 0) _ has).0)
