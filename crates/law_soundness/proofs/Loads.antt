-- What comes from fields, static fields and elements is null or names an object.
use Rattle.std.proofs.Common.{◌≡◌, ℕ, ◌+◌, ◌*◌, ◌-◌, ◌<◌, true, false, inl, inr, length, Option, Some, None, Result, Ok, Err, refl, sym, ◌∙◌, ap, subst, arith}
use Rattle.std.proofs.lemmas.Bool.{and_from, and_parts, cases_lt, cond-false, cond-true, eqb-false, eqb-true, ltb-true, ne_eqb}
use Rattle.std.proofs.lemmas.List.{get_or_past}
use Rattle.std.proofs.lemmas.Option.{get_or_from_slice_get, none-some, same_Some, slice_get_within}
use Rattle.std.specs.Option.{option_and_then, option_map}
use Rattle.std.specs.Prelude.{ℤ, ◌==◌, ◌%◌, ◌/◌, is_none, slice_index}
use Rattle.jc_transient.specs.declared.cell.CellValue.{CellValue}
use Rattle.jc_transient.specs.declared.cell.CellValue.TheVariants as kept
use Rattle.jc_transient.specs.declared.cell.ClearEvent.{ClearEvent}
use Rattle.jc_transient.specs.State.{cell_at}
use Rattle.jc_heap.specs.declared.object.Facts.{Facts}
use Rattle.jc_heap.specs.declared.object.Kind.{Kind}
use Rattle.jc_heap.specs.declared.object.Kind.TheVariants.{ReferenceArray}
use Rattle.jc_heap.specs.Component.{record_of}
use Rattle.jc_heap.specs.Heap.{HeapState, cells, facts}
use Rattle.jc_heap.specs.WholeHeap.{IsReference}
use Rattle.jc_memory.specs.Cells.{word_at, word_in, word_of}
use Rattle.jc_memory.specs.State.{MemoryState}
use Rattle.jc_linker.specs.Lookups.{statics_at}
use Rattle.jc_linker.specs.Classes.{is_below, reference_cell}
use Rattle.jc_linker.specs.Values.{Packages}
use Rattle.jc_frames.specs.declared.instr.ValueType.{ValueType}
use Rattle.jc_frames.specs.declared.instr.ValueType.TheVariants as types
use Rattle.jc_frames.specs.declared.cell.Cell.{Cell}
use Rattle.jc_frames.specs.declared.cell.Cell.TheVariants.{Reference}
use Rattle.jc_frames.specs.declared.outcome.FrameExit.{FrameExit}
use Rattle.jc_packages.specs.Objects.{is_instance, is_persistent_instance, is_reference}
use Rattle.jc_packages.specs.Sound.{HoldsStatics}
use Rattle.jc_world.specs.Values.{value_at}
use Rattle.jc_instructions.specs.declared.array_elements.Element.{Element}
use Rattle.jc_instructions.specs.declared.static_images.ImageWord.{ImageWord}
use Rattle.jc_instructions.specs.declared.field_names.FieldOfClass.{FieldOfClass}
use Rattle.jc_instructions.specs.declared.field_names.FieldOfImage.{FieldOfImage}
use Rattle.jc_instructions.specs.ArrayElements.{array_at, element_at, element_in, has_elements}
use Rattle.jc_instructions.specs.StaticFields.{static_value}
use Rattle.jc_instructions.specs.StaticImages.{byte_of, image_byte, image_pair, image_word, word_value}
use Rattle.law_code.proofs.EffectConditions.{ReadsSo}
use Rattle.law_code.proofs.AccessChecks.{IsArray, IsCell, Names, array_reached, index_within}
use Rattle.jc_api.proofs.Reaching.{err_not_ok}
use Rattle.law_code.proofs.StackCells.{mapped_some}
use Rattle.law_code.specs.Classes.{KnowsClasses}
use Rattle.law_soundness.specs.MemoryLaws.Environment.{HasEnvironment}
use Rattle.law_soundness.specs.LivingReferences.{IsLivingCell}
use Rattle.law_soundness.specs.MachineLaws.LocalEffects.{LocalEffectsStay}
use Rattle.law_soundness.specs.MemoryLaws.State.{IsFitObject, IsLivingElement, IsSoundMemory, last_own, most_owner}
use Rattle.law_soundness.proofs.Transients.{names_object}
use Rattle.law_soundness.proofs.RunObjects.{kept_fits}
use Rattle.law_soundness.proofs.RunStatics.{HasStatic, static_is, word_is}
use Rattle.law_soundness.proofs.NewObjects.{new_there}
use Rattle.law_soundness.proofs.Still.{IsStill, Lives}

-- ---- static fields

-- the two bytes of a word, the high one first, are the word
module _ (h : HeapState) (number offset v : ℕ) (even : (offset % 2 == 0) ≡ true) where
  abbrev IsPair : Type 0
  IsPair = (w : ImageWord) × (image_word h number (offset / 2) ≡ Some w) × (v ≡ word_value h w)

  halves_of : (word : ℕ) → 256 * byte_of word offset + byte_of word (offset + 1) ≡ word
  halves_of word =
      let zero : offset % 2 ≡ 0 = eqb-true (offset % 2) 0 even in
      let odd : ((offset + 1) % 2 == 0) ≡ false = ne_eqb ((offset + 1) % 2) 0 (λ e. omega (arith, zero, e)) in
      let high : byte_of word offset ≡ word / 256 = cond-true (offset % 2 == 0) (word / 256) (word % 256) even in
      let low : byte_of word (offset + 1) ≡ word % 256 = cond-false ((offset + 1) % 2 == 0) (word / 256) (word % 256) odd in
      omega (arith, high, low)

  pair_in : (x : Option ImageWord) → image_word h number (offset / 2) ≡ x →
      option_and_then (λ high. option_map (λ low. 256 * high + low) (option_map (λ w. byte_of (word_value h w) (offset + 1)) x))
      (option_map (λ w. byte_of (word_value h w) offset) x) ≡ Some v → IsPair
  pair_in None is e = absurd (none-some v e)
  pair_in (Some w) is e = (w, is, sym (same_Some _ v e) ∙ halves_of (word_value h w))

  pair_is : image_pair h number offset ≡ Some v → IsPair
  unfolding image_pair image_byte
  pair_is e =
      let zero : offset % 2 ≡ 0 = eqb-true (offset % 2) 0 even in
      let same : (offset + 1) / 2 ≡ offset / 2 = omega (arith, zero) in
      pair_in (image_word h number (offset / 2)) refl (subst (λ k.
      option_and_then (λ high. option_map (λ low. 256 * high + low) (option_map (λ w. byte_of (word_value h w) (offset + 1)) (image_word h number k)))
      (option_map (λ w. byte_of (word_value h w) offset) (image_word h number (offset / 2))) ≡ Some v) same e)

references_kind : (kind : Kind) → has_elements types.Reference kind ≡ true → kind ≡ ReferenceArray
references_kind ReferenceArray has = refl
references_kind _ has = absurd cc

module _ (p : Packages) (m : MemoryState) (sound : IsSoundMemory p m) where
  abbrev h : HeapState
  h = m.heap.now

  static_refers : (field : FieldOfImage) (v : ℕ) → HasStatic p types.Reference field → image_pair h field.package_number field.offset ≡ Some v
      → IsReference h v
  static_refers field v has e =
      let parts = and_parts (field.offset % 2 == 0) _ has in
      let among : field.offset / 2 < (statics_at p field.package_number).1 = ltb-true (field.offset / 2) (statics_at p field.package_number).1 parts.1 in
      let pair = pair_is h field.package_number field.offset v parts.0 e in
      let w : ImageWord = pair.0 in
      let word = word_is h field.package_number (field.offset / 2) w pair.1 in
      let some = eqb-false field.package_number 0 word.some in
      let next : field.package_number - 1 + 1 ≡ field.package_number = omega (arith, some) in
      let found : slice_index h.packages (field.package_number - 1) ≡ w.owner =
      get_or_from_slice_get h.packages (field.package_number - 1) w.owner 0 word.record_is in
      let holds : HoldsStatics h (record_of h w.owner) (statics_at p field.package_number) =
      subst (λ n. HoldsStatics h (record_of h w.owner) (statics_at p n)) next
      (subst (λ r. HoldsStatics h (record_of h r) (statics_at p (field.package_number - 1 + 1))) found
      (sound.now.statics (field.package_number - 1) (slice_get_within h.packages (field.package_number - 1) w.owner word.record_is))) in
      let begin : holds.begin ≡ word.begin = same_Some holds.begin word.begin (sym holds.image ∙ word.image) in
      let place : w.offset ≡ holds.begin + field.offset / 2 = word.offset ∙ ap (λ b. b + field.offset / 2) (sym begin) in
      names_object h v (ap (λ n. is_reference h n) (pair.2 ∙ ap (λ n. slice_index (record_of h w.owner) n) place) ∙ holds.references (field.offset / 2) among)

  pub static_living : (t : ValueType) (field : FieldOfImage) (value : Cell) → HasStatic p t field → static_value t h field ≡ Some value → IsLivingCell h value
  static_living types.Byte field value has e = mapped_some _ (image_byte h field.package_number field.offset) value (IsLivingCell h) e (λ b there. tt)
  static_living types.Short field value has e = mapped_some _ (image_pair h field.package_number field.offset) value (IsLivingCell h) e (λ w there. tt)
  static_living types.Reference field value has e = mapped_some Reference (image_pair h field.package_number field.offset) value (IsLivingCell h) e
      (λ v there. static_refers field v has there)

  -- ---- elements

  element_word : (x : CellValue) → IsLivingElement h x → IsReference h (word_of x)
  element_word (kept.Short v) living = inl (ap (λ z. word_of (kept.Short z)) living)
  element_word (kept.Reference r) living = living

  pub element_refers : (r i : ℕ) (event : Option ClearEvent) → (facts h r).event ≡ event → (facts h r).kind ≡ ReferenceArray → i < (facts h r).length
      → IsReference h (word_in event m r i)
  element_refers r i None is kind within = elim (cases_lt i (length (cells h r))) [
    | inl there ↦ sound.whole.now.whole.references r kind i there
    | inr past ↦ inl (get_or_past (cells h r) i 0 past)
  ]
  element_refers r i (Some event) is kind within = element_word (cell_at m.ram event ((facts h r).place + i)) (sound.transients.elements r event i kind is within)

  pub element_living : (t : ValueType) (r : ℕ) (f : Facts) (i : ℕ) → IsArray p m t r f → i < f.length → IsLivingCell h (value_at t m r i)
  element_living types.Byte r f i array within = tt
  element_living types.Short r f i array within = tt
  element_living types.Reference r f i array within = element_refers r i (facts h r).event refl (references_kind (facts h r).kind array.elements)
      (subst (λ g. i < g.length) array.is within)

  element_found : (t : ValueType) (r : ℕ) (i : ℤ) (e : Element) (o : Result Facts FrameExit) → array_at (Some t) p m r ≡ o → element_in i o ≡ Ok e
      → IsLivingCell h (value_at t m r e.index)
  element_found t r i e (Err x) is at = absurd (err_not_ok at)
  element_found t r i e (Ok f) is at = element_living t r f e.index (array_reached t p m r f is) (index_within f i e at)

  pub element_comes : (t : ValueType) (r : ℕ) (i : ℤ) (e : Element) → element_at t p m r i ≡ Ok e → IsLivingCell h (value_at t m r e.index)
  unfolding element_at
  element_comes t r i e at = element_found t r i e (array_at (Some t) p m r) refl at

  -- ---- fields

  module _ (known : KnowsClasses p) (environment : HasEnvironment p m) where
    -- an instance that has a field which an entry names is persistent: the others are the environment's, of classes of the platform
    field_kept : (number index : ℕ) (t : ValueType) (field : FieldOfClass) (r i : ℕ) → Names p number index t field → IsCell p m field r i
        → last_own m < r
    field_kept number index t field r i named cell = elim (cases_lt (last_own m) r) [
      | inl behind ↦ behind
      | inr low ↦
          let of = environment.now.classes r cell.there (ap is_instance cell.kind) (environment.now.first r low) in
          absurd (known.fields.hidden number index field.class field.cell named.reference named.target of.0
          (subst (λ c. is_below p c field.class ≡ true) of.2 cell.below))
    ]

    field_refers : (number index : ℕ) (field : FieldOfClass) (r i : ℕ) → Names p number index types.Reference field → IsCell p m field r i
        → IsReference h (word_at m r i)
    field_refers number index field r i named cell =
        let behind = field_kept number index types.Reference field r i named cell in
        let fit : IsFitObject (most_owner m) p h r = sound.now.objects r behind cell.there in
        let instance : is_instance (facts h r).kind ≡ true = ap is_instance cell.kind in
        let event : (facts h r).event ≡ None = fit.persistent instance in
        let stays : is_persistent_instance (facts h r) ≡ true = and_from (is_instance (facts h r).kind) _ instance (ap is_none event) in
        let instances = kept_fits p m sound r cell.there stays in
        let kind = known.fields.kinds number index field.class field.cell (facts h r).class named.reference named.target instances cell.below in
        let long : length (cells h r) ≡ (facts h r).length = fit.cells event in
        let within : i < length (cells h r) = subst (λ n. i < n) (sym long) cell.within in
        let word : word_at m r i ≡ slice_index (cells h r) i = ap (λ e. word_in e m r i) event in
        names_object h (word_at m r i) (ap (λ n. is_reference h n) word ∙ (fit.values stays).references i within
        (ap (reference_cell p (facts h r).class) (sym cell.cell) ∙ kind ∙ named.of))

    pub field_living : (t : ValueType) (number index : ℕ) (field : FieldOfClass) (r i : ℕ) → Names p number index t field → IsCell p m field r i
        → IsLivingCell h (value_at t m r i)
    field_living types.Byte number index field r i named cell = tt
    field_living types.Short number index field r i named cell = tt
    field_living types.Reference number index field r i named cell = field_refers number index field r i named cell

    -- what comes onto a stack names what is there
    pub living_reads : LocalEffectsStay → ReadsSo IsStill Lives p m
    living_reads calm = record {
      field = field_living;
      static = λ t number index field value named read. static_living t field value (static_is p t field number index named) read;
      element = element_comes;
      new = λ o r new. inr (new_there o.event o m r new);
      stays = λ e still r is. calm.references e m still.0 sound.whole.now r is;
    }
