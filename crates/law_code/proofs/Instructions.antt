-- What instructions on fields, arrays and objects do, for whatever is to hold of each effect, and of each reference that comes onto a stack.
use Rattle.std.proofs.Common.{◌≡◌, ℕ, ◌⊎◌, Bool, true, false, inl, inr, List, [], ◌∷◌, Option, Some, None, Ok, refl, if◌then◌else◌}
use Rattle.std.proofs.lemmas.Option.{none-some}
use Rattle.std.specs.Prelude.{ℤ, pos, negsuc, ◌==◌, ◌%◌, ◌/◌}
use Rattle.jc_transient.specs.declared.cell.CellValue.{CellValue}
use Rattle.jc_heap.specs.declared.object.Kind.{Kind}
use Rattle.jc_heap.specs.declared.object.Kind.TheVariants.{Instance, ReferenceArray}
use Rattle.jc_heap.specs.declared.refusal.HeapRefusal.{HeapRefusal}
use Rattle.jc_heap.specs.Moves.{refusal_of_places}
use Rattle.jc_heap.specs.Place.{places_of}
use Rattle.jc_frames.specs.declared.instr.ArrayOp.{ArrayOp}
use Rattle.jc_frames.specs.declared.instr.ArrayOp.TheVariants.{Load, Store, NewArray, ANewArray, ArrayLength}
use Rattle.jc_frames.specs.declared.instr.FieldOp.{FieldOp}
use Rattle.jc_frames.specs.declared.instr.FieldOp.TheVariants.{GetStatic, PutStatic, GetField, PutField, GetFieldThis, PutFieldThis}
use Rattle.jc_frames.specs.declared.instr.PrimitiveArray.{PrimitiveArray}
use Rattle.jc_frames.specs.declared.instr.TestedType.{TestedType}
use Rattle.jc_frames.specs.declared.instr.ValueType.{ValueType}
use Rattle.jc_frames.specs.declared.instr.ValueType.TheVariants as types
use Rattle.jc_frames.specs.declared.cell.Cell.{Cell}
use Rattle.jc_frames.specs.declared.cell.Cell.TheVariants.{Short, Reference, ReturnAddress}
use Rattle.jc_frames.specs.declared.exceptions.Exception.TheVariants.{ClassCastException, NegativeArraySizeException}
use Rattle.jc_frames.specs.declared.outcome.FrameExit.TheVariants.{Throw}
use Rattle.jc_frames.specs.Cell.{reference_on, short_on}
use Rattle.jc_frames.specs.Frames.{Frame, Frames, has_room, with_stack}
use Rattle.jc_memory.specs.declared.making.NewObject.{NewObject}
use Rattle.jc_memory.specs.State.{MemoryState, Effect, HeapMove, apply_effect}
use Rattle.jc_memory.specs.Making.{creation_move, creation_refusal}
use Rattle.jc_memory.specs.Programs.{Perform}
use Rattle.jc_memory.specs.Reading.{AllDue}
use Rattle.jc_memory.specs.Cells.{cell_refusal, word_of}
use Rattle.jc_linker.specs.Classes.{size_of}
use Rattle.jc_linker.specs.Values.{Packages}
use Rattle.jc_world.specs.Instructions.{continue_with, unless}
use Rattle.jc_world.specs.Making.{new_on_top}
use Rattle.jc_world.specs.Types.{class_named}
use Rattle.jc_world.specs.Values.{keepable, value_on}
use Rattle.jc_instructions.specs.ArrayElements.{array_at, element_at, element_value, with_index}
use Rattle.jc_instructions.specs.ArrayOps.{array_instruction}
use Rattle.jc_instructions.specs.ArrayAccess.{arraylength, element_read, array_load, element_write, array_store}
use Rattle.jc_instructions.specs.ArrayCreation.{array_creation, kind_of, newarray, anewarray}
use Rattle.jc_instructions.specs.declared.static_images.ImageWord.{ImageWord}
use Rattle.jc_instructions.specs.declared.field_names.FieldOfImage.{FieldOfImage}
use Rattle.jc_instructions.specs.Fields.{field_read, getfield, getfield_this, own_field, field_write, putfield, putfield_this, field_cell, this_for_more}
use Rattle.jc_instructions.specs.Fields.{this_of}
use Rattle.jc_instructions.specs.FieldNames.{static_named}
use Rattle.jc_instructions.specs.FieldOps.{field_instruction}
use Rattle.jc_instructions.specs.StaticImages.{image_word, next_word, place_of}
use Rattle.jc_instructions.specs.StaticFields.{getstatic, halves, own_static, image_pair_write, putstatic, image_write_of, static_write}
use Rattle.jc_instructions.specs.StackRoom.{if_room}
use Rattle.jc_instructions.specs.StaticFields.{static_value, image_word_write}
use Rattle.jc_instructions.specs.TypeChecks.{checkcast, instanceof, own_type, type_test}
use Rattle.jc_instructions.specs.ObjectCreation.{cells_for, new_instance, instantiable_class}
use Rattle.jc_api.specs.Referring.{CellRefersSo}
use Rattle.jc_api.proofs.Due.{Anything, due_of}
use Rattle.jc_api.proofs.Passing.{Makes}
use Rattle.law_code.specs.FrameReferences.{FrameRefersSo}
use Rattle.law_code.proofs.Exits.{plain_array, plain_element, plain_element_value, plain_field, plain_index, plain_keepable, plain_size, plain_type}
use Rattle.law_code.proofs.StepsInMethod.{StaysIn, going_if, going_ok, going_some, going_stopped, going_unless}
use Rattle.law_code.proofs.EffectConditions.{ArraysPass, FieldsPass, InstancesPass, IsWordOf, ReadsSo, new_for}
use Rattle.law_code.proofs.AccessChecks.{array_reached, cell_reached, index_within, names}
use Rattle.law_code.proofs.StackCells.{frame_kept, reference_taken, short_taken, topped, value_taken, with_cells}

-- this, where there was room for it
roomy : {A : Type 0} (b : Bool) (o : Option A) (a : A) → (if b then o else None) ≡ Some a → o ≡ Some a
roomy true o a e = e
roomy false o a e = absurd (none-some a e)

module _ (P : Effect → MemoryState → Type 0) (L : MemoryState → ℕ → Type 0) (p : Packages) (m : MemoryState) (reads : ReadsSo P L p m) where
  -- one effect, unless there is a reason against it
  set_going : (s : Frames) → FrameRefersSo (L m) s.current → (o : Option HeapRefusal) (e : Effect) → P e m
      → StaysIn P L s (unless s o (Perform e (continue_with s))) m
  set_going s so o e due = going_unless P L m s so o _ (due, (refl, refl, frame_kept (L m) (L (apply_effect e m)) (reads.stays e due) s.current so))

  -- a new object
  new_going : (o : NewObject) (s : Frames) → FrameRefersSo (L m) s.current → Makes P m o → StaysIn P L s (new_on_top o s m) m
  unfolding new_on_top
  new_going o s so makes = going_unless P L m s so (creation_refusal m o) _ (λ r new.
      let e = HeapMove (creation_move o.event o) in
      let n = apply_effect e m in
      (makes r new, (refl, refl, topped (L n) s (Reference r) (frame_kept (L m) (L n) (reads.stays e (makes r new)) s.current so) (reads.new o r new))))

  -- ---- fields

  got_going : (t : ValueType) (index r : ℕ) (s : Frames) → FrameRefersSo (L m) s.current → StaysIn P L s (field_read t index r p s m) m
  unfolding field_read
  got_going t index r s so = going_some P L m s (own_field t index p s) _ (λ field named.
      going_ok P L m s so (field_cell field p m r) _ (plain_field field p m r) (λ i has. (
        refl,
        refl,
        topped (L m) s _ so (reads.field t s.current.origin.package_number index field r i
            (names p s.current.origin.package_number index t field named) (cell_reached field p m r i has)),
      )))

  got_stack_going : (t : ValueType) (index : ℕ) (s : Frames) → FrameRefersSo (L m) s.current → StaysIn P L s (getfield t index p s m) m
  unfolding getfield
  got_stack_going t index s so = going_some P L m s (reference_on s.current.stack) _ (λ q on.
      got_going t index q.0 (with_stack s q.1) (with_cells (L m) s.current q.1 so (reference_taken (L m) s.current.stack q so.stack on).1))

  got_this_going : (t : ValueType) (index : ℕ) (s : Frames) → FrameRefersSo (L m) s.current → StaysIn P L s (getfield_this t index p s m) m
  unfolding getfield_this
  got_this_going t index s so = going_some P L m s (this_for_more s) _ (λ r is. got_going t index r s so)

  got_static_going : (t : ValueType) (index : ℕ) (s : Frames) → FrameRefersSo (L m) s.current → StaysIn P L s (getstatic t index p s m) m
  unfolding getstatic
  got_static_going t index s so = going_some P L m s (own_static t index p s) _ (λ field named.
      going_some P L m s (if_room s (static_value t m.heap.now field)) _ (λ value read. (
        refl,
        refl,
        topped (L m) s value so (reads.static t s.current.origin.package_number index field value named
            (roomy (has_room s.current) (static_value t m.heap.now field) value read)),
      )))

  module _ (pass : FieldsPass P p m) where
    module _ (t : ValueType) (number index : ℕ) (field : FieldOfImage) (cells : List Cell) (v : CellValue × List Cell) (k : CellValue) (s : Frames)
        (so : FrameRefersSo (L m) s.current) (taken : value_on t cells ≡ Some v) (kept : keepable p m v.0 ≡ Ok k)
        (named : static_named t p number index ≡ Some field) where
      word_going : (w : ImageWord) (x : ℕ) → IsWordOf m field w → (t ≡ types.Byte) ⊎ (x ≡ word_of k) → StaysIn P L s (image_word_write w x s m) m
      word_going w x there whole = set_going s so (refusal_of_places m.heap (place_of w ∷ [])) _
          (pass.word t number index field cells v k w x taken kept named there whole)

      pair_going : (w : ImageWord) → IsWordOf m field w → StaysIn P L s (image_pair_write w field.offset (word_of k) s m) m
      pair_going w there = going_if P L m s (field.offset % 2 == 0) _ _ (λ even. word_going w (word_of k) there (inr refl))
          (λ odd. going_some P L m s (next_word m.heap.now w) _ (λ behind next.
          set_going s so (refusal_of_places m.heap (places_of (halves m.heap.now w behind field.offset (word_of k)))) _
          (pass.halves t number index field w behind _ _ named there odd next)))

      static_in_going : (of_type : ValueType) (w : ImageWord) → t ≡ of_type → IsWordOf m field w
          → StaysIn P L s (image_write_of of_type w field.offset (word_of k) s m) m
      static_in_going types.Byte w is there = word_going w _ there (inl is)
      static_in_going types.Reference w is there = pair_going w there
      static_in_going types.Short w is there = pair_going w there

      static_going : StaysIn P L s (static_write t field (word_of k) s m) m
      unfolding static_write
      static_going = going_some P L m s (image_word m.heap.now field.package_number (field.offset / 2)) _ (λ w there. static_in_going t w refl there)

    put_static_going : (t : ValueType) (index : ℕ) (s : Frames) → FrameRefersSo (L m) s.current → StaysIn P L s (putstatic t index p s m) m
    unfolding putstatic
    put_static_going t index s so = going_some P L m s (value_on t s.current.stack) _ (λ v taken. going_some P L m s (own_static t index p s) _ (λ field named.
        going_ok P L m s so (keepable p m v.0) _ (plain_keepable p m v.0) (λ k kept.
        static_going t s.current.origin.package_number index field s.current.stack v k (with_stack s v.1)
        (with_cells (L m) s.current v.1 so (value_taken (L m) t s.current.stack v so.stack taken)) taken kept named)))

    put_going : (t : ValueType) (index r : ℕ) (cells : List Cell) (v : CellValue × List Cell) (s : Frames) → value_on t cells ≡ Some v
        → FrameRefersSo (L m) s.current → StaysIn P L s (field_write t index r v.0 p s m) m
    unfolding field_write
    put_going t index r cells v s taken so = going_some P L m s (own_field t index p s) _ (λ field named.
        going_ok P L m s so (field_cell field p m r) _ (plain_field field p m r) (λ i there.
        going_ok P L m s so (keepable p m v.0) _ (plain_keepable p m v.0) (λ k kept. let number = s.current.origin.package_number in
        set_going s so (cell_refusal m r i) _
        (pass.field t number index r i field cells v k taken kept (names p number index t field named) (cell_reached field p m r i there)))))

    put_stack_going : (t : ValueType) (index : ℕ) (s : Frames) → FrameRefersSo (L m) s.current → StaysIn P L s (putfield t index p s m) m
    unfolding putfield
    put_stack_going t index s so = going_some P L m s (value_on t s.current.stack) _ (λ v taken. going_some P L m s (reference_on v.1) _
        (λ q on. put_going t index q.0 s.current.stack v (with_stack s q.1) taken
        (with_cells (L m) s.current q.1 so (reference_taken (L m) v.1 q (value_taken (L m) t s.current.stack v so.stack taken) on).1)))

    put_this_going : (t : ValueType) (index : ℕ) (s : Frames) → FrameRefersSo (L m) s.current → StaysIn P L s (putfield_this t index p s m) m
    unfolding putfield_this
    put_this_going t index s so = going_some P L m s (value_on t s.current.stack) _ (λ v taken. going_some P L m s (this_of s) _
        (λ r on. put_going t index r s.current.stack v (with_stack s v.1) taken
        (with_cells (L m) s.current v.1 so (value_taken (L m) t s.current.stack v so.stack taken))))

    pub fields_going : (field : FieldOp) (s : Frames) → FrameRefersSo (L m) s.current → StaysIn P L s (field_instruction field p s m) m
    unfolding field_instruction
    fields_going (GetStatic t index) s so = got_static_going t index s so
    fields_going (PutStatic t index) s so = put_static_going t index s so
    fields_going (GetField t index) s so = got_stack_going t index s so
    fields_going (PutField t index) s so = put_stack_going t index s so
    fields_going (GetFieldThis t index) s so = got_this_going t index s so
    fields_going (PutFieldThis t index) s so = put_this_going t index s so

  -- ---- arrays

  loaded_going : (t : ValueType) (r : ℕ) (i : ℤ) (s : Frames) → FrameRefersSo (L m) s.current → StaysIn P L s (element_read t r i p s m) m
  unfolding element_read
  loaded_going t r i s so = going_ok P L m s so (element_at t p m r i) _ (plain_element t p m r i)
      (λ e at. (refl, refl, topped (L m) s _ so (reads.element t r i e at)))

  loaded_stack_going : (t : ValueType) (s : Frames) → FrameRefersSo (L m) s.current → StaysIn P L s (array_load t p s m) m
  unfolding array_load
  loaded_stack_going t s so = going_some P L m s (short_on s.current.stack) _ (λ i on. going_some P L m s (reference_on i.1) _ (λ q under.
      loaded_going t q.0 i.0 (with_stack s q.1)
      (with_cells (L m) s.current q.1 so (reference_taken (L m) i.1 q (short_taken (L m) s.current.stack i so.stack on) under).1)))

  counted_going : (s : Frames) → FrameRefersSo (L m) s.current → StaysIn P L s (arraylength p s m) m
  unfolding arraylength
  counted_going s so = going_some P L m s (reference_on s.current.stack) _ (λ q on.
      going_ok P L m s so (array_at None p m q.0) _ (plain_array None p m q.0) (λ f there. (
        refl,
        refl,
        topped (L m) (with_stack s q.1) (Short _) (with_cells (L m) s.current q.1 so (reference_taken (L m) s.current.stack q so.stack on).1) tt,
      )))

  array_going : (kind : Kind) (class : ℕ) (long : ℤ) (s : Frames) → FrameRefersSo (L m) s.current → ((n : ℕ) → Makes P m (new_for m kind class n))
      → StaysIn P L s (array_creation kind class long s m) m
  unfolding array_creation
  array_going kind class (pos n) s so makes = new_going (new_for m kind class n) s so (makes n)
  array_going kind class (negsuc n) s so makes = going_stopped P L m s so (Throw NegativeArraySizeException) tt

  module _ (pass : ArraysPass P p m) where
    stored_going : (t : ValueType) (r : ℕ) (i : ℤ) (cells : List Cell) (v : CellValue × List Cell) (s : Frames) → value_on t cells ≡ Some v
        → FrameRefersSo (L m) s.current → StaysIn P L s (element_write t r i v.0 p s m) m
    unfolding element_write
    stored_going t r i cells v s taken so = going_ok P L m s so (array_at (Some t) p m r) _ (plain_array (Some t) p m r) (λ f there.
        going_ok P L m s so (keepable p m v.0) _ (plain_keepable p m v.0) (λ k kept. going_ok P L m s so (with_index f i) _ (plain_index f i) (λ e inside.
        going_ok P L m s so (element_value p m e.class k) _ (plain_element_value p m e.class k) (λ w fits.
        set_going s so (cell_refusal m r e.index) _
        (pass.element t r f e cells v k w taken kept (array_reached t p m r f there) (index_within f i e inside) fits)))))

    stored_stack_going : (t : ValueType) (s : Frames) → FrameRefersSo (L m) s.current → StaysIn P L s (array_store t p s m) m
    unfolding array_store
    stored_stack_going t s so = going_some P L m s (value_on t s.current.stack) _ (λ v first. going_some P L m s (short_on v.1) _ (λ i second.
        going_some P L m s (reference_on i.1) _ (λ q third. stored_going t q.0 i.0 s.current.stack v (with_stack s q.1) first
        (with_cells (L m) s.current q.1 so (reference_taken (L m) i.1 q
        (short_taken (L m) v.1 i (value_taken (L m) t s.current.stack v so.stack first) second) third).1))))

    primitives_going : (t : PrimitiveArray) (s : Frames) → FrameRefersSo (L m) s.current → StaysIn P L s (newarray t s m) m
    unfolding newarray
    primitives_going t s so = going_some P L m s (short_on s.current.stack) _ (λ n on. array_going (kind_of t) 0 n.0 (with_stack s n.1)
        (with_cells (L m) s.current n.1 so (short_taken (L m) s.current.stack n so.stack on)) (pass.numbers t))

    references_going : (index : ℕ) (s : Frames) → FrameRefersSo (L m) s.current → StaysIn P L s (anewarray index p s m) m
    unfolding anewarray
    references_going index s so = going_some P L m s (short_on s.current.stack) _ (λ n on.
        going_some P L m s (class_named p s.current.origin.package_number index) _ (λ class named.
        array_going ReferenceArray class n.0 (with_stack s n.1) (with_cells (L m) s.current n.1 so (short_taken (L m) s.current.stack n so.stack on))
        (λ long. pass.references s.current.origin.package_number index class long named)))

    pub arrays_going : (operation : ArrayOp) (s : Frames) → FrameRefersSo (L m) s.current → StaysIn P L s (array_instruction operation p s m) m
    unfolding array_instruction
    arrays_going (Load t) s so = loaded_stack_going t s so
    arrays_going (Store t) s so = stored_stack_going t s so
    arrays_going (NewArray t) s so = primitives_going t s so
    arrays_going (ANewArray index) s so = references_going index s so
    arrays_going ArrayLength s so = counted_going s so

  -- ---- objects

  pub made_going : InstancesPass P p m → (index : ℕ) (s : Frames) → FrameRefersSo (L m) s.current → StaysIn P L s (new_instance index p s m) m
  unfolding new_instance
  made_going pass index s so = going_some P L m s (if_room s (instantiable_class p s.current.origin.package_number index)) _ (λ class is.
      going_ok P L m s so (cells_for (size_of p class)) _ (plain_size (size_of p class)) (λ n few. new_going (new_for m Instance class n) s so
      (pass s.current.origin.package_number index class n
      (roomy (has_room s.current) (instantiable_class p s.current.origin.package_number index) class is) few)))

  pub checked_going : (type : TestedType) (s : Frames) → FrameRefersSo (L m) s.current → StaysIn P L s (checkcast type p s m) m
  unfolding checkcast
  checked_going type s so = going_some P L m s (reference_on s.current.stack) _ (λ q top. going_some P L m s (own_type type p s) _ (λ t named.
      going_ok P L m s so (type_test true t p m q.0) _ (plain_type true t p m q.0) (λ passes tested.
      let taken = reference_taken (L m) s.current.stack q so.stack top in
      going_if P L m s passes _ _ (λ on. (refl, refl, topped (L m) (with_stack s q.1) (Reference q.0) (with_cells (L m) s.current q.1 so taken.1) taken.0))
      (λ off. going_stopped P L m s so (Throw ClassCastException) tt))))

  pub examined_going : (type : TestedType) (s : Frames) → FrameRefersSo (L m) s.current → StaysIn P L s (instanceof type p s m) m
  unfolding instanceof
  examined_going type s so = going_some P L m s (reference_on s.current.stack) _ (λ q on. going_some P L m s (own_type type p s) _ (λ t named.
      going_ok P L m s so (type_test false t p m q.0) _ (plain_type false t p m q.0) (λ answer tested. (
        refl,
        refl,
        topped (L m) (with_stack s q.1) (Short _) (with_cells (L m) s.current q.1 so (reference_taken (L m) s.current.stack q so.stack on).1) tt,
      ))))

-- ---- whatever comes onto the stack

any_cell : (m : MemoryState) (c : Cell) → CellRefersSo (Anything m) c
any_cell m (Short v) = tt
any_cell m (Reference r) = tt
any_cell m (ReturnAddress a) = tt

pub any_frame : (m : MemoryState) (f : Frame) → FrameRefersSo (Anything m) f
any_frame m f = record { locals = λ k d lt. any_cell m _; stack = λ k d lt. any_cell m _ }

module _ (P : Effect → MemoryState → Type 0) (p : Packages) (m : MemoryState) where
  pub any_reads : ReadsSo P Anything p m
  any_reads = record {
    field = λ t number index field r i named cell. any_cell m _;
    static = λ t number index field value named read. any_cell m value;
    element = λ t r i e at. any_cell m _;
    new = λ o r new. tt;
    stays = λ e due r so. tt;
  }

  pub fields_due : FieldsPass P p m → (field : FieldOp) (s : Frames) → AllDue P (field_instruction field p s m) m
  fields_due pass field s = due_of P _ _ m (fields_going P Anything p m any_reads pass field s (any_frame m s.current))

  pub arrays_due : ArraysPass P p m → (operation : ArrayOp) (s : Frames) → AllDue P (array_instruction operation p s m) m
  arrays_due pass operation s = due_of P _ _ m (arrays_going P Anything p m any_reads pass operation s (any_frame m s.current))

  pub made_due : InstancesPass P p m → (index : ℕ) (s : Frames) → AllDue P (new_instance index p s m) m
  made_due pass index s = due_of P _ _ m (made_going P Anything p m any_reads pass index s (any_frame m s.current))

  pub checked_due : (type : TestedType) (s : Frames) → AllDue P (checkcast type p s m) m
  checked_due type s = due_of P _ _ m (checked_going P Anything p m any_reads type s (any_frame m s.current))

  pub examined_due : (type : TestedType) (s : Frames) → AllDue P (instanceof type p s m) m
  examined_due type s = due_of P _ _ m (examined_going P Anything p m any_reads type s (any_frame m s.current))
