-- The calls of JCSystem are read by their rows.
use Rattle.std.proofs.Common.{◌≡◌, ◌∙◌, ℕ, Bool, true, false, List, [], ◌∷◌, Option, Some, None, ap, refl, sym, if◌then◌else◌}
use Rattle.std.proofs.lemmas.Bool.{false≢true}
use Rattle.std.specs.Prelude.{ℤ, pos, ◌==◌, ◌||◌, slice_get}
use Rattle.jc_heap.specs.declared.object.Facts.{Facts}
use Rattle.jc_heap.specs.declared.object.Kind.{Kind}
use Rattle.jc_memory.specs.Cells.{header_at, cells_effect, cells_refusal}
use Rattle.jc_memory.specs.Programs.{Perform}
use Rattle.jc_memory.specs.State.{MemoryState}
use Rattle.jc_platform.specs.NamePlaces.{class_word}
use Rattle.jc_platform.specs.Names.{system_rows}
use Rattle.jc_platform.specs.Signatures.{parameters_of, receiver_of}
use Rattle.jc_platform.specs.declared.kinds.ParameterKind.{ParameterKind}
use Rattle.jc_platform.specs.declared.kinds.ParameterKind.TheVariants.{Anything, Byte, Bytes, Instance, Short, Shorts}
use Rattle.jc_platform.specs.declared.names.PlatformClass.TheVariants.{Aid}
use Rattle.jc_platform.specs.declared.names.PlatformMethod.TheVariants as rooms
use Rattle.jc_platform.specs.declared.names.SystemMethod.{SystemMethod}
use Rattle.jc_platform.specs.declared.names.SystemMethod.TheVariants as system
use Rattle.jc_linker.specs.Values.{Packages}
use Rattle.jc_frames.specs.declared.cell.Cell.{Cell}
use Rattle.jc_frames.specs.declared.cell.Cell.TheVariants as cell
use Rattle.jc_world.specs.NativeCalls.{NativeProgram, code_fault, if_ok, if_some, return_value, unless}
use Rattle.jc_world.specs.Objects.{is_instance_of, reference_argument, short_argument}
use Rattle.jc_world.specs.declared.native_result.NativeResult.TheVariants.{ReturnVoid}
use Rattle.jc_world.specs.Answers.{and_then}
use Rattle.jc_world.specs.declared.arrays.Stretch.{Stretch}
use Rattle.jc_api.specs.Arguments.{argument_bytes}
use Rattle.jc_api.specs.Kinds.{have_kinds, is_object_of, is_present_and, refers_to}
use Rattle.jc_api_framework.specs.ArgumentReading.{AreFaultsByKinds, IsReadByRow, elements_in, handed_out, has_array, number_in}
use Rattle.jc_api_framework.proofs.KindsRead.{AreAt, have_all, number_at, past_some}
use Rattle.jc_api_framework.proofs.ShortsRead.{given_faults, past_shorts, reference_at, shorts_at}
use Rattle.jc_api_framework.proofs.ReadByRow.{all_at, called_some, counted_read, faulty_some, number_read, one_follows, two_shorts_read, wants_given, wants_two, with_one}
use Rattle.jc_api_framework.specs.System.{system_call}
use Rattle.jc_api_framework.specs.System.Memory.{available_bytes, jc_system_get_available_memory, jc_system_get_available_memory_shorts, shorts_of_count}
use Rattle.jc_api_framework.specs.System.Sharing.{aid_of_elements, jc_system_get_applet_shareable_interface_object, jc_system_is_applet_active}
use Rattle.jc_api_framework.specs.System.Sharing.{jc_system_lookup_aid, returns_reference}
use Rattle.jc_api_framework.specs.System.Transient.{jc_system_is_transient, jc_system_make_transient_array}

abbrev three : ParameterKind → ParameterKind → ParameterKind → List ParameterKind
three a b c = a ∷ b ∷ c ∷ []

-- the answer about a type of memory
abbrev told_by : MemoryState → ℤ → Stretch → NativeProgram
told_by m type e = if_ok (available_bytes m type) (λ count. unless (cells_refusal m e.array e.start (shorts_of_count count))
    (Perform (cells_effect m e.array e.start (shorts_of_count count)) (return_value ReturnVoid)))

module _ (args : List Cell) (p : Packages) (m : MemoryState) where
  contradicts : (ks : List ParameterKind) → have_kinds ks p m args ≡ false → AreAt p m ks 0 args → ⊥
  contradicts ks off at = let on = have_all p m ks args at in absurd (false≢true (sym off ∙ on))

  -- ---- with an array

  looked_up_faults : have_kinds (three Bytes Short Byte) p m args ≡ false → jc_system_lookup_aid args p m ≡ code_fault
  unfolding jc_system_lookup_aid
  looked_up_faults off =
      ap (λ x. if_ok (and_then x (λ given. argument_bytes given p m)) (λ e. returns_reference (aid_of_elements m e)))
      (given_faults args p m Short Byte refl refl off)

  looked_up : (own : ℕ) → have_kinds (three Bytes Short Byte) p m args ≡ true → jc_system_lookup_aid args p m
      ≡ if_ok (handed_out (three Bytes Short Byte) (wants_given 2) own args p m) (with_one (λ e. returns_reference (aid_of_elements m e)))
  unfolding jc_system_lookup_aid
  looked_up own on =
      let at = all_at p m (three Bytes Short Byte) args on in
      ap (λ x. if_ok x (λ e. returns_reference (aid_of_elements m e))) (counted_read p m args 0 Short Byte refl refl at.0 (at.1).0 ((at.1).1).0)
      ∙ one_follows (elements_in args p m 0 (number_in args 2)) (λ e. returns_reference (aid_of_elements m e))

  memory_faults : have_kinds (three Shorts Short Byte) p m args ≡ false → jc_system_get_available_memory_shorts args p m ≡ code_fault
  unfolding jc_system_get_available_memory_shorts
  memory_faults off = faulty_some (short_argument args 2) _ (λ c is_c. ap (λ x. if_ok x (told_by m c)) (
      past_some (reference_argument args 0) _ (λ a is_a. past_some (short_argument args 1) _ (λ b is_b.
      past_shorts m a _ (λ h t. absurd (contradicts (three Shorts Short Byte) off
      (shorts_at p m args 0 a h is_a t, (number_at p m args 1 Short refl b is_b, (number_at p m args 2 Byte refl c is_c, tt)))))))))

  memory_told : (own : ℕ) → have_kinds (three Shorts Short Byte) p m args ≡ true → jc_system_get_available_memory_shorts args p m
      ≡ if_ok (handed_out (three Shorts Short Byte) wants_two own args p m) (with_one (told_by m (number_in args 2)))
  unfolding jc_system_get_available_memory_shorts
  memory_told own on =
      let at = all_at p m (three Shorts Short Byte) args on in
      called_some (short_argument args 2) (number_in args 2) _ (number_read p m args 2 Byte refl ((at.1).1).0)
      ∙ ap (λ x. if_ok x (told_by m (number_in args 2))) (two_shorts_read p m args Short refl at.0 (at.1).0)
      ∙ one_follows (elements_in args p m 0 (pos 2)) (told_by m (number_in args 2))

  -- ---- with none

  numbers_fault : (kind : Kind) → have_kinds (Short ∷ Byte ∷ []) p m args ≡ false → jc_system_make_transient_array kind args p m ≡ code_fault
  unfolding jc_system_make_transient_array
  numbers_fault kind off = faulty_some (short_argument args 0) _ (λ a is_a. faulty_some (short_argument args 1) _ (λ b is_b.
      absurd (contradicts (Short ∷ Byte ∷ []) off (number_at p m args 0 Short refl a is_a, (number_at p m args 1 Byte refl b is_b, tt)))))

  type_faults : have_kinds (Byte ∷ []) p m args ≡ false → jc_system_get_available_memory args m ≡ code_fault
  unfolding jc_system_get_available_memory
  type_faults off = faulty_some (short_argument args 0) _ (λ a is_a. absurd (contradicts (Byte ∷ []) off (number_at p m args 0 Byte refl a is_a, tt)))

  -- an object, or null, that is not what a kind asks for
  not_so : (k : ParameterKind) (null : Bool) (o : Option Facts) → (null || is_present_and o (is_object_of k p)) ≡ false → (x : NativeProgram)
      → (go : Facts → NativeProgram) → ((f : Facts) → is_object_of k p f ≡ false → go f ≡ code_fault) → (if null then x else if_some o go) ≡ code_fault
  not_so k true o off x go each = absurd (false≢true (sym off))
  not_so k false None off x go each = refl
  not_so k false (Some f) off x go each = each f off

  decided : (b : Bool) → (b ≡ true → ⊥) → b ≡ false
  decided true never = absurd (never refl)
  decided false never = refl

  anything_refers : (r : ℕ) → reference_argument args 0 ≡ Some r → have_kinds (Anything ∷ []) p m args ≡ false → refers_to Anything p m r ≡ false
  anything_refers r is off = decided (refers_to Anything p m r) (λ on. contradicts (Anything ∷ []) off
      ((cell.Reference r, reference_at p m (slice_get args 0) r is, on), tt))

  kept_faults : have_kinds (Anything ∷ []) p m args ≡ false → jc_system_is_transient args m ≡ code_fault
  unfolding jc_system_is_transient
  kept_faults off = faulty_some (reference_argument args 0) _ (λ r is.
      not_so Anything (r == 0) (header_at m r) (anything_refers r is off) _ _ (λ f not_it. absurd (false≢true (sym not_it))))

  otherwise : (b : Bool) (x : NativeProgram) → b ≡ false → (if b then x else code_fault) ≡ code_fault
  otherwise true x off = absurd (false≢true (sym off))
  otherwise false x off = refl

  aid_refers : (r : ℕ) → reference_argument args 0 ≡ Some r → have_kinds (Instance Aid ∷ []) p m args ≡ false → refers_to (Instance Aid) p m r ≡ false
  aid_refers r is off = decided (refers_to (Instance Aid) p m r) (λ on. contradicts (Instance Aid ∷ []) off
      ((cell.Reference r, reference_at p m (slice_get args 0) r is, on), tt))

  active_faults : have_kinds (Instance Aid ∷ []) p m args ≡ false → jc_system_is_applet_active args p m ≡ code_fault
  unfolding jc_system_is_applet_active
  active_faults off = faulty_some (reference_argument args 0) _ (λ r is.
      not_so (Instance Aid) (r == 0) (header_at m r) (aid_refers r is off) _ _ (λ f not_it. otherwise (is_instance_of p f (class_word p.platform Aid)) _ not_it))

  aid_and_refers : (r : ℕ) (v : ℤ) → reference_argument args 0 ≡ Some r → short_argument args 1 ≡ Some v → have_kinds (Instance Aid ∷ Byte ∷ []) p m args ≡ false
      → refers_to (Instance Aid) p m r ≡ false
  aid_and_refers r v is number off = decided (refers_to (Instance Aid) p m r) (λ on. contradicts (Instance Aid ∷ Byte ∷ []) off
      ((cell.Reference r, reference_at p m (slice_get args 0) r is, on), (number_at p m args 1 Byte refl v number, tt)))

  shared_faults : have_kinds (Instance Aid ∷ Byte ∷ []) p m args ≡ false → jc_system_get_applet_shareable_interface_object args p m ≡ code_fault
  unfolding jc_system_get_applet_shareable_interface_object
  shared_faults off = faulty_some (reference_argument args 0) _ (λ r is. faulty_some (short_argument args 1) _ (λ v number.
      not_so (Instance Aid) (r == 0) (header_at m r) (aid_and_refers r v is number off) _ _
      (λ f not_it. otherwise (is_instance_of p f (class_word p.platform Aid)) _ not_it)))

pub system_kinds : (method : SystemMethod) → AreFaultsByKinds (rooms.System method) (system_call method)
unfolding system_call parameters_of receiver_of system_rows
system_kinds system.JcSystemGetAppletShareableInterfaceObject own args p m off = shared_faults args p m off
system_kinds system.JcSystemIsTransient own args p m off = kept_faults args p m off
system_kinds system.JcSystemLookupAid own args p m off = looked_up_faults args p m off
system_kinds system.JcSystemMakeTransientBooleanArray own args p m off = numbers_fault args p m _ off
system_kinds system.JcSystemMakeTransientByteArray own args p m off = numbers_fault args p m _ off
system_kinds system.JcSystemMakeTransientObjectArray own args p m off = numbers_fault args p m _ off
system_kinds system.JcSystemMakeTransientShortArray own args p m off = numbers_fault args p m _ off
system_kinds system.JcSystemGetAvailableMemory own args p m off = type_faults args p m off
system_kinds system.JcSystemGetAvailableMemoryShorts own args p m off = memory_faults args p m off
system_kinds system.JcSystemIsAppletActive own args p m off = active_faults args p m off
system_kinds _ own args p m off = absurd (false≢true (sym off))

pub system_by_rows : (method : SystemMethod) → has_array (parameters_of (rooms.System method)) ≡ true → IsReadByRow (rooms.System method) (system_call method)
unfolding system_call parameters_of receiver_of system_rows
system_by_rows system.JcSystemLookupAid array = record {
  wanting = wants_given 2;
  next = λ own numbers es p m. with_one (λ e. returns_reference (aid_of_elements m e)) es;
  faults = λ own args p m off. looked_up_faults args p m off;
  reads = λ own args p m on. looked_up args p m own on;
}
system_by_rows system.JcSystemGetAvailableMemoryShorts array = record {
  wanting = wants_two;
  next = λ own numbers es p m. with_one (told_by m (numbers 2)) es;
  faults = λ own args p m off. memory_faults args p m off;
  reads = λ own args p m on. memory_told args p m own on;
}
system_by_rows _ array = absurd (false≢true array)
