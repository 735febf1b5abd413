-- The calls of AID that take an array are read by their rows.
use Rattle.std.proofs.Common.{◌≡◌, ◌∙◌, ℕ, Bool, true, false, List, [], ◌∷◌, length, Option, Some, None, Result, Ok, Err, ap, refl, sym, if◌then◌else◌}
use Rattle.std.proofs.lemmas.Bool.{false≢true}
use Rattle.std.specs.Prelude.{ℤ, pos, ◌==◌}
use Rattle.jc_heap.specs.declared.object.Facts.{Facts}
use Rattle.jc_memory.specs.Programs.{Finish}
use Rattle.jc_memory.specs.State.{MemoryState}
use Rattle.jc_platform.specs.Names.{aids_rows}
use Rattle.jc_platform.specs.Signatures.{parameters_of, receiver_of}
use Rattle.jc_platform.specs.declared.kinds.ParameterKind.{ParameterKind}
use Rattle.jc_platform.specs.declared.kinds.ParameterKind.TheVariants.{Byte, Bytes, Short}
use Rattle.jc_platform.specs.declared.names.AidsMethod.{AidsMethod}
use Rattle.jc_platform.specs.declared.names.AidsMethod.TheVariants as aids
use Rattle.jc_platform.specs.declared.names.PlatformMethod.TheVariants as rooms
use Rattle.jc_linker.specs.Values.{Packages}
use Rattle.jc_frames.specs.declared.cell.Cell.{Cell}
use Rattle.jc_frames.specs.declared.cell.Cell.TheVariants as cell
use Rattle.jc_frames.specs.declared.outcome.FrameExit.{FrameExit}
use Rattle.jc_frames.specs.declared.outcome.FrameExit.TheVariants.{End}
use Rattle.jc_frames.specs.declared.outcome.Outcome.TheVariants.{Fault}
use Rattle.jc_environment.specs.Aid.{aid_at}
use Rattle.jc_environment.specs.Registry.{is_aid}
use Rattle.jc_world.specs.Answers.{and_then}
use Rattle.jc_world.specs.Arrays.{bytes_in}
use Rattle.jc_world.specs.Instances.{instance_at}
use Rattle.jc_world.specs.NativeCalls.{NativeProgram, code_fault, if_ok, if_some, return_value}
use Rattle.jc_world.specs.Numbers.{not_negative}
use Rattle.jc_world.specs.Objects.{reference_argument, short_argument, some_or_fault}
use Rattle.jc_world.specs.declared.arrays.Stretch.{Stretch}
use Rattle.jc_api.specs.Arguments.{argument_bytes, array_arguments, elements_at}
use Rattle.jc_api.specs.Forms.{CallAnswer, put_then, puts_at, reading_call, result_value, tells_whether}
use Rattle.jc_api.specs.Kinds.{have_kinds}
use Rattle.jc_api.proofs.Exits.{FaultsOnly, plain_instance}
use Rattle.jc_api_framework.specs.Aid.{aid_call, aid_equals_bytes, aid_get_bytes, aid_get_partial_bytes, aid_init, aid_partial_equals, begins_with}
use Rattle.jc_api_framework.specs.Aid.{cells_of_elements, part_or_throw, part_within}
use Rattle.jc_api_framework.specs.Constructing.{constructing_call}
use Rattle.jc_api_framework.specs.ArgumentReading.{elements_in, handed_out, has_array, is_null_in, number_in, reference_in, stretches_in}
use Rattle.jc_api_framework.specs.RowLaws.{IsReadSo, aid_weighs}
use Rattle.jc_api_framework.proofs.KindsRead.{AreAt, bytes_at, have_all, number_at, past_bytes, past_some}
use Rattle.jc_api_framework.proofs.ShortsRead.{given_faults}
use Rattle.jc_api_framework.proofs.ReadByRow.{after_some, all_at, at_read, bytes_read, elements_plain_in, exit_same, given_read, number_read, one_follows, one_is}
use Rattle.jc_api_framework.proofs.ReadByRow.{the_one, wants_given, with_one}

abbrev given_kinds : List ParameterKind
given_kinds = Bytes ∷ Short ∷ Byte ∷ []

abbrev whole_kinds : List ParameterKind
whole_kinds = Bytes ∷ Short ∷ []

abbrev part_kinds : List ParameterKind
part_kinds = Short ∷ Bytes ∷ Short ∷ Byte ∷ []

-- what a call answers that is given elements, or null
abbrev weighed : (List ℕ → List ℕ → Bool) → ℕ → Bool → Result (List Stretch) FrameExit → MemoryState → Result CallAnswer FrameExit
weighed holds own null elements m = and_then (some_or_fault (aid_at m own)) (λ aid. if null then Ok (tells_whether false) else
    and_then (the_one elements) (λ e. Ok (tells_whether (holds aid (bytes_in m e)))))

-- the bytes are those of an AID
abbrev same_bytes : List ℕ → List ℕ → Bool
same_bytes aid bytes = is_aid aid (Some bytes)

-- what is done with what was read
abbrev copied : MemoryState → List ℕ → Stretch → NativeProgram
copied m bytes e = put_then false bytes m e (return_value (result_value (Some (pos (length bytes)))))

abbrev part_of : List ℕ → (ℕ → ℤ) → Result (List ℕ) FrameExit
part_of aid numbers = part_or_throw (part_within aid (not_negative (numbers 0)) (not_negative (numbers 3)))

-- of the arguments of a constructor its form sees the receiver alone
abbrev constructed : ℕ → MemoryState → Stretch → NativeProgram
constructed own m e = constructing_call (cells_of_elements m e) (cell.Reference own ∷ []) m

module _ (own : ℕ) (args : List Cell) (p : Packages) (m : MemoryState) where
  abbrev all : List Cell
  all = cell.Reference own ∷ args

  contradicts : (ks : List ParameterKind) → have_kinds ks p m args ≡ false → AreAt p m ks 0 args → ⊥
  contradicts ks off at = let on = have_all p m ks args at in absurd (false≢true (sym off ∙ on))

  -- ---- elements or null

  weighed_faults : (holds : List ℕ → List ℕ → Bool) → have_kinds given_kinds p m args ≡ false
      → reading_call (and_then (array_arguments 1 all m) (λ given. and_then (some_or_fault (aid_at m own)) (λ aid. if given.array == 0 then Ok (tells_whether false) else
      and_then (argument_bytes given p m) (λ e. Ok (tells_whether (holds aid (bytes_in m e))))))) p m ≡ code_fault
  weighed_faults holds off =
      ap (λ x. reading_call (and_then x (λ given. and_then (some_or_fault (aid_at m own)) (λ aid. if given.array == 0 then Ok (tells_whether false) else
      and_then (argument_bytes given p m) (λ e. Ok (tells_whether (holds aid (bytes_in m e))))))) p m) (given_faults args p m Short Byte refl refl off)

  weighed_read : (holds : List ℕ → List ℕ → Bool) → have_kinds given_kinds p m args ≡ true
      → reading_call (and_then (array_arguments 1 all m) (λ given. and_then (some_or_fault (aid_at m own)) (λ aid. if given.array == 0 then Ok (tells_whether false) else
      and_then (argument_bytes given p m) (λ e. Ok (tells_whether (holds aid (bytes_in m e))))))) p m
      ≡ reading_call (weighed holds own (is_null_in args 0) (handed_out given_kinds (wants_given 2) own args p m) m) p m
  weighed_read holds on =
      let at = all_at p m given_kinds args on in
      ap (λ x. reading_call (and_then x (λ given. and_then (some_or_fault (aid_at m own)) (λ aid. if given.array == 0 then Ok (tells_whether false) else
      and_then (argument_bytes given p m) (λ e. Ok (tells_whether (holds aid (bytes_in m e))))))) p m)
      (given_read p m args 0 Short Byte refl refl at.0 (at.1).0 ((at.1).1).0)
      ∙ ap (λ x. reading_call (and_then (some_or_fault (aid_at m own)) (λ aid. if is_null_in args 0 then Ok (tells_whether false) else
      and_then x (λ e. Ok (tells_whether (holds aid (bytes_in m e)))))) p m) (sym (one_is (elements_in args p m 0 (number_in args 2))))

  -- ---- bytes that are copied

  faulty_reading : {A : Type 0} (o : Option A) (go : A → Result CallAnswer FrameExit) → ((a : A) → o ≡ Some a → reading_call (go a) p m ≡ code_fault)
      → reading_call (and_then (some_or_fault o) go) p m ≡ code_fault
  faulty_reading None go each = refl
  faulty_reading (Some a) go each = each a refl

  no_elements : (r : ℕ) (start count : ℤ) → reference_argument args 0 ≡ Some r → short_argument args 1 ≡ Some start → have_kinds whole_kinds p m args ≡ false
      → elements_at p m r start count ≡ Err (End Fault)
  unfolding elements_at
  no_elements r start count is number off = past_bytes m r _ (λ h t. absurd (contradicts whole_kinds off
      (bytes_at p m args 0 r h is t, (number_at p m args 1 Short refl start number, tt))))

  whole_faults : have_kinds whole_kinds p m args ≡ false → reading_call (aid_get_bytes all m) p m ≡ code_fault
  unfolding aid_get_bytes
  whole_faults off = faulty_reading (reference_argument args 0) _ (λ r is. faulty_reading (short_argument args 1) _ (λ start number.
      faulty_reading (aid_at m own) _ (λ aid held. ap (λ x. if_ok x (copied m aid)) (no_elements r start (pos (length aid)) is number off))))

  abbrev whole_wanted : Option (List ℕ) → Result (List ℤ) FrameExit
  whole_wanted held = and_then (some_or_fault held) (λ aid. Ok (pos (length aid) ∷ []))

  whole_after : (held : Option (List ℕ)) → have_kinds whole_kinds p m args ≡ true
      → reading_call (and_then (some_or_fault held) (λ aid. Ok (puts_at (reference_in args 0) (number_in args 1) aid (pos (length aid))))) p m
      ≡ if_ok (and_then (whole_wanted held) (λ counts. stretches_in whole_kinds 0 counts args p m)) (λ es. if_some held (λ aid. with_one (copied m aid) es))
  whole_after None on = refl
  whole_after (Some aid) on =
      let at = all_at p m whole_kinds args on in
      ap (λ x. if_ok x (copied m aid)) (at_read p m args 0 (pos (length aid)) at.0)
      ∙ one_follows (elements_in args p m 0 (pos (length aid))) (copied m aid)

  whole_read : have_kinds whole_kinds p m args ≡ true → reading_call (aid_get_bytes all m) p m
      ≡ if_ok (and_then (whole_wanted (aid_at m own)) (λ counts. stretches_in whole_kinds 0 counts args p m)) (λ es. if_some (aid_at m own) (λ aid. with_one (copied m aid) es))
  unfolding aid_get_bytes
  whole_read on =
      let at = all_at p m whole_kinds args on in
      ap (λ x. reading_call x p m) (after_some (reference_argument args 0) (reference_in args 0) _ (bytes_read p m args 0 at.0).0
      ∙ after_some (short_argument args 1) (number_in args 1) _ (number_read p m args 1 Short refl (at.1).0))
      ∙ whole_after (aid_at m own) on

  part_given : (from : ℤ) → short_argument args 0 ≡ Some from → have_kinds part_kinds p m args ≡ false → array_arguments 1 args m ≡ Err (End Fault)
  part_given from is_from off =
      past_some (reference_argument args 1) _ (λ a is_a. past_some (short_argument args 2) _ (λ b is_b. past_some (short_argument args 3) _ (λ c is_c.
      past_bytes m a _ (λ h t. absurd (contradicts part_kinds off (
        number_at p m args 0 Short refl from is_from,
        (bytes_at p m args 1 a h is_a t, (number_at p m args 2 Short refl b is_b, (number_at p m args 3 Byte refl c is_c, tt))),
      ))))))

  part_faults : have_kinds part_kinds p m args ≡ false → reading_call (aid_get_partial_bytes all m) p m ≡ code_fault
  unfolding aid_get_partial_bytes
  part_faults off = ap (λ x. reading_call x p m) (past_some (short_argument args 0) _ (λ from is. ap (λ x. and_then x (λ given. and_then (some_or_fault (aid_at m own))
      (λ aid. and_then (part_or_throw (part_within aid (not_negative from) (not_negative given.count)))
      (λ part. Ok (puts_at given.array given.start part (pos (length part))))))) (part_given from is off)))

  part_after : (part : Option (List ℕ)) → have_kinds part_kinds p m args ≡ true
      → reading_call (and_then (part_or_throw part) (λ bytes. Ok (puts_at (reference_in args 1) (number_in args 2) bytes (pos (length bytes))))) p m
      ≡ if_ok (and_then (and_then (part_or_throw part) (λ bytes. Ok (pos (length bytes) ∷ []))) (λ counts. stretches_in part_kinds 0 counts args p m))
      (λ es. if_ok (part_or_throw part) (λ bytes. with_one (copied m bytes) es))
  part_after None on = refl
  part_after (Some bytes) on =
      let at = all_at p m part_kinds args on in
      ap (λ x. if_ok x (copied m bytes)) (at_read p m args 1 (pos (length bytes)) (at.1).0)
      ∙ one_follows (elements_in args p m 1 (pos (length bytes))) (copied m bytes)

  part_with : (held : Option (List ℕ)) → have_kinds part_kinds p m args ≡ true
      → reading_call (and_then (some_or_fault held) (λ aid. and_then (part_of aid (number_in args))
      (λ part. Ok (puts_at (reference_in args 1) (number_in args 2) part (pos (length part)))))) p m
      ≡ if_ok (and_then (and_then (some_or_fault held) (λ aid. and_then (part_of aid (number_in args)) (λ part. Ok (pos (length part) ∷ []))))
      (λ counts. stretches_in part_kinds 0 counts args p m)) (λ es. if_some held (λ aid. if_ok (part_of aid (number_in args)) (λ bytes. with_one (copied m bytes) es)))
  part_with None on = refl
  part_with (Some aid) on = part_after (part_within aid (not_negative (number_in args 0)) (not_negative (number_in args 3))) on

  part_read : have_kinds part_kinds p m args ≡ true → reading_call (aid_get_partial_bytes all m) p m
      ≡ if_ok (and_then (and_then (some_or_fault (aid_at m own)) (λ aid. and_then (part_of aid (number_in args)) (λ part. Ok (pos (length part) ∷ []))))
      (λ counts. stretches_in part_kinds 0 counts args p m)) (λ es. if_some (aid_at m own) (λ aid. if_ok (part_of aid (number_in args)) (λ bytes. with_one (copied m bytes) es)))
  unfolding aid_get_partial_bytes
  part_read on =
      let at = all_at p m part_kinds args on in
      ap (λ x. reading_call x p m) (after_some (short_argument args 0) (number_in args 0) _ (number_read p m args 0 Short refl at.0)
      ∙ ap (λ x. and_then x (λ given. and_then (some_or_fault (aid_at m own)) (λ aid. and_then (part_or_throw (part_within aid (not_negative (number_in args 0)) (not_negative given.count)))
      (λ part. Ok (puts_at given.array given.start part (pos (length part)))))))
      (given_read p m args 1 Short Byte refl refl (at.1).0 ((at.1).1).0 (((at.1).1).1).0))
      ∙ part_with (aid_at m own) on

  -- ---- the constructor

  init_faults : have_kinds given_kinds p m args ≡ false → constructing_call (aid_init all p m) all m ≡ code_fault
  unfolding aid_init
  init_faults off = ap (λ x. constructing_call (and_then x (λ given. and_then (instance_at m own 9)
      (λ f. and_then (argument_bytes given p m) (cells_of_elements m)))) all m) (given_faults args p m Short Byte refl refl off)

  init_with : (x : Result Stretch FrameExit) → FaultsOnly x → constructing_call (and_then x (cells_of_elements m)) all m
      ≡ if_ok (and_then x (λ e. Ok (e ∷ []))) (with_one (constructed own m))
  init_with (Ok e) plain = refl
  init_with (Err z) plain = ap (λ y. Finish (Err y)) (exit_same z plain)

  init_after : (x : Result Facts FrameExit) → FaultsOnly x → (count : ℤ)
      → constructing_call (and_then x (λ f. and_then (elements_in args p m 0 count) (cells_of_elements m))) all m
      ≡ if_ok (and_then (and_then x (λ f. Ok (count ∷ []))) (λ counts. stretches_in given_kinds 0 counts args p m)) (with_one (constructed own m))
  init_after (Ok f) plain count = init_with (elements_in args p m 0 count) (elements_plain_in p m args 0 count)
  init_after (Err z) plain count = ap (λ y. Finish (Err y)) (exit_same z plain)

  init_read : have_kinds given_kinds p m args ≡ true → constructing_call (aid_init all p m) all m
      ≡ if_ok (handed_out given_kinds (λ own numbers m. and_then (instance_at m own 9) (λ f. Ok (numbers 2 ∷ []))) own args p m) (with_one (constructed own m))
  unfolding aid_init
  init_read on =
      let at = all_at p m given_kinds args on in
      ap (λ x. constructing_call (and_then x (λ given. and_then (instance_at m own 9)
      (λ f. and_then (argument_bytes given p m) (cells_of_elements m)))) all m)
      (given_read p m args 0 Short Byte refl refl at.0 (at.1).0 ((at.1).1).0)
      ∙ init_after (instance_at m own 9) (plain_instance m own 9) (number_in args 2)

pub aids_by_rows : (method : AidsMethod) → has_array (parameters_of (rooms.Aids method)) ≡ true → IsReadSo (aid_weighs method) (rooms.Aids method) (aid_call method)
unfolding aid_call parameters_of receiver_of aids_rows aid_equals_bytes aid_partial_equals aid_get_bytes aid_get_partial_bytes
aids_by_rows aids.AidInit array = record {
  wanting = λ own numbers m. and_then (instance_at m own 9) (λ f. Ok (numbers 2 ∷ []));
  next = λ own numbers es p m. with_one (constructed own m) es;
  faults = λ own args p m off. init_faults own args p m off;
  reads = λ own args p m on. init_read own args p m on;
}
aids_by_rows aids.AidEqualsBytes array = record {
  wanting = wants_given 2;
  next = λ own numbers nulls elements p m. reading_call (weighed same_bytes own (nulls 0) elements m) p m;
  faults = λ own args p m off. weighed_faults own args p m same_bytes off;
  reads = λ own args p m on. weighed_read own args p m same_bytes on;
}
aids_by_rows aids.AidGetBytes array = record {
  wanting = λ own numbers m. and_then (some_or_fault (aid_at m own)) (λ aid. Ok (pos (length aid) ∷ []));
  next = λ own numbers es p m. if_some (aid_at m own) (λ aid. with_one (copied m aid) es);
  faults = λ own args p m off. whole_faults own args p m off;
  reads = λ own args p m on. whole_read own args p m on;
}
aids_by_rows aids.AidPartialEquals array = record {
  wanting = wants_given 2;
  next = λ own numbers nulls elements p m. reading_call (weighed begins_with own (nulls 0) elements m) p m;
  faults = λ own args p m off. weighed_faults own args p m begins_with off;
  reads = λ own args p m on. weighed_read own args p m begins_with on;
}
aids_by_rows aids.AidGetPartialBytes array = record {
  wanting = λ own numbers m. and_then (some_or_fault (aid_at m own)) (λ aid. and_then (part_of aid numbers) (λ part. Ok (pos (length part) ∷ [])));
  next = λ own numbers es p m. if_some (aid_at m own) (λ aid. if_ok (part_of aid numbers) (λ bytes. with_one (copied m bytes) es));
  faults = λ own args p m off. part_faults own args p m off;
  reads = λ own args p m on. part_read own args p m on;
}
aids_by_rows _ array = absurd (false≢true array)
