-- The calls of Util are read by their rows.
use Rattle.std.proofs.Common.{◌≡◌, ◌+◌, ◌∙◌, ℕ, ap, true, List, [], ◌∷◌, Ok, refl}
use Rattle.std.specs.Cmp.Lexicographic.{slice_cmp}
use Rattle.std.specs.Int.{w16, cast_unsigned}
use Rattle.std.specs.Ordering.{nat_cmp}
use Rattle.std.specs.Prelude.{ℤ, pos, ◌%◌}
use Rattle.jc_memory.specs.State.{MemoryState}
use Rattle.jc_platform.specs.declared.kinds.ParameterKind.{ParameterKind}
use Rattle.jc_platform.specs.declared.kinds.ParameterKind.TheVariants.{Byte, Short, Bytes}
use Rattle.jc_platform.specs.declared.names.UtilitiesMethod.{UtilitiesMethod}
use Rattle.jc_platform.specs.declared.names.UtilitiesMethod.TheVariants as utilities
use Rattle.jc_platform.specs.Names.{utilities_rows}
use Rattle.jc_platform.specs.Signatures.{parameters_of, receiver_of}
use Rattle.jc_platform.specs.declared.names.PlatformMethod.TheVariants as rooms
use Rattle.jc_linker.specs.Values.{Packages}
use Rattle.jc_frames.specs.declared.cell.Cell.{Cell}
use Rattle.jc_world.specs.Answers.{and_then}
use Rattle.jc_memory.specs.Cells.{byte_at}
use Rattle.jc_world.specs.Arrays.{bytes_in}
use Rattle.jc_world.specs.NativeCalls.{if_ok}
use Rattle.jc_world.specs.declared.arrays.Stretch.{Stretch}
use Rattle.jc_world.specs.Objects.{short_argument, some_or_fault}
use Rattle.jc_api.specs.Arguments.{counted_of}
use Rattle.jc_api.specs.declared.arguments.Pair.{Pair}
use Rattle.jc_api.specs.Kinds.{have_kinds}
use Rattle.jc_api.specs.Forms.{CallAnswer, puts, puts_for_good, reading_call, tells}
use Rattle.jc_api_framework.specs.Util.{bytes_of_short, end_of, filling_of, named_pair, short_of, sign_of, util_answer, util_array_compare, util_array_copy}
use Rattle.jc_api_framework.specs.Util.{util_array_copy_non_atomic, util_array_fill, util_array_fill_non_atomic, util_call, util_get_short, util_make_short}
use Rattle.jc_api_framework.specs.Util.{util_set_short}
use Rattle.jc_api_framework.proofs.UtilCalls.Kinds.{by_kinds}
use Rattle.jc_api_framework.specs.ArgumentReading.{IsReadByRow, elements_in, handed_out, number_in}
use Rattle.jc_api_framework.proofs.ReadByRow.{after_some, all_at, counted_read, elements_plain_in, number_read, one_answers, pair_read, two_answer, two_read}
use Rattle.jc_api_framework.proofs.ReadByRow.{wants_both, wants_given, wants_none, wants_two, with_one, with_two}

-- the kinds of a method of two arrays, and of one that fills an array
abbrev two_arrays : List ParameterKind
two_arrays = Bytes ∷ Short ∷ Bytes ∷ Short ∷ Short ∷ []

abbrev filling : List ParameterKind
filling = Bytes ∷ Short ∷ Short ∷ Byte ∷ []

abbrev make_kinds : List ParameterKind
make_kinds = Byte ∷ Byte ∷ []

abbrev get_kinds : List ParameterKind
get_kinds = Bytes ∷ Short ∷ []

abbrev set_kinds : List ParameterKind
set_kinds = Bytes ∷ Short ∷ Short ∷ []

-- ---- what each answers by what it was handed

module _ (own : ℕ) (args : List Cell) (p : Packages) (m : MemoryState) where
  pair_answers : (answer : Pair → CallAnswer) → have_kinds two_arrays p m args ≡ true
      → reading_call (and_then (named_pair args p m) (λ a. Ok (answer a))) p m
      ≡ if_ok (handed_out two_arrays (wants_both 4) own args p m) (with_two (λ from to. reading_call (Ok (answer (record { from = from; to = to }))) p m))
  unfolding named_pair
  pair_answers answer on =
      let at = all_at p m two_arrays args on in
      ap (λ x. reading_call (and_then x (λ a. Ok (answer a))) p m)
      (pair_read p m args Short Short Short refl refl refl at.0 (at.1).0 ((at.1).1).0 (((at.1).1).1).0 ((((at.1).1).1).1).0)
      ∙ two_answer p m (elements_in args p m 0 (number_in args 4)) (elements_in args p m 2 (number_in args 4))
      (elements_plain_in p m args 0 (number_in args 4)) (elements_plain_in p m args 2 (number_in args 4)) answer

  fill_answers : (answer : ℤ → Stretch → CallAnswer) → have_kinds filling p m args ≡ true
      → reading_call (and_then (some_or_fault (short_argument args 3)) (λ value. and_then (counted_of 0 args p m) (λ e. Ok (answer value e)))) p m
      ≡ if_ok (handed_out filling (wants_given 2) own args p m) (with_one (λ e. reading_call (Ok (answer (number_in args 3) e)) p m))
  fill_answers answer on =
      let at = all_at p m filling args on in
      ap (λ x. reading_call x p m) (after_some (short_argument args 3) (number_in args 3) _ (number_read p m args 3 Byte refl (((at.1).1).1).0))
      ∙ ap (λ x. reading_call (and_then x (λ e. Ok (answer (number_in args 3) e))) p m)
      (counted_read p m args 0 Short Short refl refl at.0 (at.1).0 ((at.1).1).0)
      ∙ one_answers p m (elements_in args p m 0 (number_in args 2)) (elements_plain_in p m args 0 (number_in args 2)) (answer (number_in args 3))

  set_answers : have_kinds set_kinds p m args ≡ true
      → reading_call (util_set_short args p m) p m
      ≡ if_ok (handed_out set_kinds wants_two own args p m) (with_one (λ e. reading_call (Ok (puts e (bytes_of_short (number_in args 2)) (end_of e))) p m))
  unfolding util_set_short
  set_answers on =
      let at = all_at p m set_kinds args on in
      ap (λ x. reading_call x p m) (after_some (short_argument args 2) (number_in args 2) _ (number_read p m args 2 Short refl ((at.1).1).0))
      ∙ ap (λ x. reading_call (and_then x (λ e. Ok (puts e (bytes_of_short (number_in args 2)) (end_of e)))) p m) (two_read p m args Short refl at.0 (at.1).0)
      ∙ one_answers p m (elements_in args p m 0 (pos 2)) (elements_plain_in p m args 0 (pos 2)) (λ e. puts e (bytes_of_short (number_in args 2)) (end_of e))

  abbrev got : Stretch → CallAnswer
  got e = tells (short_of (byte_at m e.array e.start) (byte_at m e.array (e.start + 1)))

  get_answers : have_kinds get_kinds p m args ≡ true
      → reading_call (util_get_short args p m) p m ≡ if_ok (handed_out get_kinds wants_two own args p m) (with_one (λ e. reading_call (Ok (got e)) p m))
  unfolding util_get_short
  get_answers on =
      let at = all_at p m get_kinds args on in
      ap (λ x. reading_call (and_then x (λ e. Ok (got e))) p m) (two_read p m args Short refl at.0 (at.1).0)
      ∙ one_answers p m (elements_in args p m 0 (pos 2)) (elements_plain_in p m args 0 (pos 2)) got

  abbrev made : ℤ → ℤ → CallAnswer
  made high low = tells (short_of (cast_unsigned w16 high % 256) (cast_unsigned w16 low % 256))

  make_answers : have_kinds make_kinds p m args ≡ true
      → reading_call (util_make_short args) p m
      ≡ if_ok (handed_out make_kinds wants_none own args p m) (λ es. reading_call (Ok (made (number_in args 0) (number_in args 1))) p m)
  unfolding util_make_short
  make_answers on =
      let at = all_at p m make_kinds args on in
      ap (λ x. reading_call x p m) (after_some (short_argument args 0) (number_in args 0) _ (number_read p m args 0 Byte refl at.0)
      ∙ after_some (short_argument args 1) (number_in args 1) _ (number_read p m args 1 Byte refl (at.1).0))

pub utilities_by_rows : (method : UtilitiesMethod) → IsReadByRow (rooms.Utilities method) (util_call method)
unfolding util_call util_answer parameters_of receiver_of utilities_rows util_array_compare util_array_copy util_array_copy_non_atomic util_array_fill util_array_fill_non_atomic
utilities_by_rows utilities.UtilArrayCompare = record {
  wanting = wants_both 4;
  next = λ own numbers es p m. with_two (λ from to. reading_call (Ok (tells (sign_of (slice_cmp nat_cmp (bytes_in m from) (bytes_in m to))))) p m) es;
  faults = λ own args p m off. ap (λ a. reading_call a p m) (by_kinds utilities.UtilArrayCompare args p m off);
  reads = λ own args p m on. pair_answers own args p m (λ a. tells (sign_of (slice_cmp nat_cmp (bytes_in m a.from) (bytes_in m a.to)))) on;
}
utilities_by_rows utilities.UtilArrayCopy = record {
  wanting = wants_both 4;
  next = λ own numbers es p m. with_two (λ from to. reading_call (Ok (puts to (bytes_in m from) (end_of to))) p m) es;
  faults = λ own args p m off. ap (λ a. reading_call a p m) (by_kinds utilities.UtilArrayCopy args p m off);
  reads = λ own args p m on. pair_answers own args p m (λ a. puts a.to (bytes_in m a.from) (end_of a.to)) on;
}
utilities_by_rows utilities.UtilArrayCopyNonAtomic = record {
  wanting = wants_both 4;
  next = λ own numbers es p m. with_two (λ from to. reading_call (Ok (puts_for_good to (bytes_in m from) (end_of to))) p m) es;
  faults = λ own args p m off. ap (λ a. reading_call a p m) (by_kinds utilities.UtilArrayCopyNonAtomic args p m off);
  reads = λ own args p m on. pair_answers own args p m (λ a. puts_for_good a.to (bytes_in m a.from) (end_of a.to)) on;
}
utilities_by_rows utilities.UtilArrayFill = record {
  wanting = wants_given 2;
  next = λ own numbers es p m. with_one (λ e. reading_call (Ok (puts e (filling_of (numbers 3) e) (end_of e))) p m) es;
  faults = λ own args p m off. ap (λ a. reading_call a p m) (by_kinds utilities.UtilArrayFill args p m off);
  reads = λ own args p m on. fill_answers own args p m (λ v e. puts e (filling_of v e) (end_of e)) on;
}
utilities_by_rows utilities.UtilArrayFillNonAtomic = record {
  wanting = wants_given 2;
  next = λ own numbers es p m. with_one (λ e. reading_call (Ok (puts_for_good e (filling_of (numbers 3) e) (end_of e))) p m) es;
  faults = λ own args p m off. ap (λ a. reading_call a p m) (by_kinds utilities.UtilArrayFillNonAtomic args p m off);
  reads = λ own args p m on. fill_answers own args p m (λ v e. puts_for_good e (filling_of v e) (end_of e)) on;
}
utilities_by_rows utilities.UtilGetShort = record {
  wanting = wants_two;
  next = λ own numbers es p m. with_one (λ e. reading_call (Ok (tells (short_of (byte_at m e.array e.start) (byte_at m e.array (e.start + 1))))) p m) es;
  faults = λ own args p m off. ap (λ a. reading_call a p m) (by_kinds utilities.UtilGetShort args p m off);
  reads = λ own args p m on. get_answers own args p m on;
}
utilities_by_rows utilities.UtilMakeShort = record {
  wanting = wants_none;
  next = λ own numbers es p m. reading_call (Ok (tells (short_of (cast_unsigned w16 (numbers 0) % 256) (cast_unsigned w16 (numbers 1) % 256)))) p m;
  faults = λ own args p m off. ap (λ a. reading_call a p m) (by_kinds utilities.UtilMakeShort args p m off);
  reads = λ own args p m on. make_answers own args p m on;
}
utilities_by_rows utilities.UtilSetShort = record {
  wanting = wants_two;
  next = λ own numbers es p m. with_one (λ e. reading_call (Ok (puts e (bytes_of_short (numbers 2)) (end_of e))) p m) es;
  faults = λ own args p m off. ap (λ a. reading_call a p m) (by_kinds utilities.UtilSetShort args p m off);
  reads = λ own args p m on. set_answers own args p m on;
}
