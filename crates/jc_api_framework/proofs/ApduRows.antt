-- The calls of APDU that take an array are read by their rows.
use Rattle.std.proofs.Common.{◌≡◌, ◌∙◌, ℕ, true, false, List, [], ◌∷◌, ap, refl}
use Rattle.std.proofs.lemmas.Bool.{false≢true}
use Rattle.jc_memory.specs.State.{MemoryState}
use Rattle.jc_platform.specs.Names.{apdus_rows}
use Rattle.jc_platform.specs.Signatures.{parameters_of, receiver_of}
use Rattle.jc_platform.specs.declared.kinds.ParameterKind.{ParameterKind}
use Rattle.jc_platform.specs.declared.kinds.ParameterKind.TheVariants.{Bytes, Short}
use Rattle.jc_platform.specs.declared.names.ApdusMethod.{ApdusMethod}
use Rattle.jc_platform.specs.declared.names.ApdusMethod.TheVariants as apdus
use Rattle.jc_platform.specs.declared.names.PlatformMethod.TheVariants as rooms
use Rattle.jc_linker.specs.Values.{Packages}
use Rattle.jc_frames.specs.declared.cell.Cell.{Cell}
use Rattle.jc_frames.specs.declared.cell.Cell.TheVariants as cell
use Rattle.jc_world.specs.Answers.{and_then}
use Rattle.jc_world.specs.NativeCalls.{NativeProgram, code_fault, if_ok}
use Rattle.jc_world.specs.declared.arrays.Stretch.{Stretch}
use Rattle.jc_api.specs.Arguments.{argument_bytes}
use Rattle.jc_api.specs.Kinds.{have_kinds}
use Rattle.jc_api_framework.specs.Apdu.{apdu_call, apdu_send_bytes_long, phase_of, send_elements_in_phase}
use Rattle.jc_api_framework.specs.ArgumentReading.{IsReadByRow, elements_in, handed_out, has_array, number_in}
use Rattle.jc_api_framework.proofs.ShortsRead.{given_faults}
use Rattle.jc_api_framework.proofs.ReadByRow.{all_at, counted_read, one_follows, wants_given, with_one}

abbrev given_kinds : List ParameterKind
given_kinds = Bytes ∷ Short ∷ Short ∷ []

abbrev sent : MemoryState → Stretch → NativeProgram
sent m e = send_elements_in_phase m (phase_of m) e

module _ (own : ℕ) (args : List Cell) (p : Packages) (m : MemoryState) where
  long_faults : have_kinds given_kinds p m args ≡ false → apdu_send_bytes_long (cell.Reference own ∷ args) p m ≡ code_fault
  unfolding apdu_send_bytes_long
  long_faults off = ap (λ x. if_ok (and_then x (λ given. argument_bytes given p m)) (sent m)) (given_faults args p m Short Short refl refl off)

  long_read : have_kinds given_kinds p m args ≡ true
      → apdu_send_bytes_long (cell.Reference own ∷ args) p m ≡ if_ok (handed_out given_kinds (wants_given 2) own args p m) (with_one (sent m))
  unfolding apdu_send_bytes_long
  long_read on =
      let at = all_at p m given_kinds args on in
      ap (λ x. if_ok x (sent m)) (counted_read p m args 0 Short Short refl refl at.0 (at.1).0 ((at.1).1).0)
      ∙ one_follows (elements_in args p m 0 (number_in args 2)) (sent m)

pub apdus_by_rows : (method : ApdusMethod) → has_array (parameters_of (rooms.Apdus method)) ≡ true → IsReadByRow (rooms.Apdus method) (apdu_call method)
unfolding apdu_call parameters_of receiver_of apdus_rows
apdus_by_rows apdus.ApduSendBytesLong array = record {
  wanting = wants_given 2;
  next = λ own numbers es p m. with_one (sent m) es;
  faults = λ own args p m off. long_faults own args p m off;
  reads = λ own args p m on. long_read own args p m on;
}
apdus_by_rows _ array = absurd (false≢true array)
