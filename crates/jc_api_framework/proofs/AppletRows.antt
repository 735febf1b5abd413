-- The calls of Applet that take an array are read by their rows.
use Rattle.std.proofs.Common.{◌≡◌, ◌∙◌, ℕ, true, false, List, [], ◌∷◌, ap, refl, if◌then◌else◌}
use Rattle.std.proofs.lemmas.Bool.{false≢true}
use Rattle.jc_memory.specs.State.{MemoryState}
use Rattle.jc_platform.specs.Names.{applets_rows}
use Rattle.jc_platform.specs.Signatures.{parameters_of, receiver_of}
use Rattle.jc_platform.specs.declared.kinds.ParameterKind.{ParameterKind}
use Rattle.jc_platform.specs.declared.kinds.ParameterKind.TheVariants.{Byte, Bytes, Short}
use Rattle.jc_platform.specs.declared.names.AppletsMethod.{AppletsMethod}
use Rattle.jc_platform.specs.declared.names.AppletsMethod.TheVariants as applets
use Rattle.jc_platform.specs.declared.names.PlatformMethod.TheVariants as rooms
use Rattle.jc_linker.specs.Values.{Packages}
use Rattle.jc_frames.specs.Reasons.{illegal_value}
use Rattle.jc_frames.specs.declared.cell.Cell.{Cell}
use Rattle.jc_frames.specs.declared.cell.Cell.TheVariants as cell
use Rattle.jc_world.specs.Answers.{and_then}
use Rattle.jc_world.specs.Arrays.{bytes_in}
use Rattle.jc_world.specs.NativeCalls.{NativeProgram, code_fault, if_ok, throw_exception}
use Rattle.jc_world.specs.declared.arrays.Stretch.{Stretch}
use Rattle.jc_api.specs.Arguments.{argument_bytes}
use Rattle.jc_api.specs.Kinds.{have_kinds}
use Rattle.jc_api_framework.specs.Aid.Cells.{is_aid_length}
use Rattle.jc_api_framework.specs.Applet.{applet_call, applet_register_bytes}
use Rattle.jc_api_framework.specs.Applet.Register.{registration}
use Rattle.jc_api_framework.specs.ArgumentReading.{IsReadByRow, elements_in, handed_out, has_array, number_in}
use Rattle.jc_api_framework.proofs.ShortsRead.{given_faults}
use Rattle.jc_api_framework.proofs.ReadByRow.{all_at, counted_read, one_follows, wants_given, with_one}

abbrev given_kinds : List ParameterKind
given_kinds = Bytes ∷ Short ∷ Byte ∷ []

abbrev registered : ℕ → Packages → MemoryState → Stretch → NativeProgram
registered own p m e = if is_aid_length e.count then registration (bytes_in m e) own p m else throw_exception illegal_value

module _ (own : ℕ) (args : List Cell) (p : Packages) (m : MemoryState) where
  register_faults : have_kinds given_kinds p m args ≡ false → applet_register_bytes (cell.Reference own ∷ args) p m ≡ code_fault
  unfolding applet_register_bytes
  register_faults off = ap (λ x. if_ok (and_then x (λ given. argument_bytes given p m)) (registered own p m)) (given_faults args p m Short Byte refl refl off)

  register_read : have_kinds given_kinds p m args ≡ true
      → applet_register_bytes (cell.Reference own ∷ args) p m ≡ if_ok (handed_out given_kinds (wants_given 2) own args p m) (with_one (registered own p m))
  unfolding applet_register_bytes
  register_read on =
      let at = all_at p m given_kinds args on in
      ap (λ x. if_ok x (registered own p m)) (counted_read p m args 0 Short Byte refl refl at.0 (at.1).0 ((at.1).1).0)
      ∙ one_follows (elements_in args p m 0 (number_in args 2)) (registered own p m)

pub applets_by_rows : (method : AppletsMethod) → has_array (parameters_of (rooms.Applets method)) ≡ true
    → IsReadByRow (rooms.Applets method) (applet_call method)
unfolding applet_call parameters_of receiver_of applets_rows
applets_by_rows applets.AppletRegisterBytes array = record {
  wanting = wants_given 2;
  next = λ own numbers es p m. with_one (registered own p m) es;
  faults = λ own args p m off. register_faults own args p m off;
  reads = λ own args p m on. register_read own args p m on;
}
applets_by_rows _ array = absurd (false≢true array)
