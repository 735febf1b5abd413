-- The calls of OwnerPIN that take an array are read by their rows.
use Rattle.std.proofs.Common.{◌≡◌, ◌∙◌, ℕ, Bool, true, false, List, [], ◌∷◌, Option, Some, None, Result, Ok, Err, ap, refl, sym, if◌then◌else◌}
use Rattle.std.proofs.lemmas.Bool.{false≢true}
use Rattle.jc_memory.specs.State.{MemoryState}
use Rattle.jc_environment.specs.Pins.{is_pin}
use Rattle.jc_environment.specs.Pins.Updates.{pin_update}
use Rattle.jc_platform.specs.Names.{pins_rows}
use Rattle.jc_platform.specs.Signatures.{parameters_of, receiver_of}
use Rattle.jc_platform.specs.declared.kinds.ParameterKind.{ParameterKind}
use Rattle.jc_platform.specs.declared.kinds.ParameterKind.TheVariants.{Byte, Bytes, Short}
use Rattle.jc_platform.specs.declared.names.PinsMethod.{PinsMethod}
use Rattle.jc_platform.specs.declared.names.PinsMethod.TheVariants as pins
use Rattle.jc_platform.specs.declared.names.PlatformMethod.TheVariants as rooms
use Rattle.jc_linker.specs.Values.{Packages}
use Rattle.jc_frames.specs.declared.cell.Cell.{Cell}
use Rattle.jc_frames.specs.declared.cell.Cell.TheVariants as cell
use Rattle.jc_frames.specs.declared.outcome.FrameExit.{FrameExit}
use Rattle.jc_frames.specs.declared.outcome.FrameExit.TheVariants.{End}
use Rattle.jc_frames.specs.declared.outcome.Outcome.TheVariants.{Fault}
use Rattle.jc_world.specs.Answers.{and_then}
use Rattle.jc_world.specs.Arrays.{bytes_in}
use Rattle.jc_world.specs.NativeCalls.{NativeProgram, code_fault, if_ok, if_some}
use Rattle.jc_world.specs.Objects.{some_or_fault}
use Rattle.jc_world.specs.declared.arrays.Stretch.{Stretch}
use Rattle.jc_api.specs.Arguments.{argument_bytes}
use Rattle.jc_api.specs.Kinds.{have_kinds}
use Rattle.jc_api_framework.specs.OwnerPin.{changed_or_thrown, is_own_value, owner_pin_check, owner_pin_update, pin_call, pin_comparison}
use Rattle.jc_api_framework.specs.ArgumentReading.{elements_in, handed_out, has_array, number_in, stretches_in}
use Rattle.jc_api_framework.specs.RowLaws.{IsReadSo, pin_weighs}
use Rattle.jc_api_framework.proofs.ShortsRead.{given_faults}
use Rattle.jc_api_framework.proofs.ReadByRow.{all_at, counted_read, faulty_some, given_read, one_follows, one_is, the_one, wants_given, with_one}

abbrev given_kinds : List ParameterKind
given_kinds = Bytes ∷ Short ∷ Byte ∷ []

-- the PIN with a reference
abbrev pin_with : MemoryState → ℕ → Option ℕ
pin_with m own = if is_pin m own then Some own else None

abbrev valued : ℕ → MemoryState → Stretch → NativeProgram
valued pin m e = if_ok (is_own_value m pin) (λ u. changed_or_thrown (pin_update m pin (bytes_in m e)) m)

module _ (own : ℕ) (args : List Cell) (p : Packages) (m : MemoryState) where
  abbrev all : List Cell
  all = cell.Reference own ∷ args

  check_faults : have_kinds given_kinds p m args ≡ false → owner_pin_check all p m ≡ code_fault
  unfolding owner_pin_check
  check_faults off = faulty_some (pin_with m own) _ (λ pin is. ap (λ x. if_ok x (λ given. pin_comparison m pin (argument_bytes given p m)))
      (given_faults args p m Short Byte refl refl off))

  check_read : have_kinds given_kinds p m args ≡ true
      → owner_pin_check all p m ≡ if_some (pin_with m own) (λ pin. pin_comparison m pin (the_one (handed_out given_kinds (wants_given 2) own args p m)))
  unfolding owner_pin_check
  check_read on =
      let at = all_at p m given_kinds args on in
      ap (λ x. if_some (pin_with m own) (λ pin. if_ok x (λ given. pin_comparison m pin (argument_bytes given p m))))
      (given_read p m args 0 Short Byte refl refl at.0 (at.1).0 ((at.1).1).0)
      ∙ ap (λ x. if_some (pin_with m own) (λ pin. pin_comparison m pin x)) (sym (one_is (elements_in args p m 0 (number_in args 2))))

  update_faults : have_kinds given_kinds p m args ≡ false → owner_pin_update all p m ≡ code_fault
  unfolding owner_pin_update
  update_faults off = faulty_some (pin_with m own) _ (λ pin is. ap (λ x. if_ok (and_then x (λ given. argument_bytes given p m)) (valued pin m))
      (given_faults args p m Short Byte refl refl off))

  updated_if : (b : Bool) → (x : Result Stretch FrameExit)
      → if_some (if b then Some own else None) (λ pin. if_ok x (valued pin m))
      ≡ if_ok (and_then (some_or_fault (if b then Some own else None)) (λ pin. and_then x (λ e. Ok (e ∷ [])))) (with_one (valued own m))
  updated_if true x = one_follows x (valued own m)
  updated_if false x = refl

  wanted_if : (b : Bool)
      → and_then (and_then (some_or_fault (if b then Some own else None)) (λ pin. Ok (number_in args 2 ∷ []))) (λ counts. stretches_in given_kinds 0 counts args p m)
      ≡ and_then (some_or_fault (if b then Some own else None)) (λ pin. and_then (elements_in args p m 0 (number_in args 2)) (λ e. Ok (e ∷ [])))
  wanted_if true = refl
  wanted_if false = refl

  update_read : have_kinds given_kinds p m args ≡ true → owner_pin_update all p m
      ≡ if_ok (handed_out given_kinds (λ own numbers m. and_then (some_or_fault (pin_with m own)) (λ pin. Ok (numbers 2 ∷ []))) own args p m) (with_one (valued own m))
  unfolding owner_pin_update
  update_read on =
      let at = all_at p m given_kinds args on in
      ap (λ x. if_some (pin_with m own) (λ pin. if_ok x (valued pin m))) (counted_read p m args 0 Short Byte refl refl at.0 (at.1).0 ((at.1).1).0)
      ∙ updated_if (is_pin m own) (elements_in args p m 0 (number_in args 2))
      ∙ ap (λ x. if_ok x (with_one (valued own m))) (sym (wanted_if (is_pin m own)))

pub pins_by_rows : (method : PinsMethod) → has_array (parameters_of (rooms.Pins method)) ≡ true → IsReadSo (pin_weighs method) (rooms.Pins method) (pin_call method)
unfolding pin_call parameters_of receiver_of pins_rows
pins_by_rows pins.PinCheck array = record {
  wanting = λ own numbers m. Err (End Fault);
  next = λ own numbers es p m. code_fault;
  faults = λ own args p m off. refl;
  reads = λ own args p m on. refl;
}
pins_by_rows pins.OwnerPinCheck array = record {
  wanting = wants_given 2;
  next = λ own numbers nulls elements p m. if_some (pin_with m own) (λ pin. pin_comparison m pin (the_one elements));
  faults = λ own args p m off. check_faults own args p m off;
  reads = λ own args p m on. check_read own args p m on;
}
pins_by_rows pins.OwnerPinUpdate array = record {
  wanting = λ own numbers m. and_then (some_or_fault (pin_with m own)) (λ pin. Ok (numbers 2 ∷ []));
  next = λ own numbers es p m. with_one (valued own m) es;
  faults = λ own args p m off. update_faults own args p m off;
  reads = λ own args p m on. update_read own args p m on;
}
pins_by_rows _ array = absurd (false≢true array)
