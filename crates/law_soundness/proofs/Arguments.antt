-- The first argument of a call is its receiver.
use Rattle.std.proofs.Common.{◌≡◌, ℕ, ◌-◌, Bool, true, false, List, length, take, reverse, Some, None, refl, sym, ◌∙◌, ap, arith, if◌then◌else◌}
use Rattle.std.proofs.lemmas.Bool.{eqb-false, eqb-true}
use Rattle.std.proofs.lemmas.Option.{none-some}
use Rattle.std.specs.Option.{option_and_then}
use Rattle.std.specs.Prelude.{pos, nat_le, slice_get, ◌==◌}
use Rattle.jc_frames.specs.declared.cell.Cell.{Cell}
use Rattle.jc_frames.specs.declared.cell.Cell.TheVariants.{Short}
use Rattle.jc_frames.specs.Calls.{arguments_on}
use Rattle.jc_frames.specs.Cell.{as_reference}
use Rattle.jc_world.specs.Objects.{reference_argument}
use Rattle.jc_instructions.specs.Invoke.{receiver_on}
use Rattle.law_code.proofs.Receivers.{args_are, first_is}

none_first : (stack : List Cell) (r : ℕ) → option_and_then as_reference (slice_get (reverse (take 0 stack)) 0) ≡ Some r → ⊥
none_first stack r e = none-some r e

received : (n : ℕ) (stack args : List Cell) (r : ℕ) → arguments_on n stack ≡ Some args → reference_argument args 0 ≡ Some r → (b : Bool) → n == 0 ≡ b
    → (if b then None else option_and_then as_reference (slice_get stack (n - 1))) ≡ Some r
received n stack args r are is true zero =
    let a = args_are n stack args (nat_le n (length stack)) refl are in
    absurd (none_first stack r (ap (λ k. option_and_then as_reference (slice_get (reverse (take k stack)) 0)) (sym (eqb-true n 0 zero))
    ∙ ap (λ l. option_and_then as_reference (slice_get l 0)) a.1 ∙ is))
received n stack args r are is false some =
    let a = args_are n stack args (nat_le n (length stack)) refl are in
    ap (option_and_then as_reference) (sym (first_is n stack (Short (pos 0)) (let ne = eqb-false n 0 some in omega (arith, ne)) a.0))
    ∙ ap (λ l. option_and_then as_reference (slice_get l 0)) a.1 ∙ is

pub receiver_first : (n : ℕ) (stack args : List Cell) (r : ℕ) → arguments_on n stack ≡ Some args → reference_argument args 0 ≡ Some r
    → receiver_on n stack ≡ Some r
receiver_first n stack args r are is = received n stack args r are is (n == 0) refl
