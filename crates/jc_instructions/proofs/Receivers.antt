-- The receiver of a call is the first of its arguments.
use Rattle.std.proofs.Common.{◌≡◌, ℕ, ◌-◌, ◌<◌, ◌≤◌, Bool, true, false, List, length, take, reverse, get_or, Option, Some, None, refl, sym, ◌∙◌, ap, arith}
use Rattle.std.proofs.Common.{if◌then◌else◌}
use Rattle.std.proofs.lemmas.Bool.{eqb-false, eqb-true, leb-true}
use Rattle.std.proofs.lemmas.List.{get_or-reverse, get_or-take, length-reverse, length-take-le}
use Rattle.std.proofs.lemmas.Option.{none-some, same_Some, slice_get-get_or}
use Rattle.std.specs.Option.{option_and_then}
use Rattle.std.specs.Prelude.{pos, nat_le, slice_get, ◌==◌}
use Rattle.jc_frames.specs.declared.cell.Cell.{Cell}
use Rattle.jc_frames.specs.declared.cell.Cell.TheVariants.{Short}
use Rattle.jc_frames.specs.Calls.{arguments_on}
use Rattle.jc_frames.specs.Cell.{as_reference}
use Rattle.jc_instructions.specs.Invoke.{receiver_on}

taken : (n : ℕ) (stack args : List Cell) (b : Bool) → nat_le n (length stack) ≡ b → (if b then Some (reverse (take n stack)) else None) ≡ Some args
    → (n ≤ length stack) × (reverse (take n stack) ≡ args)
taken n stack args true le e = (leb-true n (length stack) le, same_Some (reverse (take n stack)) args e)
taken n stack args false le e = absurd (none-some args e)

first_is : (n : ℕ) (stack : List Cell) (d : Cell) → 0 < n → n ≤ length stack → slice_get (reverse (take n stack)) 0 ≡ slice_get stack (n - 1)
first_is n stack d some le =
    let long = length-take-le n stack le in
    let turned = length-reverse (take n stack) in
    let last : length (take n stack) - 1 - 0 ≡ n - 1 = omega (arith, long) in
    slice_get-get_or (reverse (take n stack)) 0 d (omega (arith, long, turned, some))
    ∙ ap Some (get_or-reverse (take n stack) 0 d (omega (arith, long, some)) ∙ ap (λ i. get_or (take n stack) i d) last
    ∙ get_or-take n stack (n - 1) d (omega (arith, some)))
    ∙ sym (slice_get-get_or stack (n - 1) d (omega (arith, some, le)))

none_first : (stack : List Cell) (cell : Cell) → slice_get (reverse (take 0 stack)) 0 ≡ Some cell → ⊥
none_first stack cell e = none-some cell e

first_of : (n : ℕ) (stack args : List Cell) (cell : Cell) → arguments_on n stack ≡ Some args → slice_get args 0 ≡ Some cell → (b : Bool) → n == 0 ≡ b
    → (if b then None else option_and_then as_reference (slice_get stack (n - 1))) ≡ as_reference cell
first_of n stack args cell are is true zero =
    let a = taken n stack args (nat_le n (length stack)) refl are in
    absurd (none_first stack cell (ap (λ k. slice_get (reverse (take k stack)) 0) (sym (eqb-true n 0 zero)) ∙ ap (λ l. slice_get l 0) a.1 ∙ is))
first_of n stack args cell are is false some =
    let a = taken n stack args (nat_le n (length stack)) refl are in
    ap (option_and_then as_reference) (sym (first_is n stack (Short (pos 0)) (let ne = eqb-false n 0 some in omega (arith, ne)) a.0)
    ∙ ap (λ l. slice_get l 0) a.1 ∙ is)

-- the receiver of these arguments, which begin with this cell
pub first_received : (n : ℕ) (stack args : List Cell) (cell : Cell) → arguments_on n stack ≡ Some args → slice_get args 0 ≡ Some cell
    → receiver_on n stack ≡ as_reference cell
first_received n stack args cell are is = first_of n stack args cell are is (n == 0) refl
