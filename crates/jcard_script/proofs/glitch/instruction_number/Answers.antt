use Rattle.std.proofs.Common.{◌≡◌, ◌≤◌, ◌∙◌, ℕ, Option, MatchOption, true, false, length, subst, sym, arith}
use Rattle.std.specs.Str.{all_ascii_digits}
use Rattle.std.specs.Str.Parse.{digits_value}
use Rattle.jcard_script.specs.Script.{is_instruction_number}
use Rattle.jcard_script.proofs.InstructionNumbers.{digits_text, instruction_parsed}
use Rattle.jcard_script.proofs.glitch.instruction_number.Goals as goal

pub returns-in-Ok : goal.returns-in-Ok
returns-in-Ok c =
    let digits : all_ascii_digits c.args.digits.now ≡ true = sym c.are_digits.ensures ∙ c.if-not-are_digits.false in
    let few : length c.args.digits.now ≤ 10 = omega (arith, c.if-digits-gt-DIGITS.false) in
    subst (λ (o : Option ℕ). MatchOption o (is_instruction_number c.args.digits.now ≡ false)
    (λ n. (is_instruction_number c.args.digits.now ≡ true) × (n ≡ digits_value 10 c.args.digits.now))) (sym c.ok.ensures.value)
    (instruction_parsed c.args.digits.now c.parse.result (rw c.in-Ok.ensures.cases.0 at c.parse.ensures.value.0) digits few)

pub returns-in-Err : goal.returns-in-Err
returns-in-Err c = absurd (c.in-Err.ensures.cases.0 (digits_text c.args.digits.now (sym c.are_digits.ensures ∙ c.if-not-are_digits.false)))
