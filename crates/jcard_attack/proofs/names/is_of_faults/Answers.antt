use Rattle.std.proofs.Common.{arith, ◌∙◌, ap, codes, sym}
use Rattle.std.specs.Str.{bytes_eq}
use Rattle.std.proofs.lemmas.List.{drop_all}
use Rattle.jcard_outcomes.proofs.Splits.{take_rest}
use Rattle.jcard_attack.proofs.names.is_of_faults.Goals as goal

pub returns-then-name-lt-CHECKSUM_DIGITS : goal.returns-then-name-lt-CHECKSUM_DIGITS
returns-then-name-lt-CHECKSUM_DIGITS c = ap (λ l. bytes_eq l (codes " faults")) (sym (drop_all 40 c.args.name.now (omega (arith, c.if-name-lt-CHECKSUM_DIGITS.true))))

pub returns : goal.returns
returns c = c.is_same.ensures ∙ ap (λ l. bytes_eq l (codes " faults")) (take_rest 40 c.args.name.now)
