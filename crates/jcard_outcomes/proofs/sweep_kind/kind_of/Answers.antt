use Rattle.std.proofs.Common.{arith, ◌∙◌, ap, sym}
use Rattle.std.proofs.lemmas.List.{drop_all}
use Rattle.jcard_outcomes.specs.SweepKind.{marked}
use Rattle.jcard_outcomes.proofs.Splits.{take_rest}
use Rattle.jcard_outcomes.proofs.sweep_kind.kind_of.Goals as goal

pub returns-then-name-lt-CHECKSUM_DIGITS : goal.returns-then-name-lt-CHECKSUM_DIGITS
returns-then-name-lt-CHECKSUM_DIGITS c = ap marked (sym (drop_all 40 c.args.name.now (omega (arith, c.if-name-lt-CHECKSUM_DIGITS.true))))

pub returns : goal.returns
returns c = c.marked.ensures ∙ ap marked (take_rest 40 c.args.name.now)
