use Rattle.std.proofs.Common.{◌∙◌, sym}
use Rattle.jcard_outcomes.proofs.Counts.{broken_end, broken_found, broken_passed}
use Rattle.jcard_outcomes.proofs.verdict.first_broken.Goals as goal

pub returns-then-not-is_whole : goal.returns-then-not-is_whole
returns-then-not-is_whole c = sym (broken_found c.args.cuts.now c.loop-number.number c.loop-number.number c.index-cuts-number.result c.loop-number-test.true c.index-cuts-number.is
    (sym c.is_whole.ensures ∙ c.if-not-is_whole.true)) ∙ c.loop-number.invariant

pub loop-number-preserved : goal.loop-number-preserved
loop-number-preserved c = sym (broken_passed c.args.cuts.now c.loop-number.number c.loop-number.number c.index-cuts-number.result c.loop-number-test.true c.index-cuts-number.is
    (sym c.is_whole.ensures ∙ c.if-not-is_whole.false)) ∙ c.loop-number.invariant

pub returns : goal.returns
returns c = sym (broken_end c.args.cuts.now c.loop-number.number c.loop-number.number c.loop-number-test.false) ∙ c.loop-number.invariant
