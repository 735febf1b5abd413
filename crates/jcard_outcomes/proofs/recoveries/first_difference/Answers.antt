use Rattle.std.proofs.Common.{◌∙◌, sym}
use Rattle.jcard_outcomes.proofs.Differences.{difference_end, difference_found, difference_passed}
use Rattle.jcard_outcomes.proofs.recoveries.first_difference.Goals as goal

pub returns-in-Some : goal.returns-in-Some
returns-in-Some c = sym (difference_found c.args.cuts.now c.loop-number.number c.loop-number.number c.in-Some.writes c.index-cuts-number.result
    c.loop-number-test.true c.index-cuts-number.is c.in-Some.is) ∙ c.loop-number.invariant

pub loop-number-preserved : goal.loop-number-preserved
loop-number-preserved c = sym (difference_passed c.args.cuts.now c.loop-number.number c.loop-number.number c.index-cuts-number.result
    c.loop-number-test.true c.index-cuts-number.is c.in_default.is) ∙ c.loop-number.invariant

pub returns : goal.returns
returns c = sym (difference_end c.args.cuts.now c.loop-number.number c.loop-number.number c.loop-number-test.false) ∙ c.loop-number.invariant
