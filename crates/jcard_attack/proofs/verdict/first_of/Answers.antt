use Rattle.std.proofs.Common.{◌∙◌, sym}
use Rattle.jcard_attack.proofs.Strikes.{first_at, first_end, first_past}
use Rattle.jcard_attack.proofs.verdict.first_of.Goals as goal

pub returns-then-is_outcome : goal.returns-then-is_outcome
returns-then-is_outcome c = sym (first_at c.args.outcome c.args.strikes.now c.loop-struck.struck-index c.struck-item.result c.loop-struck-test.true c.struck-item.is
    (sym c.is_outcome.ensures ∙ c.if-is_outcome.true)) ∙ c.loop-struck.invariant

pub loop-struck-preserved : goal.loop-struck-preserved
loop-struck-preserved c = sym (first_past c.args.outcome c.args.strikes.now c.loop-struck.struck-index c.struck-item.result c.loop-struck-test.true c.struck-item.is
    (sym c.is_outcome.ensures ∙ c.if-is_outcome.false)) ∙ c.loop-struck.invariant

pub returns : goal.returns
returns c = sym (first_end c.args.outcome c.args.strikes.now c.loop-struck.struck-index c.loop-struck-test.false) ∙ c.loop-struck.invariant
