use Rattle.std.proofs.Common.{arith, ◌∙◌, sym}
use Rattle.jcard_attack.proofs.Strikes.{count_end, count_none, count_one}
use Rattle.jcard_attack.proofs.verdict.count_of.Goals as goal
use Rattle.jcard_attack.proofs.verdict.count_of.Goals.{then-is_outcome, else-is_outcome}

pub loop-struck-preserved : goal.loop-struck-preserved
loop-struck-preserved c = elim c.if-is_outcome.branch [
  | then-is_outcome w ↦ record {
    counted = omega (
      arith,
      count_one c.args.outcome c.args.strikes.now c.loop-struck.struck-index c.struck-item.result c.loop-struck-test.true c.struck-item.is
          (sym c.is_outcome.ensures ∙ w.if-is_outcome.true),
      w.count-is,
      c.loop-struck.invariant.counted,
    );
    bound = omega (arith, w.count-is, c.loop-struck.invariant.bound);
  }
  | else-is_outcome w ↦ record {
    counted = omega (
      arith,
      count_none c.args.outcome c.args.strikes.now c.loop-struck.struck-index c.struck-item.result c.loop-struck-test.true c.struck-item.is
          (sym c.is_outcome.ensures ∙ w.if-is_outcome.false),
      w.count-is,
      c.loop-struck.invariant.counted,
    );
    bound = omega (arith, w.count-is, c.loop-struck.invariant.bound);
  }
]

pub returns : goal.returns
returns c = omega (arith, count_end c.args.outcome c.args.strikes.now c.loop-struck.struck-index c.loop-struck-test.false, c.loop-struck.invariant.counted)
