use Rattle.std.proofs.Common.{arith, ◌∙◌, sym}
use Rattle.jcard_outcomes.proofs.Counts.{count_end, count_none, count_one}
use Rattle.jcard_outcomes.proofs.verdict.count_before.Goals as goal
use Rattle.jcard_outcomes.proofs.verdict.count_before.Goals.{then-is_before, else-is_before}

pub loop-cut-preserved : goal.loop-cut-preserved
loop-cut-preserved c = elim c.if-is_before.branch [
  | then-is_before w ↦ record {
    counted = omega (
      arith,
      count_one c.args.cuts.now c.loop-cut.cut-index c.cut-item.result c.loop-cut-test.true c.cut-item.is
          (sym c.is_before.ensures ∙ w.if-is_before.true),
      w.count-is,
      c.loop-cut.invariant.counted,
    );
    bound = omega (arith, w.count-is, c.loop-cut.invariant.bound);
  }
  | else-is_before w ↦ record {
    counted = omega (
      arith,
      count_none c.args.cuts.now c.loop-cut.cut-index c.cut-item.result c.loop-cut-test.true c.cut-item.is
          (sym c.is_before.ensures ∙ w.if-is_before.false),
      w.count-is,
      c.loop-cut.invariant.counted,
    );
    bound = omega (arith, w.count-is, c.loop-cut.invariant.bound);
  }
]

pub returns : goal.returns
returns c = omega (arith, count_end c.args.cuts.now c.loop-cut.cut-index c.loop-cut-test.false, c.loop-cut.invariant.counted)
