use Rattle.std.proofs.Common.{arith, length, get_or}
use Rattle.jcard_outcomes.proofs.Ends.{nothing}
use Rattle.jcard_attack.proofs.PartEnds.{all_same, another, same_next, too_few, too_many}
use Rattle.jcard_attack.proofs.join.end_of.Goals as goal
use Rattle.jcard_attack.proofs.join.end_of.Goals.{then-place-parts-via-then-place-parts, then-place-parts-via-else-place-parts+then-not-is_same}

pub returns-then-ends-parts : goal.returns-then-ends-parts
returns-then-ends-parts c = (omega arith, λ u e. too_few c.args.ends.now c.args.parts u c.if-ends-parts.true e)

pub returns-then-place-parts : goal.returns-then-place-parts
returns-then-place-parts c = (
  omega (arith, c.loop-place-test.true),
  λ u e. elim c.then-place-parts.branch [
    | then-place-parts-via-then-place-parts w ↦ too_many c.args.ends.now c.args.parts c.loop-place.place u c.loop-place-test.true w.if-place-parts.true e
    | then-place-parts-via-else-place-parts+then-not-is_same w ↦
        another c.args.ends.now c.args.parts c.loop-place.place u w.is_same.result c.loop-place-test.true w.is_same.ensures w.if-not-is_same.true e
  ],
)

pub loop-place-preserved : goal.loop-place-preserved
loop-place-preserved c = record {
  same = same_next c.args.ends.now c.loop-place.place (get_or c.args.ends.now 0 nothing).now c.is_same.result c.loop-place-test.true c.loop-place.invariant.same
      c.is_same.ensures c.if-not-is_same.false;
  within = omega arith;
}

pub returns : goal.returns
returns c = all_same c.args.ends.now c.args.parts c.loop-place.place (get_or c.args.ends.now 0 nothing).now c.loop-place.invariant.same c.loop-place-test.false
    c.loop-place.invariant.within c.if-ends-parts.false
