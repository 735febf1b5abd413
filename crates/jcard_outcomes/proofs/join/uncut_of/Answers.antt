use Rattle.std.proofs.Common.{refl, arith, length, get_or, ◌<◌}
use Rattle.jcard_outcomes.proofs.Ends.{all_same, another, ends, nothing, same_next, too_few, too_many}
use Rattle.jcard_outcomes.proofs.join.uncut_of.Goals as goal
use Rattle.jcard_outcomes.proofs.join.uncut_of.Goals.{then-place-parts-via-then-place-parts, then-place-parts-via-else-place-parts+then-not-is_same}

pub returns-then-ends-parts : goal.returns-then-ends-parts
returns-then-ends-parts c = too_few c.args.count c.args.parts (length c.args.lines.now) c.args.lines.now refl c.requires.within c.if-ends-parts.true

pub returns-then-place-parts : goal.returns-then-place-parts
returns-then-place-parts c =
    let some : 0 < length (ends c.args.count c.args.lines.now) = omega (arith, c.loop-place-test.true) in
    elim c.then-place-parts.branch [
      | then-place-parts-via-then-place-parts w ↦ too_many c.args.count c.args.parts c.loop-place.place c.args.lines.now c.loop-place-test.true w.if-place-parts.true
      | then-place-parts-via-else-place-parts+then-not-is_same w ↦
          another c.args.count c.args.parts c.loop-place.place c.args.lines.now w.is_same.result c.loop-place-test.true some w.is_same.ensures w.if-not-is_same.true
    ]

pub loop-place-preserved : goal.loop-place-preserved
loop-place-preserved c = record {
  same = same_next (ends c.args.count c.args.lines.now) c.loop-place.place (get_or (ends c.args.count c.args.lines.now) 0 nothing).now c.is_same.result
      c.loop-place-test.true c.loop-place.invariant.same c.is_same.ensures c.if-not-is_same.false;
  within = omega arith;
}

pub returns : goal.returns
returns c = all_same c.args.count c.args.parts c.loop-place.place c.args.lines.now (get_or (ends c.args.count c.args.lines.now) 0 nothing).now
    c.loop-place.invariant.same c.loop-place-test.false c.loop-place.invariant.within c.if-ends-parts.false
