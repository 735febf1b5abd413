use Rattle.std.proofs.Common.{refl}
use Rattle.jc_cap.specs.ClassReading.{is_among}
use Rattle.jc_cap.proofs.RecordWalk.{among_goes_on, among_ends}
use Rattle.jc_cap.proofs.Earlier.{none_before}
use Rattle.jc_cap.proofs.classes.index_of.Goals as goal

pub loop-i-init : goal.loop-i-init
loop-i-init c = record { ahead = refl; none = refl }

pub loop-i-preserved : goal.loop-i-preserved
loop-i-preserved c = record {
  ahead = among_goes_on c.args.offset c.args.offsets.now c.loop-i.i c.offset_at-here.result
      (is_among c.args.offset c.args.offsets.now) c.offset_at-here.ensures c.if-here-offset.false c.loop-i.invariant.ahead;
  none = none_before c.args.offset c.args.offsets.now c.loop-i.i c.offset_at-here.result c.offset_at-here.ensures c.if-here-offset.false
      c.loop-i.invariant.none;
}

pub returns : goal.returns
returns c = among_ends c.args.offset c.args.offsets.now c.loop-i.i c.loop-i-test.false c.loop-i.invariant.ahead
