use Rattle.std.proofs.Common.{sym}
use Rattle.jcard_tear.proofs.Powers.{cube, first_power}
use Rattle.jcard_tear.proofs.recoveries.ways.Goals as goal

-- src/recoveries.rt:67:1
pub returns-in-One : goal.returns-in-One
returns-in-One c = rw (c.in-One.is, c.from-writes.ensures) (sym (first_power c.args.writes))

-- src/recoveries.rt:67:1
pub returns-in-Three : goal.returns-in-Three
returns-in-Three c = rw (c.in-Three.is, c.from-writes.ensures) (sym (cube c.args.writes))
