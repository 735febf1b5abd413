use Rattle.std.proofs.Common.{take, map}
use Rattle.jcard_sweeps.specs.ScriptLines.{line_of}
use Rattle.jcard_tear.specs.Sweep.{AreSwept, given_of}
use Rattle.jcard_tear.proofs.each.tear_each.Given as goal

abbrev pub invariant-loop-line : goal.invariant-loop-line
invariant-loop-line g l = AreSwept l.words (given_of l.fn.follow_up) l.fn.follow_up.behind (map line_of (take l.line-index l.lines)) l.sweeps.items
