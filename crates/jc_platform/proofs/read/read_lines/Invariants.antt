use Rattle.std.proofs.Common.{length}
use Rattle.jc_platform.specs.Reading.{above_of}
use Rattle.jc_platform.specs.Rows.{parts_at}
use Rattle.jc_platform.proofs.Lines.{IsReadTo}
use Rattle.jc_platform.proofs.read.read_lines.Given as goal

-- the lines so far are read
abbrev pub invariant-loop-rest : goal.invariant-loop-rest
invariant-loop-rest l = IsReadTo l.fn.text l.rest (parts_at 10 l.rest) l.number (above_of l.reading)

abbrev pub decreases-loop-rest : goal.decreases-loop-rest
decreases-loop-rest l = length l.rest
