use Rattle.std.proofs.Common.{length, reverse}
use Rattle.jc_platform.specs.Reading.{above_of}
use Rattle.jc_platform.proofs.PackedLines.{AreReadAs}
use Rattle.jc_platform.proofs.packing.rows_of.Given as goal

-- the lines so far are read, and their rows are kept
abbrev pub invariant-loop-rest : goal.invariant-loop-rest
invariant-loop-rest l = AreReadAs l.fn.text l.rest (reverse l.rows.items) (above_of l.reading)

abbrev pub decreases-loop-rest : goal.decreases-loop-rest
decreases-loop-rest l = length l.rest
