use Rattle.std.proofs.Common.{length}
use Rattle.jc_platform.specs.Reading.{above_of}
use Rattle.jc_platform.specs.PackedEntry.{entries}
use Rattle.jc_platform.proofs.Lines.{IsReadTo}
use Rattle.jc_platform.proofs.read.read_entries.Given as goal

-- the entries so far are read
abbrev pub invariant-loop-rest : goal.invariant-loop-rest
invariant-loop-rest l = IsReadTo l.fn.text l.rest (entries l.rest) l.place (above_of l.reading)

abbrev pub decreases-loop-rest : goal.decreases-loop-rest
decreases-loop-rest l = length l.rest
