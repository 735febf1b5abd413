use Rattle.std.proofs.Common.{[], take}
use Rattle.jcard_test.specs.TextLines.{AreTaken}
use Rattle.jcard_test.proofs.Numbering.{texts_of}
use Rattle.jcard_test.proofs.lines.take_lines.Given as goal

abbrev pub invariant-loop-index : goal.invariant-loop-index
invariant-loop-index l = AreTaken 1 (texts_of (take l.index l.texts)) [] [] l.loops.items l.lines.items
