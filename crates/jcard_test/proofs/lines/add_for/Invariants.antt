use Rattle.std.proofs.Common.{◌≡◌, ◌++◌, List, take}
use Rattle.jcard_test.specs.TextLines.{AreCopies}
use Rattle.jcard_test.specs.declared.numbered_line.Numbered.{Numbered}
use Rattle.jcard_test.proofs.lines.add_for.Given as goal

abbrev pub invariant-loop-line : goal.invariant-loop-line
invariant-loop-line l = (copies : List Numbered) × AreCopies l.name l.fn.k (take l.line-index l.body) copies × (l.lines.items ≡ l.fn.lines.items ++ copies)
