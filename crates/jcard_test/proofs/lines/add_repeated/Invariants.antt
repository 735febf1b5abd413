use Rattle.std.proofs.Common.{◌≡◌, ◌++◌, List}
use Rattle.jcard_test.specs.TextLines.{AreRepeated}
use Rattle.jcard_test.specs.declared.numbered_line.Numbered.{Numbered}
use Rattle.jcard_test.proofs.lines.add_repeated.Given as goal

abbrev pub invariant-loop-place : goal.invariant-loop-place
invariant-loop-place l = (all : List Numbered) × AreRepeated l.name l.first l.place l.body all × (l.lines.items ≡ l.fn.lines.items ++ all)
