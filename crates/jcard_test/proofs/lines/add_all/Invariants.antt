use Rattle.std.proofs.Common.{◌≡◌, ◌++◌, List, take}
use Rattle.jcard_test.specs.TextLines.{AreAllNumbered}
use Rattle.jcard_test.specs.declared.numbered_line.Numbered.{Numbered}
use Rattle.jcard_test.proofs.Numbering.{texts_of}
use Rattle.jcard_test.proofs.lines.add_all.Given as goal

abbrev pub invariant-loop-text : goal.invariant-loop-text
invariant-loop-text l = (added : List Numbered) × AreAllNumbered l.number (texts_of (take l.text-index l.texts)) added
    × (l.lines.items ≡ l.fn.lines.items ++ added)
