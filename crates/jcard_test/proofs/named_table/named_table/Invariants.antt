use Rattle.std.proofs.Common.{take}
use Rattle.std.specs.Prelude.{All}
use Rattle.jcard_test.specs.NamedTable.{SaysNothing}
use Rattle.jcard_test.proofs.named_table.named_table.Given as goal

abbrev pub invariant-loop-place : goal.invariant-loop-place
invariant-loop-place l = All SaysNothing (take l.place l.lines)
