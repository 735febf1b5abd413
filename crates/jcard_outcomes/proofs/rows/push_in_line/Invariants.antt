use Rattle.std.proofs.Common.{◌≡◌, ◌++◌, take}
use Rattle.jcard_outcomes.specs.Report.{in_line}
use Rattle.jcard_outcomes.proofs.rows.push_in_line.Given as goal

abbrev pub invariant-loop-byte : goal.invariant-loop-byte
invariant-loop-byte l = l.text.items ≡ l.fn.text.items ++ in_line (take l.byte-index l.answers)
