use Rattle.std.proofs.Common.{◌≡◌, ◌++◌, drop}
use Rattle.jcard_outcomes.specs.Row.{script_text}
use Rattle.jcard_outcomes.proofs.row.script.Given as goal

abbrev pub invariant-loop-row : goal.invariant-loop-row
invariant-loop-row l = l.script.items ++ script_text (drop l.row-index l.rows) ≡ script_text l.rows
