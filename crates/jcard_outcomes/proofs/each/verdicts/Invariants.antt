use Rattle.std.proofs.Common.{◌≡◌, ◌++◌, drop}
use Rattle.jcard_outcomes.specs.Report.{verdicts_text}
use Rattle.jcard_outcomes.proofs.each.verdicts.Given as goal

abbrev pub invariant-loop-sweep : goal.invariant-loop-sweep
invariant-loop-sweep l = l.text.items ++ verdicts_text l.rows (drop l.sweep-index l.sweeps) ≡ verdicts_text l.rows l.sweeps
