use Rattle.std.proofs.Common.{◌≡◌, drop}
use Rattle.jcard_attack.specs.Report.{first_of}
use Rattle.jcard_attack.proofs.verdict.first_of.Given as goal

abbrev pub invariant-loop-struck : goal.invariant-loop-struck
invariant-loop-struck l = first_of l.outcome (drop l.struck-index l.strikes) ≡ first_of l.outcome l.strikes
