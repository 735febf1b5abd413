use Rattle.std.proofs.Common.{◌≡◌, ◌+◌, ◌≤◌, drop}
use Rattle.jcard_attack.specs.Report.{count_of}
use Rattle.jcard_attack.proofs.verdict.count_of.Given as goal

abbrev pub invariant-loop-struck : goal.invariant-loop-struck
invariant-loop-struck l = record {
  counted : l.count + count_of l.outcome (drop l.struck-index l.strikes) ≡ count_of l.outcome l.strikes;
  bound : l.count ≤ l.struck-index;
}
