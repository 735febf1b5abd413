use Rattle.std.proofs.Common.{◌≡◌, ◌++◌}
use Rattle.jcard_attack.specs.Models.{faults_within}
use Rattle.jcard_attack.proofs.models.push_faults.Given as goal

abbrev pub invariant-loop-instruction : goal.invariant-loop-instruction
invariant-loop-instruction l = l.faults.items ≡ l.fn.faults.items ++ faults_within l.kind l.instruction
