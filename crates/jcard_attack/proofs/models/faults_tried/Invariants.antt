use Rattle.std.proofs.Common.{◌≡◌, take}
use Rattle.jcard_attack.specs.Models.{faults_tried}
use Rattle.jcard_attack.proofs.models.faults_tried.Given as goal

abbrev pub invariant-loop-kind : goal.invariant-loop-kind
invariant-loop-kind l = l.faults.items ≡ faults_tried (take l.kind-index l.kinds) l.count
