use Rattle.std.proofs.Common.{◌∙◌, ◌∷◌, ◌++◌, [], ap}
use Rattle.jcard_attack.proofs.KindLists.{faults_next, faults_none}
use Rattle.jcard_attack.proofs.models.push_faults.Goals as goal

pub loop-instruction-init : goal.loop-instruction-init
loop-instruction-init c = faults_none c.args.kind c.args.faults.now.items

pub loop-instruction-preserved : goal.loop-instruction-preserved
loop-instruction-preserved c = faults_next c.args.kind c.loop-instruction.instruction c.args.faults.now.items c.loop-instruction.faults.items c.push.new.self.items
    c.loop-instruction.invariant (c.in_ok-push.ensures.items ∙ ap (λ f. c.loop-instruction.faults.items ++ f ∷ []) c.fault_at.ensures)
