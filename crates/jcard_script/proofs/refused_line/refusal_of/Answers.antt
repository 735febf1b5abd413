use Rattle.std.proofs.Common.{[], subst}
use Rattle.jcard_script.specs.Line.{IsAsked}
use Rattle.jcard_script.specs.Script.{form_of}
use Rattle.jcard_script.specs.declared.line.LineRequest.{LineRequest}
use Rattle.jcard_script.proofs.Forms.{not_bad}
use Rattle.jcard_script.proofs.refused_line.refusal_of.Goals as goal

pub returns-in-Refused : goal.returns-in-Refused
returns-in-Refused c =
    let asked = c.last.ensures c.args.line.now (c.push_all.ensures [] c.empty-read.ensures) in
    (subst (λ (r : LineRequest). IsAsked r (form_of c.args.line.now)) c.in-Refused.is asked, c.fault_of.ensures)

pub returns-in-Nothing : goal.returns-in-Nothing
returns-in-Nothing c =
    let asked = c.last.ensures c.args.line.now (c.push_all.ensures [] c.empty-read.ensures) in
    not_bad c.last.result _ (form_of c.args.line.now) c.in-Nothing.is tt asked

pub returns-in-Exchange : goal.returns-in-Exchange
returns-in-Exchange c =
    let asked = c.last.ensures c.args.line.now (c.push_all.ensures [] c.empty-read.ensures) in
    not_bad c.last.result _ (form_of c.args.line.now) c.in-Exchange.is tt asked

pub returns-in-Reset : goal.returns-in-Reset
returns-in-Reset c =
    let asked = c.last.ensures c.args.line.now (c.push_all.ensures [] c.empty-read.ensures) in
    not_bad c.last.result _ (form_of c.args.line.now) c.in-Reset.is tt asked

pub returns-in-ArmFuse : goal.returns-in-ArmFuse
returns-in-ArmFuse c =
    let asked = c.last.ensures c.args.line.now (c.push_all.ensures [] c.empty-read.ensures) in
    not_bad c.last.result _ (form_of c.args.line.now) c.in-ArmFuse.is tt asked

pub returns-in-PlanFault : goal.returns-in-PlanFault
returns-in-PlanFault c =
    let asked = c.last.ensures c.args.line.now (c.push_all.ensures [] c.empty-read.ensures) in
    not_bad c.last.result _ (form_of c.args.line.now) c.in-PlanFault.is tt asked
