use Rattle.std.proofs.Common.{◌∙◌, ap, map}
use Rattle.std.proofs.lemmas.List.{take_all}
use Rattle.jcard_attack.specs.PartLines.{told_as}
use Rattle.jcard_attack.specs.Report.{told_by}
use Rattle.jcard_attack.proofs.join.told_as.Goals as goal

pub returns : goal.returns
returns c = c.loop-fault.invariant ∙ ap (λ l. told_as c.args.words.now (map told_by l))
    (take_all c.loop-fault.fault-index c.args.faults.now c.loop-fault-test.false)
