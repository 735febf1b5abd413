use Rattle.std.proofs.Common.{codes}
use Rattle.jcard_outcomes.proofs.Splits.{other}
use Rattle.jcard_outcomes.proofs.CutReports.{or_changed}
use Rattle.jcard_outcomes.proofs.line.standing_of.Goals as goal

pub returns : goal.returns
returns c = or_changed c.args.text.now c.changed_of.result
    (other c.args.text.now (codes "as before") c.is_same.result c.is_same.ensures c.if-is_same.false)
    (other c.args.text.now (codes "as before but for PIN tries") c.is_same-2.result c.is_same-2.ensures c.if-is_same-2.false)
    (other c.args.text.now (codes "as after") c.is_same-3.result c.is_same-3.ensures c.if-is_same-3.false)
    (other c.args.text.now (codes "as after but for PIN tries") c.is_same-4.result c.is_same-4.ensures c.if-is_same-4.false)
    (other c.args.text.now (codes "with other answers") c.is_same-5.result c.is_same-5.ensures c.if-is_same-5.false)
    c.changed_of.ensures
