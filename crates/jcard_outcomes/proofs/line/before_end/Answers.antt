use Rattle.jcard_outcomes.proofs.Splits.{other}
use Rattle.jcard_outcomes.proofs.CutReports.{ends_not, too_short_to_end}
use Rattle.jcard_outcomes.proofs.line.before_end.Goals as goal

pub returns : goal.returns
returns c = λ front e. ends_not c.args.text.now c.args.end.now c.split_at.result.1.now front c.split_at.ensures.back
    (other c.split_at.result.1.now c.args.end.now c.is_same.result c.is_same.ensures c.if-is_same.false) e
