use Rattle.std.proofs.lemmas.Result.{err_from_is_err_and}
use Rattle.jcard_outcomes.proofs.Ends.{lent}
use Rattle.jcard_outcomes.proofs.JoinEnds.{of_none, of_report}
use Rattle.jcard_outcomes.proofs.join.joined_cuts.Goals as goal

pub returns : goal.returns
returns c = of_report c.args.depth c.args.parts (lent c.args.lines.now) c.args.cuts.now c.in_ok-uncut.uncut.now c.joined_report.result c.requires.told c.requires.some
    c.in_ok-uncut.ensures c.joined_report.ensures

pub returns-in_err-uncut : goal.returns-in_err-uncut
returns-in_err-uncut c =
    let p = err_from_is_err_and c.from_residual.result c.from_residual.ensures.1 in
    rw (p.1, p.2) (of_none c.args.depth c.args.parts (lent c.args.lines.now) c.args.cuts.now c.in_err-uncut.field-0.0 c.requires.some c.requires.told
    c.in_err-uncut.ensures)
