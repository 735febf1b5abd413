use Rattle.std.proofs.lemmas.Result.{err_from_is_err_and}
use Rattle.jcard_outcomes.proofs.Ends.{lent}
use Rattle.jcard_outcomes.proofs.JoinEnds.{of_cuts, of_no_cuts}
use Rattle.jcard_outcomes.proofs.join.joined_lines.Goals as goal

pub returns : goal.returns
returns c = of_cuts c.args.depth c.args.parts (lent c.args.lines.now) c.in_ok-cuts.cuts.items c.joined_cuts.result c.requires.some c.in_ok-cuts.ensures.whole
    (rw c.deref.ensures.value at c.joined_cuts.ensures)

pub returns-in_err-cuts : goal.returns-in_err-cuts
returns-in_err-cuts c =
    let p = err_from_is_err_and c.from_residual.result c.from_residual.ensures.1 in
    rw (p.1, p.2) (of_no_cuts c.args.depth c.args.parts (lent c.args.lines.now) c.in_err-cuts.field-0.0 c.requires.some c.in_err-cuts.ensures.fault
    c.in_err-cuts.ensures.whole)
