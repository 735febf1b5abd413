use Rattle.std.proofs.Common.{arith, inl, length, sym}
use Rattle.std.proofs.lemmas.Result.{err_from_is_err_and}
use Rattle.jcard_outcomes.proofs.Ends.{lent, lent_length}
use Rattle.jcard_outcomes.proofs.JoinEnds.{of_lines, of_parts, parts_ordered}
use Rattle.jcard_outcomes.proofs.join.joined_in_order.Goals as goal

pub returns-clause-joined : goal.returns-clause-joined
returns-clause-joined c = of_lines c.args.depth (length c.args.texts.now) (lent c.args.texts.now) (lent c.in_ok-lines.lines.items) c.joined_lines.result
    (sym (lent_length c.args.texts.now)) c.in_ok-lines.ensures.read (rw c.deref.ensures.value at c.joined_lines.ensures)

pub returns-clause-parts : goal.returns-clause-parts
returns-clause-parts c = of_parts c.args.depth (length c.args.texts.now) (lent c.args.texts.now) (lent c.in_ok-lines.lines.items) c.joined_lines.result
    (sym (lent_length c.args.texts.now)) (omega (arith, lent_length c.args.texts.now, c.requires)) c.in_ok-lines.ensures.whole
    (rw c.deref.ensures.value at c.joined_lines.ensures)

pub returns-in_err-lines-clause-joined : goal.returns-in_err-lines-clause-joined
returns-in_err-lines-clause-joined c =
    let p = err_from_is_err_and c.from_residual.result c.from_residual.ensures.1 in
    rw (p.1, p.2) (inl c.in_err-lines.ensures.fault)

pub returns-in_err-lines-clause-parts : goal.returns-in_err-lines-clause-parts
returns-in_err-lines-clause-parts c = λ s tellable parts.
    let p = err_from_is_err_and c.from_residual.result c.from_residual.ensures.1 in
    rw (p.1, p.2) (c.in_err-lines.ensures.whole _
    (parts_ordered c.args.depth s (lent c.args.texts.now) (omega (arith, lent_length c.args.texts.now, c.requires)) tellable parts))
