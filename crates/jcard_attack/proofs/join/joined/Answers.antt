use Rattle.std.proofs.lemmas.Result.{err_from_is_err_and}
use Rattle.jcard_attack.proofs.PartReads.{read_joined, unread_unjoined}
use Rattle.jcard_attack.proofs.join.joined.Goals as goal

pub returns : goal.returns
returns c = read_joined c.args.parts c.args.text.now c.in_ok-lines.lines c.joined_lines.result c.in_ok-lines.ensures c.joined_lines.ensures

pub returns-in_err-lines : goal.returns-in_err-lines
returns-in_err-lines c =
    let p = err_from_is_err_and c.from_residual.result c.from_residual.ensures.1 in
    rw (p.1, p.2) (unread_unjoined c.args.parts c.args.text.now c.in_err-lines.field-0.0 c.in_err-lines.ensures)
