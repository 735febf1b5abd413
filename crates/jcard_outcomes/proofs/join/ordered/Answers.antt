use Rattle.std.proofs.lemmas.Result.{err_from_is_err_and}
use Rattle.jcard_outcomes.proofs.Ends.{lent}
use Rattle.jcard_outcomes.proofs.LineReads.{no_room, refused_on}
use Rattle.jcard_outcomes.proofs.join.ordered.Goals as goal

pub returns-in_err-rests-clause-fault : goal.returns-in_err-rests-clause-fault
returns-in_err-rests-clause-fault c = refused_on _ c.from_residual.result c.from_residual.ensures.1 (λ fault e. no_room (lent c.args.texts.now) fault e)

pub returns-in_err-read_lines-clause-whole : goal.returns-in_err-read_lines-clause-whole
returns-in_err-read_lines-clause-whole c =
    let p = err_from_is_err_and c.from_residual-in_err-read_lines.result c.from_residual-in_err-read_lines.ensures.1 in
    rw (p.1, p.2) (rw c.in_ok-rests.ensures.items at c.in_err-read_lines.ensures.whole)

pub returns-clause-whole : goal.returns-clause-whole
returns-clause-whole c = rw c.in_ok-rests.ensures.items at c.in_ok-read_lines.ensures.whole
