use Rattle.std.proofs.lemmas.Result.{err_from_is_err_and}
use Rattle.jcard_arguments.proofs.CommandLine.{found, refused}
use Rattle.jcard_arguments.proofs.arguments.matches_of.Goals as goal

pub returns-in_err-matches-clause-refused : goal.returns-in_err-matches-clause-refused
returns-in_err-matches-clause-refused c =
    let p = err_from_is_err_and c.from_residual-in_err-matches.result c.from_residual-in_err-matches.ensures.1 in
    rw (p.1, p.2) (refused _ _ _ c.in_ok-program.ensures c.in_err-matches.ensures.kinds)

pub returns-clause-found : goal.returns-clause-found
returns-clause-found c = found _ _ c.in_ok-matches.matches c.in_ok-program.ensures c.in_ok-matches.ensures.matches c.in_ok-matches.ensures.kinds
