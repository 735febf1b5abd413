use Rattle.std.proofs.lemmas.Result.{err_from_is_err_and}
use Rattle.jc_linker.proofs.Ontos.{are_found, told_as_it_is}
use Rattle.jc_linker.proofs.linked.Linked.import_numbers.Goals as goal

pub returns-in_err-numbers-clause-found : goal.returns-in_err-numbers-clause-found
returns-in_err-numbers-clause-found c =
    let p = err_from_is_err_and c.from_residual.result c.from_residual.ensures.1 in
    λ refused. are_found c.args.self.now c.args.imports.now c.in_err-numbers.field-0.0 c.in_err-numbers.ensures
    (told_as_it_is c.in_err-numbers.field-0.0 p.0 c.from_residual.result p.1 p.2 refused)

pub returns-in_err-copy-clause-found : goal.returns-in_err-copy-clause-found
returns-in_err-copy-clause-found c = λ refused. (c.in_ok-numbers.numbers.items, c.in_ok-numbers.ensures)

pub returns-clause-found : goal.returns-clause-found
returns-clause-found c = λ refused. (c.in_ok-numbers.numbers.items, c.in_ok-numbers.ensures)
