use Rattle.std.proofs.Common.{◌≡◌, ◌∙◌, ◌++◌, ◌+◌, ◌*◌, ◌≤◌, [], ◌∷◌, ap, sym, arith, length}
use Rattle.std.proofs.Common.{drop}
use Rattle.std.proofs.lemmas.Result.{err_from_is_err_and}
use Rattle.jc_cap.specs.FieldViews.{package_info}
use Rattle.jc_linker.specs.Answers.{list_append}
use Rattle.jc_linker.specs.Imports.{import_numbers}
use Rattle.jc_linker.proofs.Ontos.{imports_end, imports_fault, imports_next, onto_nothing}
use Rattle.jc_linker.proofs.linked.Linked.numbers_found.Goals as goal

pub loop-token-init : goal.loop-token-init
loop-token-init c = record {
  going = onto_nothing (import_numbers c.args.self.now c.args.imports.now)
      ∙ ap (λ xs. list_append xs (import_numbers c.args.self.now c.args.imports.now)) (sym c.new-numbers.ensures);
  as_many = ap length c.new-numbers.ensures;
}

pub returns-in_err-number : goal.returns-in_err-number
returns-in_err-number c =
    let p = err_from_is_err_and c.from_residual.result c.from_residual.ensures.1 in
    rw (p.1, p.2) (c.loop-token.invariant.going ∙ imports_fault c.args.self.now c.args.imports.now c.loop-token.token
    (package_info c.get.result) c.in_err-number.field-0.0 c.loop-token.numbers.items c.get.ensures (sym c.in_err-number.ensures))

pub loop-token-preserved : goal.loop-token-preserved
loop-token-preserved c = record {
  going = c.loop-token.invariant.going ∙ imports_next c.args.self.now c.args.imports.now c.loop-token.token
      (package_info c.get.result) c.in_ok-number.number c.loop-token.numbers.items c.get.ensures (sym c.in_ok-number.ensures)
      ∙ ap (λ xs. list_append xs (import_numbers c.args.self.now (drop (c.loop-token.token + 1) c.args.imports.now))) (sym c.push.ensures.items);
  as_many = omega (arith, c.push.ensures.len, c.loop-token.invariant.as_many);
}

pub returns : goal.returns
returns c =
    let end : length c.args.imports.now ≤ c.loop-token.token = omega arith in
    c.loop-token.invariant.going ∙ imports_end c.args.self.now c.args.imports.now c.loop-token.token c.loop-token.numbers.items end
