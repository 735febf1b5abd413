use Rattle.std.proofs.Common.{rules}
use Rattle.std.proofs.lemmas.Result.{err_from_is_err_and}
use Rattle.jcard_dump.specs.InventoryLines.{package_text}
use Rattle.jcard_dump.proofs.NumberedLines.{next_stopped, next_told, none_told}
use Rattle.jcard_dump.proofs.inventory_lines.write_packages.Goals as goal

pub loop-i-init : goal.loop-i-init
loop-i-init g c = record { told = none_told _ _; failures = search rules }

pub loop-i-preserved : goal.loop-i-preserved
loop-i-preserved g c = record {
  told = next_told (package_text (g.S.WordStore.words c.args.store.now)) c.loop-i.i _ _ _ c.loop-i.invariant.told c.in_ok-write_package_at.ensures.text;
  failures = search rules;
}

pub returns-in_err-write_package_at-clause-text : goal.returns-in_err-write_package_at-clause-text
returns-in_err-write_package_at-clause-text g c =
    let p = err_from_is_err_and c.from_residual.result c.from_residual.ensures.1 in
    let stop = c.in_err-write_package_at.field-0.0 in
    rw (p.1, p.2) (next_stopped (package_text (g.S.WordStore.words c.args.store.now)) c.args.count c.loop-i.i stop _ _ _ (search rules)
    c.loop-i.invariant.told c.in_err-write_package_at.ensures.text)
