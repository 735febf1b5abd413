use Rattle.std.proofs.Common.{ap₂, subst, Ok, Err}
use Rattle.std.proofs.lemmas.Result.{err_from_is_err_and}
use Rattle.jcard_dump.specs.InventoryLines.{Lines}
use Rattle.jcard_dump.specs.Fault.{Lists}
use Rattle.jcard_dump.specs.Listing.{tables_lines}
use Rattle.jcard_dump.specs.Objects.{objects_lines}
use Rattle.jcard_dump.proofs.LineLists.{lists_stopped, lists_then}
use Rattle.jcard_dump.proofs.listing.push_contents.Goals as goal

pub returns-in_err-push_tables : goal.returns-in_err-push_tables
returns-in_err-push_tables g c =
    let p = err_from_is_err_and c.from_residual.result c.from_residual.ensures.1 in
    let stop = c.in_err-push_tables.field-0.0 in
    let i = c.args.image.now in
    let old = c.args.text.now.items in
    let new = c.push_tables.new.text.items in
    let tables = tables_lines i.legend i.words in
    rw (p.1, p.2) (lists_stopped stop old new tables (objects_lines i)
    (subst (λ (l : Lines). Lists old new l (Err stop)) (ap₂ tables_lines c.legend.ensures c.store.ensures.words) c.in_err-push_tables.ensures))

pub returns : goal.returns
returns g c =
    let i = c.args.image.now in
    let old = c.args.text.now.items in
    let mid = c.push_tables.new.text.items in
    let tables = tables_lines i.legend i.words in
    lists_then c.push_objects.result old mid _ tables (objects_lines i)
    (subst (λ (l : Lines). Lists old mid l (Ok tt)) (ap₂ tables_lines c.legend.ensures c.store.ensures.words) c.in_ok-push_tables.ensures) c.push_objects.ensures
