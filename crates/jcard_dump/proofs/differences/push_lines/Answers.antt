use Rattle.std.proofs.Common.{Err}
use Rattle.std.proofs.lemmas.Result.{err_from_is_err_and}
use Rattle.jcard_dump.specs.InventoryLines.{Lines, then_lines}
use Rattle.jcard_dump.specs.Compared.{heap_lines}
use Rattle.jcard_dump.specs.Differences.{named_lines, placed_lines}
use Rattle.jcard_dump.proofs.LineLists.{lists_stopped, lists_then}
use Rattle.jcard_dump.proofs.differences.push_lines.Goals as goal

pub returns-in_err-push_named : goal.returns-in_err-push_named
returns-in_err-push_named g c =
    let p = err_from_is_err_and c.from_residual.result c.from_residual.ensures.1 in
    let stop = c.in_err-push_named.field-0.0 in
    let i = c.args.one.now in
    let j = c.args.other.now in
    let a : Lines = named_lines i j in
    let b : Lines = then_lines (placed_lines i j) (heap_lines i j) in
    rw (p.1, p.2) (lists_stopped stop _ _ a b c.in_err-push_named.ensures)

pub returns-in_err-push_placed : goal.returns-in_err-push_placed
returns-in_err-push_placed g c =
    let p = err_from_is_err_and c.from_residual-in_err-push_placed.result c.from_residual-in_err-push_placed.ensures.1 in
    let stop = c.in_err-push_placed.field-0.0 in
    let i = c.args.one.now in
    let j = c.args.other.now in
    let a : Lines = named_lines i j in
    let b : Lines = placed_lines i j in
    let d : Lines = heap_lines i j in
    rw (p.1, p.2) (lists_then (Err stop) _ _ _ a (then_lines b d) c.in_ok-push_named.ensures (lists_stopped stop _ _ b d c.in_err-push_placed.ensures))

pub returns : goal.returns
returns g c =
    let i = c.args.one.now in
    let j = c.args.other.now in
    let r = c.push_heaps.result in
    let a : Lines = named_lines i j in
    let b : Lines = placed_lines i j in
    let d : Lines = heap_lines i j in
    lists_then r _ _ _ a (then_lines b d) c.in_ok-push_named.ensures (lists_then r _ _ _ b d c.in_ok-push_placed.ensures c.push_heaps.ensures)
