use Rattle.std.proofs.Common.{Err}
use Rattle.std.proofs.lemmas.Result.{err_from_is_err_and}
use Rattle.jcard_dump.specs.InventoryLines.{Lines, then_lines}
use Rattle.jcard_dump.specs.Parts.{part_lines}
use Rattle.jcard_dump.specs.declared.parts.Part.TheVariants.{Sizes, Packages, Applets}
use Rattle.jcard_dump.proofs.LineLists.{lists_stopped, lists_then}
use Rattle.jcard_dump.proofs.differences.push_named.Goals as goal

pub returns-in_err-push_part : goal.returns-in_err-push_part
returns-in_err-push_part g c =
    let p = err_from_is_err_and c.from_residual.result c.from_residual.ensures.1 in
    let stop = c.in_err-push_part.field-0.0 in
    let i = c.args.one.now in
    let j = c.args.other.now in
    let a : Lines = part_lines Sizes i j in
    let b : Lines = then_lines (part_lines Packages i j) (part_lines Applets i j) in
    rw (p.1, p.2) (lists_stopped stop _ _ a b c.in_err-push_part.ensures)

pub returns-in_err-push_part-2 : goal.returns-in_err-push_part-2
returns-in_err-push_part-2 g c =
    let p = err_from_is_err_and c.from_residual-in_err-push_part-2.result c.from_residual-in_err-push_part-2.ensures.1 in
    let stop = c.in_err-push_part-2.field-0.0 in
    let i = c.args.one.now in
    let j = c.args.other.now in
    let a : Lines = part_lines Sizes i j in
    let b : Lines = part_lines Packages i j in
    let d : Lines = part_lines Applets i j in
    rw (p.1, p.2) (lists_then (Err stop) _ _ _ a (then_lines b d) c.in_ok-push_part.ensures (lists_stopped stop _ _ b d c.in_err-push_part-2.ensures))

pub returns : goal.returns
returns g c =
    let i = c.args.one.now in
    let j = c.args.other.now in
    let r = c.push_part-3.result in
    let a : Lines = part_lines Sizes i j in
    let b : Lines = part_lines Packages i j in
    let d : Lines = part_lines Applets i j in
    lists_then r _ _ _ a (then_lines b d) c.in_ok-push_part.ensures (lists_then r _ _ _ b d c.in_ok-push_part-2.ensures c.push_part-3.ensures)
