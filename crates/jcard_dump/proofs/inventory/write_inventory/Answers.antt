use Rattle.std.proofs.Common.{◌++◌, codes}
use Rattle.std.proofs.lemmas.Result.{err_from_is_err_and}
use Rattle.jcard_texts.proofs.Known.{cut_first, both_written}
use Rattle.jcard_dump.specs.Inventory.{sizes_of}
use Rattle.jcard_dump.specs.InventoryLines.{count_line}
use Rattle.jcard_dump.proofs.inventory.write_inventory.Goals as goal

pub returns-in_err-write_sizes-clause-text : goal.returns-in_err-write_sizes-clause-text
returns-in_err-write_sizes-clause-text g c =
    let p = err_from_is_err_and c.from_residual.result c.from_residual.ensures.1 in
    let found = c.args.found in
    rw p.1 (cut_first _ _ (sizes_of found) (count_line (codes "packages ") found.packages ++ count_line (codes "applets ") found.applets)
    c.in_err-write_sizes.ensures.text)

pub returns-clause-text : goal.returns-clause-text
returns-clause-text g c =
    let found = c.args.found in
    both_written c.write_counts.result _ _ _ (sizes_of found) (count_line (codes "packages ") found.packages ++ count_line (codes "applets ") found.applets)
    c.in_ok-write_sizes.ensures.text c.write_counts.ensures.text
