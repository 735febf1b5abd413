use Rattle.std.proofs.lemmas.Result.{err_from_is_err_and}
use Rattle.jcard_texts.proofs.Known.{cut_first, both_written}
use Rattle.jcard_dump.specs.InventoryLines.{count_line}
use Rattle.jcard_dump.proofs.inventory.write_counts.Goals as goal

pub returns-in_err-write_count-clause-text : goal.returns-in_err-write_count-clause-text
returns-in_err-write_count-clause-text g c =
    let p = err_from_is_err_and c.from_residual.result c.from_residual.ensures.1 in
    rw p.1 (cut_first _ _ (count_line c.args.first.0.now c.args.first.1) (count_line c.args.second.0.now c.args.second.1) c.in_err-write_count.ensures.text)

pub returns-clause-text : goal.returns-clause-text
returns-clause-text g c =
    both_written c.write_count-2.result _ _ _ (count_line c.args.first.0.now c.args.first.1) (count_line c.args.second.0.now c.args.second.1)
    c.in_ok-write_count.ensures.text c.write_count-2.ensures.text
