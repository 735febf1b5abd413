use Rattle.std.proofs.Common.{[], ◌++◌, ◌∙◌, codes, decimal}
use Rattle.std.proofs.lemmas.Result.{err_from_is_err_and}
use Rattle.jcard_texts.proofs.Known.{cut_first, both_written}
use Rattle.jcard_dump.specs.InventoryLines.{count_line}
use Rattle.jcard_dump.proofs.inventory.write_journal.Goals as goal

pub returns-in_err-write_parts-clause-text : goal.returns-in_err-write_parts-clause-text
returns-in_err-write_parts-clause-text g c =
    let p = err_from_is_err_and c.from_residual.result c.from_residual.ensures.1 in
    let number = c.as_bytes.ensures.value ∙ c.format.ensures.text in
    rw p.1 (cut_first _ _ (codes "journal " ++ decimal c.args.count ++ codes " of ") (count_line [] c.args.capacity)
    (rw number at c.in_err-write_parts.ensures.text))

pub returns-clause-text : goal.returns-clause-text
returns-clause-text g c =
    let number = c.as_bytes.ensures.value ∙ c.format.ensures.text in
    both_written c.write_count.result _ _ _ (codes "journal " ++ decimal c.args.count ++ codes " of ") (count_line [] c.args.capacity)
    (rw number at c.in_ok-write_parts.ensures.text) c.write_count.ensures.text
