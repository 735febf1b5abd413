use Rattle.std.proofs.Common.{codes}
use Rattle.std.proofs.lemmas.Result.{err_from_is_err_and}
use Rattle.jcard_texts.proofs.Known.{cut_first, both_written}
use Rattle.jcard_dump.specs.InventoryLines.{count_line, journal_line}
use Rattle.jcard_dump.proofs.inventory.write_sizes.Goals as goal

pub returns-in_err-write_count-clause-text : goal.returns-in_err-write_count-clause-text
returns-in_err-write_count-clause-text g c =
    let p = err_from_is_err_and c.from_residual.result c.from_residual.ensures.1 in
    let found = c.args.found in
    rw p.1 (cut_first _ _ (count_line (codes "words ") found.words) (journal_line found.journal found.capacity) c.in_err-write_count.ensures.text)

pub returns-clause-text : goal.returns-clause-text
returns-clause-text g c =
    let found = c.args.found in
    both_written c.write_journal.result _ _ _ (count_line (codes "words ") found.words) (journal_line found.journal found.capacity)
    c.in_ok-write_count.ensures.text c.write_journal.ensures.text
