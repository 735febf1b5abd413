use Rattle.std.proofs.Common.{◌∙◌, codes, decimal}
use Rattle.std.proofs.lemmas.Result.{err_from_is_err_and}
use Rattle.jcard_texts.proofs.Known.{cut_first, both_written}
use Rattle.jcard_dump.specs.InventoryLines.{count_line}
use Rattle.jcard_dump.proofs.inventory_lines.write_version.Goals as goal

pub returns-in_err-write_all-clause-text : goal.returns-in_err-write_all-clause-text
returns-in_err-write_all-clause-text g c =
    let p = err_from_is_err_and c.from_residual.result c.from_residual.ensures.1 in
    let number = c.as_bytes.ensures.value ∙ c.format.ensures.text in
    rw p.1 (cut_first _ _ (decimal c.args.major) (count_line (codes ".") c.args.minor) (rw number at c.in_err-write_all.ensures.text))

pub returns-clause-text : goal.returns-clause-text
returns-clause-text g c =
    let first = c.as_bytes.ensures.value ∙ c.format.ensures.text in
    let second = c.as_bytes-2.ensures.value ∙ c.format-2.ensures.text in
    both_written c.write_parts.result _ _ _ (decimal c.args.major) (count_line (codes ".") c.args.minor)
    (rw first at c.in_ok-write_all.ensures.text) (rw second at c.write_parts.ensures.text)
