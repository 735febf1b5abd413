use Rattle.std.proofs.Common.{codes}
use Rattle.std.proofs.lemmas.Result.{err_from_is_err_and}
use Rattle.jcard_texts.proofs.Known.{cut_first, both_written}
use Rattle.jcard_dump.specs.InventoryLines.{name_text, version_line}
use Rattle.jcard_dump.proofs.inventory_lines.write_package.Goals as goal

pub returns-in_err-write_name-clause-text : goal.returns-in_err-write_name-clause-text
returns-in_err-write_name-clause-text g c =
    let p = err_from_is_err_and c.from_residual.result c.from_residual.ensures.1 in
    let v = c.args.named.now in
    rw p.1 (cut_first _ _ (name_text (codes "package ") c.args.number v.aid) (version_line v.major_version v.minor_version)
    (rw c.aid.ensures.value at c.in_err-write_name.ensures.text))

pub returns-clause-text : goal.returns-clause-text
returns-clause-text g c =
    let v = c.args.named.now in
    both_written c.write_version.result _ _ _ (name_text (codes "package ") c.args.number v.aid) (version_line v.major_version v.minor_version)
    (rw c.aid.ensures.value at c.in_ok-write_name.ensures.text) (rw (c.major_version.ensures, c.minor_version.ensures) at c.write_version.ensures.text)
