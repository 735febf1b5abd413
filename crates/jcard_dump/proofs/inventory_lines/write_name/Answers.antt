use Rattle.std.proofs.Common.{◌++◌, ◌∙◌, codes, decimal}
use Rattle.std.proofs.lemmas.Result.{err_from_is_err_and}
use Rattle.hex.specs.Hex.{encode_upper}
use Rattle.jcard_texts.proofs.Known.{cut_first, both_written}
use Rattle.jcard_dump.proofs.inventory_lines.write_name.Goals as goal

pub returns-in_err-write_parts-clause-text : goal.returns-in_err-write_parts-clause-text
returns-in_err-write_parts-clause-text g c =
    let p = err_from_is_err_and c.from_residual.result c.from_residual.ensures.1 in
    let number = c.as_bytes.ensures.value ∙ c.format.ensures.text in
    rw p.1 (cut_first _ _ (c.args.name.now ++ decimal c.args.number ++ codes " ") (encode_upper c.args.aid.now ++ codes " ")
    (rw number at c.in_err-write_parts.ensures.text))

pub returns-clause-text : goal.returns-clause-text
returns-clause-text g c =
    let number = c.as_bytes.ensures.value ∙ c.format.ensures.text in
    both_written c.write_aid.result _ _ _ (c.args.name.now ++ decimal c.args.number ++ codes " ") (encode_upper c.args.aid.now ++ codes " ")
    (rw number at c.in_ok-write_parts.ensures.text) c.write_aid.ensures.text
