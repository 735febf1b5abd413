use Rattle.std.proofs.Common.{◌∙◌, ◌++◌}
use Rattle.std.specs.Prelude.{codes, decimal}
use Rattle.std.proofs.lemmas.Result.{err_from_is_err_and}
use Rattle.jcard_texts.proofs.Known.{both_written, cut_first}
use Rattle.jcard_files.proofs.fault.write_unincluded.Goals as goal

pub returns-in_err-write_parts-clause-text : goal.returns-in_err-write_parts-clause-text
returns-in_err-write_parts-clause-text g c =
    let p = err_from_is_err_and c.from_residual.result c.from_residual.ensures.1 in
    let first = codes "jcard: " ++ c.args.path.now ++ codes ": line " in
    let second = decimal c.args.number ++ codes ": cannot read the file that is included" ++ codes "\n" in
    let value = c.as_bytes.ensures.value in
    rw p.1 (cut_first _ _ first second (rw value at c.in_err-write_parts.ensures.text))

pub returns-clause-text : goal.returns-clause-text
returns-clause-text g c =
    let first = codes "jcard: " ++ c.args.path.now ++ codes ": line " in
    let second = decimal c.args.number ++ codes ": cannot read the file that is included" ++ codes "\n" in
    let value = c.as_bytes.ensures.value in
    let number = c.as_bytes-2.ensures.value ∙ c.format.ensures.text in
    both_written c.write_parts-2.result _ _ _ first second (rw value at c.in_ok-write_parts.ensures.text) (rw number at c.write_parts-2.ensures.text)
