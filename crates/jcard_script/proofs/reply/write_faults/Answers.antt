use Rattle.std.proofs.Common.{◌++◌}
use Rattle.std.specs.Prelude.{decimal}
use Rattle.jcard_script.specs.Script.{model_word, second_text}
use Rattle.std.proofs.lemmas.Result.{err_from_is_err_and}
use Rattle.jcard_texts.proofs.Known.{appends_then_appends, both_written, cut_first, cut_second}
use Rattle.jcard_script.proofs.reply.write_faults.Goals as goal

pub returns-in_err-write_all-clause-text : goal.returns-in_err-write_all-clause-text
returns-in_err-write_all-clause-text g c =
    let p = err_from_is_err_and c.from_residual.result c.from_residual.ensures.1 in
    let both = cut_first _ _ (decimal c.args.fault.instruction) (model_word c.args.fault.model) (rw (c.as_bytes.ensures.value, c.format.ensures.text) at c.in_err-write_all.ensures.text) in
    rw p.1 (cut_first _ _ (decimal c.args.fault.instruction ++ model_word c.args.fault.model) (second_text c.args.fault.second) both)

pub returns-in_err-write_all-2-clause-text : goal.returns-in_err-write_all-2-clause-text
returns-in_err-write_all-2-clause-text g c =
    let p = err_from_is_err_and c.from_residual-in_err-write_all-2.result c.from_residual-in_err-write_all-2.ensures.1 in
    let both = cut_second _ _ _ (decimal c.args.fault.instruction) (model_word c.args.fault.model) (rw (c.as_bytes.ensures.value, c.format.ensures.text) at c.in_ok-write_all.ensures.text)
    (rw c.model_word.ensures at c.in_err-write_all-2.ensures.text) in
    rw p.1 (cut_first _ _ (decimal c.args.fault.instruction ++ model_word c.args.fault.model) (second_text c.args.fault.second) both)

pub returns-clause-text : goal.returns-clause-text
returns-clause-text g c =
    let both = appends_then_appends _ _ _ (decimal c.args.fault.instruction) (model_word c.args.fault.model) (rw (c.as_bytes.ensures.value, c.format.ensures.text) at c.in_ok-write_all.ensures.text)
    (rw c.model_word.ensures at c.in_ok-write_all-2.ensures.text) in
    both_written c.write_second.result _ _ _ (decimal c.args.fault.instruction ++ model_word c.args.fault.model) (second_text c.args.fault.second) both c.write_second.ensures.text
