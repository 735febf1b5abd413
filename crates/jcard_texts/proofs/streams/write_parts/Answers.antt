use Rattle.std.proofs.Common.{◌++◌}
use Rattle.std.proofs.lemmas.Result.{err_from_is_err_and}
use Rattle.jcard_texts.proofs.Known.{cut_first, cut_second, both_written, appends_then_appends}
use Rattle.jcard_texts.proofs.streams.write_parts.Goals as goal

pub returns-in_err-write_all-clause-text : goal.returns-in_err-write_all-clause-text
returns-in_err-write_all-clause-text g c =
    let p = err_from_is_err_and c.from_residual.result c.from_residual.ensures.1 in
    let both = cut_first _ _ c.args.first.now c.args.second.now c.in_err-write_all.ensures.text in
    rw p.1 (cut_first _ _ (c.args.first.now ++ c.args.second.now) c.args.third.now both)

pub returns-in_err-write_all-2-clause-text : goal.returns-in_err-write_all-2-clause-text
returns-in_err-write_all-2-clause-text g c =
    let p = err_from_is_err_and c.from_residual-in_err-write_all-2.result c.from_residual-in_err-write_all-2.ensures.1 in
    let both = cut_second _ _ _ c.args.first.now c.args.second.now c.in_ok-write_all.ensures.text c.in_err-write_all-2.ensures.text in
    rw p.1 (cut_first _ _ (c.args.first.now ++ c.args.second.now) c.args.third.now both)

pub returns-clause-text : goal.returns-clause-text
returns-clause-text g c =
    let both = appends_then_appends _ _ _ c.args.first.now c.args.second.now c.in_ok-write_all.ensures.text c.in_ok-write_all-2.ensures.text in
    both_written c.write_all-3.result _ _ _ (c.args.first.now ++ c.args.second.now) c.args.third.now both c.write_all-3.ensures.text
