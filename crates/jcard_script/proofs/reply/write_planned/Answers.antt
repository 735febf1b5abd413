use Rattle.std.proofs.Common.{◌++◌}
use Rattle.std.specs.Prelude.{codes}
use Rattle.jcard_script.specs.Script.{faults_text}
use Rattle.std.proofs.lemmas.Result.{err_from_is_err_and}
use Rattle.jcard_texts.proofs.Known.{appends_then_appends, both_written, cut_first, cut_second}
use Rattle.jcard_script.proofs.reply.write_planned.Goals as goal

pub returns-in_err-write_all-clause-text : goal.returns-in_err-write_all-clause-text
returns-in_err-write_all-clause-text g c =
    let p = err_from_is_err_and c.from_residual.result c.from_residual.ensures.1 in
    let both = cut_first _ _ (codes "planned ") (faults_text c.args.fault) c.in_err-write_all.ensures.text in
    rw p.1 (cut_first _ _ (codes "planned " ++ faults_text c.args.fault) (codes "\n") both)

pub returns-in_err-write_faults-clause-text : goal.returns-in_err-write_faults-clause-text
returns-in_err-write_faults-clause-text g c =
    let p = err_from_is_err_and c.from_residual-in_err-write_faults.result c.from_residual-in_err-write_faults.ensures.1 in
    let both = cut_second _ _ _ (codes "planned ") (faults_text c.args.fault) c.in_ok-write_all.ensures.text
    c.in_err-write_faults.ensures.text in
    rw p.1 (cut_first _ _ (codes "planned " ++ faults_text c.args.fault) (codes "\n") both)

pub returns-clause-text : goal.returns-clause-text
returns-clause-text g c =
    let both = appends_then_appends _ _ _ (codes "planned ") (faults_text c.args.fault) c.in_ok-write_all.ensures.text
    c.in_ok-write_faults.ensures.text in
    both_written c.write_all-2.result _ _ _ (codes "planned " ++ faults_text c.args.fault) (codes "\n") both c.write_all-2.ensures.text
