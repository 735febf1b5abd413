use Rattle.std.proofs.Common.{[], ◌++◌, ◌∙◌, ap, refl, inl, inr, subst, sym, Err, Ok, ℕ}
use Rattle.std.proofs.lemmas.Result.{err_from_is_err_and}
use Rattle.jc_words.specs.Count.{failures_after}
use Rattle.jcard_texts.proofs.Known.{appends_same}
use Rattle.jcard_commands.specs.ScriptRun.{IsRun}
use Rattle.jcard_files.proofs.Effects.{unfailed}
use Rattle.jcard_commands.proofs.script_run.run_with.Goals as goal

pub returns-in_err-names : goal.returns-in_err-names
returns-in_err-names g c =
    let p = err_from_is_err_and c.from_residual.result c.from_residual.ensures.1 in
    let read = c.in_err-names.ensures.read in
    rw (p.1, p.2) (
      ([], read.0, appends_same _, inl (c.in_err-names.field-0.0, refl, refl, read.2), read.1),
      unfailed _ c.in_err-names.field-0.0 c.in_err-names.ensures.unwritten,
    )

pub returns-in_err-begin_cover : goal.returns-in_err-begin_cover
returns-in_err-begin_cover g c =
    let p = err_from_is_err_and c.from_residual-in_err-begin_cover.result c.from_residual-in_err-begin_cover.ensures.1 in
    let read = c.in_ok-names.ensures.read in
    let begun = c.in_err-begin_cover.ensures.begun in
    rw (p.1, p.2) (
      (
        [],
        read.0 ++ (begun.0 ++ []),
        appends_same _,
        inr (
          Err c.in_err-begin_cover.field-0.0,
          read.0,
          begun.0,
          [],
          c.operands_of-operands.result,
          read.2,
          c.operands_of-operands.ensures,
          begun.2,
          (refl, refl, refl),
          refl,
        ),
        g.met.D.Disk.then _ _ _ read.0 (begun.0 ++ []) read.1 (g.met.D.Disk.then _ _ _ begun.0 [] begun.1 (g.met.D.Disk.none _)),
      ),
      unfailed _ c.in_err-begin_cover.field-0.0 c.in_err-begin_cover.ensures.unwritten,
    )

pub returns : goal.returns
returns g c =
    let read = c.in_ok-names.ensures.read in
    let begun = c.in_ok-begin_cover.ensures.begun in
    let done = c.run_file-ran.ensures.0 in
    let kept = c.keep_cover.ensures.kept in
    let ran = subst (λ (budget : ℕ). IsRun budget c.args.image.now c.args.script.now c.run_file-ran.result done.0 done.1) c.unwrap_or-budget.ensures done.3 in (
      (
        done.0,
        read.0 ++ (begun.0 ++ (done.1 ++ kept.0)),
        done.2,
        inr (
          Ok tt,
          read.0,
          begun.0,
          done.1 ++ kept.0,
          c.operands_of-operands.result,
          read.2,
          c.operands_of-operands.ensures,
          begun.2,
          (c.run_file-ran.result, c.compared-compared.result, done.1, kept.0, ran, c.compared-compared.ensures.compared, kept.2, refl),
          refl,
        ),
        g.met.D.Disk.then _ _ _ read.0 (begun.0 ++ (done.1 ++ kept.0)) read.1
            (g.met.D.Disk.then _ _ _ begun.0 (done.1 ++ kept.0) begun.1 (g.met.D.Disk.then _ _ _ done.1 kept.0 done.4 kept.1)),
      ),
      c.run_file-ran.ensures.1
          ∙ sym (ap (failures_after (g.W.TextOut.failures c.args.out.now)) (c.keep_cover.ensures.unwritten ∙ c.compared-compared.ensures.unwritten)),
    )
