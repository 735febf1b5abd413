use Rattle.std.proofs.Common.{refl, inl, subst}
use Rattle.std.proofs.lemmas.Result.{MatchResult-weaker}
use Rattle.jcard_tear.specs.Faults.{IsCarriedOut}
use Rattle.jcard_sweeps.specs.Runs.{IsLeft}
use Rattle.jcard_sweeps.proofs.RunFaults.{passed_on}
use Rattle.jcard_tear.proofs.CutFaults.{probe_uncut, run_uncut}
use Rattle.jcard_tear.proofs.sweep.begun.Goals as goal

pub returns-in_err-ran : goal.returns-in_err-ran
returns-in_err-ran c = passed_on _ _ c.from_residual.result c.from_residual.ensures.1
    (λ fault e step. run_uncut c.args.words.now c.args.command step c.args.command.before.now c.in_err-ran.field-0.0 fault (inl refl) c.in_err-ran.ensures.ran e)

pub returns : goal.returns
returns c =
    let ran = c.in_ok-ran.ensures.ran in
    let carried : IsCarriedOut c.args.words.now c.args.command = (c.args.command.before.now, c.in_ok-ran.ran.text.items, ran.0, inl refl, ran.1) in
    MatchResult-weaker c.left_known.result c.left_known.ensures
    (λ r is. (
      (c.in_ok-ran.ran.text.items, ran.0, ran.1, subst (λ w. IsLeft c.args.command.behind.instructions w c.args.command.probe.now r.0) ran.2 is.0),
      is.1,
    ))
    (λ fault is step. probe_uncut c.args.words.now c.args.command step fault carried is)
