use Rattle.std.proofs.Common.{◌∙◌, ap, refl, inl}
use Rattle.jcard_outcomes.specs.Report.{verdicts_text}
use Rattle.jcard_sweeps.proofs.RunFaults.{cause_passed_on}
use Rattle.jcard_tear.proofs.target_cuts.cut_each.Goals as goal

pub returns-in_err-sweeps : goal.returns-in_err-sweeps
returns-in_err-sweeps g c = cause_passed_on _ _ c.from_residual.result _ c.from_residual.ensures.1 c.in_err-sweeps.ensures

pub returns-in_err-text : goal.returns-in_err-text
returns-in_err-text g c = cause_passed_on _ _ c.from_residual-in_err-text.result _ c.from_residual-in_err-text.ensures.1 (inl refl)

pub returns : goal.returns
returns g c = (
  c.in_ok-sweeps.sweeps.items,
  c.are_all_or_nothing.result,
  c.in_ok-sweeps.ensures,
  rw c.deref-2.ensures.value at c.are_all_or_nothing.ensures,
  (c.in_ok-text.ensures ∙ ap (verdicts_text c.args.cutting.follow_up.behind.objects) c.deref.ensures.value, refl),
)
