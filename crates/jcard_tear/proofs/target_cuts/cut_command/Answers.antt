use Rattle.std.proofs.Common.{◌∙◌, ap, inl}
use Rattle.jcard_outcomes.specs.Report.{are_whole}
use Rattle.jcard_sweeps.proofs.RunFaults.{cause_passed_on}
use Rattle.jcard_tear.proofs.target_cuts.cut_command.Goals as goal

pub returns-in_err-sweep : goal.returns-in_err-sweep
returns-in_err-sweep g c = cause_passed_on _ _ c.from_residual.result _ c.from_residual.ensures.1 c.in_err-sweep.ensures

pub returns-in_err-text : goal.returns-in_err-text
returns-in_err-text g c = cause_passed_on _ _ c.from_residual-in_err-text.result _ c.from_residual-in_err-text.ensures.1 (inl tt)

pub returns : goal.returns
returns g c = (c.in_ok-sweep.sweep, c.in_ok-sweep.ensures, (c.in_ok-text.ensures, c.is_all_or_nothing.ensures ∙ ap are_whole c.deref.ensures.value))
