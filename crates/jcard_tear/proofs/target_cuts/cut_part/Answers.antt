use Rattle.std.proofs.Common.{refl, inl}
use Rattle.jcard_sweeps.proofs.RunFaults.{cause_passed_on}
use Rattle.jcard_tear.proofs.target_cuts.cut_part.Goals as goal

pub returns-in_err-part : goal.returns-in_err-part
returns-in_err-part g c = cause_passed_on _ _ c.from_residual.result _ c.from_residual.ensures.1 c.in_err-part.ensures.swept

pub returns-in_err-text : goal.returns-in_err-text
returns-in_err-text g c = cause_passed_on _ _ c.from_residual-in_err-text.result _ c.from_residual-in_err-text.ensures.1 (inl tt)

pub returns : goal.returns
returns g c = (c.in_ok-part.part, c.in_ok-part.ensures.swept, (c.in_ok-text.ensures, refl))
