use Rattle.std.proofs.Common.{refl, inl}
use Rattle.jcard_sweeps.proofs.RunFaults.{cause_passed_on}
use Rattle.jcard_tear.proofs.target_cuts.cut_each_in.Goals as goal

pub returns-in_err-name : goal.returns-in_err-name
returns-in_err-name g c = cause_passed_on _ _ c.from_residual.result _ c.from_residual.ensures.1 (inl refl)
