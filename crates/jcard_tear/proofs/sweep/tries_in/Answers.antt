use Rattle.jcard_sweeps.proofs.RunFaults.{memory_imaged, passed_on}
use Rattle.jcard_tear.proofs.sweep.tries_in.Goals as goal

pub returns-in_err-copy : goal.returns-in_err-copy
returns-in_err-copy c = passed_on _ _ c.from_residual.result c.from_residual.ensures.1 memory_imaged
