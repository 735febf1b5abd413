use Rattle.jcard_tear.proofs.CutFaults.{left_probed}
use Rattle.jcard_tear.proofs.sweep.left_by_probe.Goals as goal

pub returns-in-Err : goal.returns-in-Err
returns-in-Err c = left_probed c.args.budget c.args.probe.now c.in-Err.fault c.in-Err.ensures c.probe_fault.result c.probe_fault.ensures
