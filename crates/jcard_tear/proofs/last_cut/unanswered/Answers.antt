use Rattle.jcard_sweeps.proofs.RunFaults.{run_left}
use Rattle.jcard_tear.proofs.CutFaults.{left_probed}
use Rattle.jcard_tear.proofs.last_cut.unanswered.Goals as goal

pub returns-in-Err : goal.returns-in-Err
returns-in-Err c = left_probed c.args.budget c.args.probe.now c.in-Err.fault (run_left c.args.budget c.args.words.now c.args.probe.now c.in-Err.fault c.in-Err.ensures.ran)
    c.probe_fault.result c.probe_fault.ensures
