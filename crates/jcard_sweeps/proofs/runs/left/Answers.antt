use Rattle.std.proofs.Common.{◌∙◌, ℕ, List, ap, sym, subst}
use Rattle.jc_commit.specs.Image.{recovered_of}
use Rattle.jc_commit.specs.Migration.{migrated}
use Rattle.jcard_sweeps.specs.Faults.{IsLogFault}
use Rattle.jcard_sweeps.specs.Runs.{IsRunFault}
use Rattle.jcard_sweeps.proofs.RunFaults.{log_left, memory_left, passed_on, run_left}
use Rattle.jcard_sweeps.proofs.runs.left.Goals as goal

pub returns : goal.returns
returns c =
    let same = c.deref.ensures.value in
    let probed = c.in_ok-probed.ensures.ran in
    (probed.0, c.in_ok-found.ensures.heap ∙ ap (λ (w : List ℕ). migrated 3 (recovered_of w)) (c.in_ok-copy.ensures.items ∙ same), probed.1, c.in_ok-found.ensures.recovered)

pub returns-in_err-copy : goal.returns-in_err-copy
returns-in_err-copy c = passed_on _ _ c.from_residual.result c.from_residual.ensures.1 (λ fault e. memory_left c.args.budget c.args.probe.now fault e)

pub returns-in_err-found : goal.returns-in_err-found
returns-in_err-found c = passed_on _ _ c.from_residual-in_err-found.result c.from_residual-in_err-found.ensures.1
    (λ fault e. log_left c.args.budget c.args.probe.now fault (subst IsLogFault (sym e) c.in_err-found.ensures.heap))

pub returns-in_err-probed : goal.returns-in_err-probed
returns-in_err-probed c = passed_on _ _ c.from_residual-in_err-probed.result c.from_residual-in_err-probed.ensures.1
    (λ fault e. run_left c.args.budget c.args.words.items c.args.probe.now fault
    (subst (IsRunFault c.args.budget c.args.words.items c.args.probe.now) (sym e) c.in_err-probed.ensures.ran))
