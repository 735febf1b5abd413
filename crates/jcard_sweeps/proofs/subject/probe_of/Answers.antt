use Rattle.std.proofs.Common.{[], refl}
use Rattle.std.proofs.lemmas.Result.{err_from_is_err_and}
use Rattle.jcard_sweeps.proofs.subject.probe_of.Goals as goal

pub returns-in_default-clause-read : goal.returns-in_default-clause-read
returns-in_default-clause-read g c = ([], g.met.D.Disk.none c.args.disk.now, rw c.in_default.is (refl, refl))

pub returns-in_err-text-clause-read : goal.returns-in_err-text-clause-read
returns-in_err-text-clause-read g c =
    let read = c.in_err-text.ensures.read in
    let p = err_from_is_err_and c.from_residual.result c.from_residual.ensures.1 in
    rw (p.1, p.2, c.in-Some.is) (read.0, read.1, read.2)

pub returns-clause-read : goal.returns-clause-read
returns-clause-read g c =
    let read = c.in_ok-text.ensures.read in
    (read.0, read.1, rw c.in-Some.is (c.in_ok-text.text.items, refl, read.2))
