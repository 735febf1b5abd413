use Rattle.jc_cap.proofs.Named.{found}
use Rattle.jc_cap.proofs.assembling.Package.of.Goals as goal

pub returns-clause-found : goal.returns-clause-found
returns-clause-found c = found c.args.load c.assembled.result c.assembled.ensures
