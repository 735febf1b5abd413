use Rattle.std.proofs.Common.{arith}
use Rattle.jc_commit.proofs.WordRuns.{viewed_length}
use Rattle.jc_commit.proofs.changes.WordRunWordChanges.count.Goals as goal

pub returns-clause-all : goal.returns-clause-all
returns-clause-all c = omega (arith, viewed_length c.self.inside.first c.self.inside.words.now c.args.self.now c.self.view_is)

pub returns-clause-few : goal.returns-clause-few
returns-clause-few c = omega (arith, c.self.invariant.2)
