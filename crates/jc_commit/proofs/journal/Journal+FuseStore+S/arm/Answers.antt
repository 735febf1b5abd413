use Rattle.jc_commit.proofs.Changing.{shut_of}
use Rattle.jc_commit.proofs.journal.Journal+FuseStore+S.arm.Goals as goal

pub returns-clause-saved : goal.returns-clause-saved
returns-clause-saved g c = (shut_of c.self.invariant c.self.view_is c.requires.up c.requires.outside).saved

pub returns-clause-none : goal.returns-clause-none
returns-clause-none g c = (shut_of c.self.invariant c.self.view_is c.requires.up c.requires.outside).untouched
