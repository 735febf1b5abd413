use Rattle.jcard_sweeps.proofs.join.join_bodies.Goals as goal

pub returns-in-Cuts : goal.returns-in-Cuts
returns-in-Cuts g c = rw c.in-Cuts.is c.join_cuts.ensures

pub returns-in-Commands : goal.returns-in-Commands
returns-in-Commands g c = rw c.in-Commands.is c.join_commands.ensures
