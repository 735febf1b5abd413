use Rattle.jcard_tear.proofs.target_cuts.cut.Goals as goal

pub returns-in-Command : goal.returns-in-Command
returns-in-Command g c = rw c.in-Command.is c.cut_command.ensures

pub returns-in-CommandPart : goal.returns-in-CommandPart
returns-in-CommandPart g c = rw c.in-CommandPart.is c.cut_part.ensures

pub returns-in-Each : goal.returns-in-Each
returns-in-Each g c = rw c.in-Each.is c.cut_each.ensures

pub cut_each_in-requires-clause-among : goal.cut_each_in-requires-clause-among
cut_each_in-requires-clause-among g c = rw c.in-EachPart.is at c.requires.among

pub returns-in-EachPart : goal.returns-in-EachPart
returns-in-EachPart g c = rw c.in-EachPart.is c.cut_each_in.ensures
