use Rattle.jcard_attack.proofs.target_attacks.told_by.Goals as goal

pub told_part-requires-clause-among : goal.told_part-requires-clause-among
told_part-requires-clause-among g c = rw c.in-CommandPart.is at c.requires.among

pub returns-in-CommandPart : goal.returns-in-CommandPart
returns-in-CommandPart g c = rw c.in-CommandPart.is c.told_part.ensures
