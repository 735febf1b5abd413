use Rattle.std.proofs.Common.{◌∙◌, sym}
use Rattle.jcard_attack.proofs.part_files.join_named.Goals as goal

pub returns-then-is_of_faults : goal.returns-then-is_of_faults
returns-then-is_of_faults g c = rw (sym c.is_of_faults.ensures ∙ c.if-is_of_faults.true) c.join_faults.ensures

pub returns : goal.returns
returns g c = rw (sym c.is_of_faults.ensures ∙ c.if-is_of_faults.false, sym c.kind_of.ensures) c.join_bodies.ensures
