use Rattle.std.proofs.Common.{refl, inl}
use Rattle.jc_packages.specs.LoadEnd.{assembly_result}
use Rattle.jc_packages.proofs.Assembled.{linked_is, refused_is}
use Rattle.jc_packages.proofs.load_end.assemble_and_add.Goals as goal

pub returns-in-Ok : goal.returns-in-Ok
unfolding assembly_result
returns-in-Ok g c = rw (linked_is c.args.linked.now c.args.load c.in-Ok.whole c.in-Ok.ensures.exact) c.link_and_add.ensures

pub returns-in-Err : goal.returns-in-Err
unfolding assembly_result
returns-in-Err g c = rw (refused_is c.args.linked.now c.args.load c.in-Err.fault c.in-Err.ensures.exact) (inl (refl, refl))
