use Rattle.std.proofs.Common.{arith}
use Rattle.jc_memory.specs.Making.{creation_refusal}
use Rattle.jc_memory.proofs.Room.{made_object, object_allowed, object_left, cut_object}
use Rattle.jc_memory.proofs.commit_capacity.make_within_capacity.Goals as goal

pub returns-in-Ok-clause-new : goal.returns-in-Ok-clause-new
returns-in-Ok-clause-new g c =
    (made_object (creation_refusal c.args.memory.now c.args.object) c.args.memory.now c.make.new.self c.args.object c.in-Ok.made c.requires.persistent
    c.in-Ok.ensures).0

pub returns-in-Ok-clause-kept : goal.returns-in-Ok-clause-kept
returns-in-Ok-clause-kept g c =
    (made_object (creation_refusal c.args.memory.now c.args.object) c.args.memory.now c.make.new.self c.args.object c.in-Ok.made c.requires.persistent
    c.in-Ok.ensures).1

pub returns-in-Ok-clause-rest : goal.returns-in-Ok-clause-rest
returns-in-Ok-clause-rest g c =
    (made_object (creation_refusal c.args.memory.now c.args.object) c.args.memory.now c.make.new.self c.args.object c.in-Ok.made c.requires.persistent
    c.in-Ok.ensures).2

pub returns-in-Ok-clause-left : goal.returns-in-Ok-clause-left
returns-in-Ok-clause-left g c more put room =
    object_left (creation_refusal c.args.memory.now c.args.object) c.args.memory.now c.make.new.self c.args.object c.in-Ok.made more c.requires.persistent
    put c.in-Ok.ensures room

pub returns-in-Err-clause-made : goal.returns-in-Err-clause-made
returns-in-Err-clause-made g c =
    let s = c.args.memory.now in
    cut_object c.args.object.event (creation_refusal s c.args.object) s c.make.new.self c.args.object c.in-Err.field-0 c.requires.persistent
    (object_allowed s c.args.object c.requires.persistent c.requires.space c.requires.room
    (omega (arith, c.commit_capacity.ensures.exact, c.commit_capacity.ensures.least))) c.in-Err.ensures
