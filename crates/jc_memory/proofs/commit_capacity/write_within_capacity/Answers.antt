use Rattle.std.proofs.Common.{arith}
use Rattle.jc_heap.specs.Moves.{refusal_of_places}
use Rattle.jc_heap.specs.Place.{places_of}
use Rattle.jc_memory.proofs.Room.{changes_left, cut_change, has_room}
use Rattle.jc_memory.proofs.commit_capacity.write_within_capacity.Goals as goal

pub returns-in-Ok-clause-left : goal.returns-in-Ok-clause-left
returns-in-Ok-clause-left g c more =
    changes_left (refusal_of_places c.args.memory.now.heap (places_of c.args.changes.now)) c.args.memory.now c.write_all.new.self
    c.args.changes.now tt tt more c.requires.plain c.in-Ok.ensures

pub returns-in-Err-clause-made : goal.returns-in-Err-clause-made
returns-in-Err-clause-made g c =
    cut_change (refusal_of_places c.args.memory.now.heap (places_of c.args.changes.now)) c.args.memory.now c.write_all.new.self
    c.args.changes.now c.in-Err.field-0
    (has_room c.args.memory.now c.args.changes.now c.requires.plain c.requires.room
    (omega (arith, c.requires.few, c.commit_capacity.ensures.exact, c.commit_capacity.ensures.least))) c.in-Err.ensures
