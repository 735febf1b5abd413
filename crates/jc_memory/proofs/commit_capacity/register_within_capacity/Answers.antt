use Rattle.std.proofs.Common.{arith}
use Rattle.jc_heap.specs.Place.{applet_changes}
use Rattle.jc_heap.specs.Moves.{applet_move, refusal_of_applet}
use Rattle.jc_memory.proofs.Room.{changes_left, cut_applet, has_room}
use Rattle.jc_memory.proofs.commit_capacity.register_within_capacity.Goals as goal

pub returns-in-Ok-clause-left : goal.returns-in-Ok-clause-left
returns-in-Ok-clause-left g c more =
    let s = c.args.memory.now in
    changes_left (refusal_of_applet s.heap c.args.entry) s c.add_applet.new.self (applet_changes s.heap.now c.args.entry) s.heap.now.counts.1 _ more
    (tt, (tt, (tt, (tt, tt)))) c.in-Ok.ensures

pub returns-in-Err-clause-made : goal.returns-in-Err-clause-made
returns-in-Err-clause-made g c =
    let s = c.args.memory.now in
    cut_applet (refusal_of_applet s.heap c.args.entry) s c.add_applet.new.self (applet_move s.heap.now c.args.entry) s.heap.now.counts.1 c.in-Err.field-0
    (has_room s (applet_changes s.heap.now c.args.entry) (tt, (tt, (tt, (tt, tt)))) c.requires.room (omega (arith, c.commit_capacity.ensures.exact, c.commit_capacity.ensures.least)))
    c.in-Err.ensures
