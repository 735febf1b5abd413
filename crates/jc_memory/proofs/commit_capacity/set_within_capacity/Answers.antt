use Rattle.std.proofs.Common.{arith}
use Rattle.jc_heap.specs.Heap.{facts}
use Rattle.jc_heap.specs.Moves.{refusal_of_cells}
use Rattle.jc_memory.proofs.Room.{cut_run, has_run_room, run_left, run_rest}
use Rattle.jc_memory.proofs.commit_capacity.set_within_capacity.Goals as goal

pub returns-in-Ok-clause-left : goal.returns-in-Ok-clause-left
returns-in-Ok-clause-left g c more =
    let s = c.args.memory.now in
    run_left (facts s.heap.now c.args.object).event (refusal_of_cells s.heap c.args.object c.args.i c.args.words.now) s c.set_run.new.self c.args.object
    c.args.i c.args.words.now more
    c.requires.persistent c.requires.plain c.in-Ok.ensures

pub returns-in-Err-clause-made : goal.returns-in-Err-clause-made
returns-in-Err-clause-made g c =
    let s = c.args.memory.now in
    cut_run (facts s.heap.now c.args.object).event (refusal_of_cells s.heap c.args.object c.args.i c.args.words.now) s c.set_run.new.self c.args.object c.args.i
    c.args.words.now c.in-Err.field-0
    c.requires.persistent (has_run_room s c.args.object c.args.i c.args.words.now c.requires.plain c.requires.room
    (omega (arith, c.requires.few, c.commit_capacity.ensures.exact, c.commit_capacity.ensures.least))) c.in-Err.ensures

pub returns-in-Ok-clause-rest : goal.returns-in-Ok-clause-rest
returns-in-Ok-clause-rest g c =
    let s = c.args.memory.now in
    run_rest (facts s.heap.now c.args.object).event (refusal_of_cells s.heap c.args.object c.args.i c.args.words.now) s c.set_run.new.self c.args.object
    c.args.i c.args.words.now
    c.requires.persistent c.in-Ok.ensures
