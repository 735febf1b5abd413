use Rattle.jc_heap.specs.Heap.{facts}
use Rattle.jc_heap.specs.Moves.{refusal_of_cells}
use Rattle.jc_api.proofs.States.{state_stays}
use Rattle.jc_api.proofs.changing.change_state_and_put.Goals as goal

pub set_state-requires-clause-there : goal.set_state-requires-clause-there
set_state-requires-clause-there g c =
    let m = c.args.memory.now in
    let e = c.args.to in
    state_stays (facts m.heap.now e.array).event (refusal_of_cells m.heap e.array e.start c.args.bytes.now) m c.put.new.memory e.array e.start
    c.args.bytes.now c.in_ok-state.state c.in_ok-state.ensures.there c.in_ok-put.ensures
