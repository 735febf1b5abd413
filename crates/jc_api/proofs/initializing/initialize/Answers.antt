use Rattle.jc_heap.specs.Heap.{facts}
use Rattle.jc_api.proofs.States.{state_stays}
use Rattle.jc_api.proofs.initializing.initialize.Goals as goal

pub set_state-requires-clause-there : goal.set_state-requires-clause-there
set_state-requires-clause-there g c =
    let m = c.args.memory.now in
    let own = c.in_ok-own.own in
    state_stays (facts m.heap.now own).event _ m c.set_run.new.self own c.args.fields.start _ c.in_ok-state.state c.in_ok-state.ensures.there c.in_ok-set_run.ensures
