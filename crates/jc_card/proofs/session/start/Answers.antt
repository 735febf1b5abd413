use Rattle.jc_card.specs.State.{power_of}
use Rattle.jc_card.proofs.HeldStates.{fault_held, held_starts}
use Rattle.jc_card.proofs.session.start.Goals as goal

pub returns-in-Ok : goal.returns-in-Ok
returns-in-Ok g c =
    let S = g.S.WordStore in
    let starts = held_starts S.words S.down S.passed S.refusals c.args.budget c.args.store c.power_on.new.self (power_of c.power_up-held.result.0)
    c.power_on.ensures.words c.power_on.ensures.refusals c.power_on.ensures.up c.power_up-held.ensures.up (rw c.in-Ok.is at c.power_up-held.ensures.powered) in
    record { good = starts.0; powered = starts.1; fault = tt }

pub returns-in-Err-clause-fault : goal.returns-in-Err-clause-fault
returns-in-Err-clause-fault g c =
    let S = g.S.WordStore in
    let fails = rw c.in-Err.is at c.power_up-held.ensures.fault in
    fault_held S.words S.down S.passed S.refusals c.args.budget c.args.store c.power_on.new.self fails.1 c.into_store.result
    (power_of c.power_up-held.result.0) c.in-Err.fault c.power_on.ensures.words c.power_on.ensures.refusals c.power_on.ensures.up fails.0 fails.2 fails.3
    c.into_store.ensures
