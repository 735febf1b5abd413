use Rattle.jc_card.specs.State.{power_of}
use Rattle.jcard_script.proofs.PowerUps.{fails_up, powered_up}
use Rattle.jcard_script.proofs.held_card.power_up.Goals as goal

pub returns : goal.returns
returns g c =
    let held = power_of c.power_up.result.0 in
    record {
      up = c.power_up.ensures.up;
      powered = powered_up c.args.store c.power_on.new.self c.power_on.ensures c.args.budget c.power_up.result.1 held c.power_up.ensures.powered;
      fault = fails_up c.args.store c.power_on.new.self c.power_on.ensures c.args.budget c.power_up.result.1 held c.power_up.ensures.fault;
    }
