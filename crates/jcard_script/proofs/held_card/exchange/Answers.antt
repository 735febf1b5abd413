use Rattle.jc_card.specs.State.{power_of}
use Rattle.jcard_script.proofs.PowerUps.{command_answered, command_refused}
use Rattle.jcard_script.proofs.held_card.exchange.Goals as goal

pub returns : goal.returns
returns g c =
    let before = power_of c.args.held.now in
    let after = power_of c.exchange.new.self in
    let h = c.exchange.ensures.answer in
    record {
      up = c.exchange.ensures.up;
      answer = command_answered c.exchange.result before after c.args.command.now c.exchange.new.response h;
      down = λ is store held. command_refused c.exchange.result before after store c.args.command.now c.exchange.new.response is h held;
    }
