use Rattle.jcard_script.specs.HeldCard.{state_of_held}
use Rattle.jcard_script.specs.Reply.{text_for_line}
use Rattle.jcard_script.proofs.LongCommands.{answered_line}
use Rattle.jcard_script.proofs.session.Session.reply.Goals as goal

pub returns-in-Exchange-clause-goes : goal.returns-in-Exchange-clause-goes
returns-in-Exchange-clause-goes g c = λ line h.
    let told = rw c.in-Exchange.is at h in
    answered_line (state_of_held c.args.self.now.held) (state_of_held c.exchange.new.self.held) line c.in-Exchange.command.now
    (text_for_line c.exchange.result c.exchange.new.self.response) told c.exchange.ensures.answer
