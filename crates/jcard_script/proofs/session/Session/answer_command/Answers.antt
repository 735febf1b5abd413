use Rattle.jcard_script.specs.HeldCard.{state_of_held}
use Rattle.jcard_script.specs.Reply.{text_for_line}
use Rattle.jcard_script.specs.Script.{form_of}
use Rattle.jcard_script.proofs.ScriptEnds.{written_line}
use Rattle.jcard_script.proofs.LongCommands.{answered_line}
use Rattle.jcard_script.proofs.session.Session.answer_command.Goals as goal

pub returns-clause-goes : goal.returns-clause-goes
returns-clause-goes g c = λ line told.
    let before = state_of_held c.args.self.now.held in
    let after = state_of_held c.exchange-reply.new.self.held in
    let text = text_for_line c.exchange-reply.result c.exchange-reply.new.self.response in
    written_line c.write.result c.args.self.now.number (form_of line) before after _ _ text
    (answered_line before after line c.args.command.now text told c.exchange-reply.ensures.answer) c.write.ensures.text
