use Rattle.std.proofs.Common.{[]}
use Rattle.jcard_script.specs.HeldCard.{state_of_held}
use Rattle.jcard_script.specs.Reply.{text_for_line}
use Rattle.jcard_script.specs.Script.{form_of}
use Rattle.jcard_texts.proofs.Known.{appends_same}
use Rattle.jcard_script.proofs.ScriptEnds.{failed_line, written_line}
use Rattle.jcard_script.proofs.session.Session.answer_line.Goals as goal

pub returns-in-Ok-clause-goes : goal.returns-in-Ok-clause-goes
returns-in-Ok-clause-goes g c = λ line h.
    written_line c.write.result c.args.self.now.number (form_of line) (state_of_held c.args.self.now.held) _ _ _
    (text_for_line c.in-Ok.reply c.reply.new.self.response) (c.in-Ok.ensures.goes line h) c.write.ensures.text

pub returns-in-Err-clause-goes : goal.returns-in-Err-clause-goes
returns-in-Err-clause-goes g c = λ line h. ([], appends_same _, failed_line c.in-Err.fault _ _ _ _ (c.in-Err.ensures.goes line h))
