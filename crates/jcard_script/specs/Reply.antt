-- The text of what is written for a line.
use Rattle.std.specs.Prelude.{ℕ, List, []}
use Rattle.jcard_script.specs.Script.{text_of, ready_text, down_text, armed_text, planned_text}
use Rattle.jcard_script.specs.declared.reply.Reply.{Reply}
use Rattle.jcard_script.specs.declared.reply.Reply.TheVariants.{Silent, Answer, Ready, Down, Armed, Planned}

-- where the card's last response is this
abbrev pub text_for_line : Reply → List ℕ → List ℕ
text_for_line Silent response = []
text_for_line Answer response = text_of response
text_for_line Ready response = ready_text
text_for_line Down response = down_text
text_for_line (Armed k) response = armed_text k
text_for_line (Planned fault) response = planned_text fault
