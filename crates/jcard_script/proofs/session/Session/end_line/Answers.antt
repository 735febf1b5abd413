use Rattle.std.proofs.Common.{◌+◌, ◌∙◌, refl, sym, ap, subst, [], ◌∷◌, ◌++◌, length, length-append}
use Rattle.std.specs.Str.Lines.{strip_carriage_return}
use Rattle.jcard_script.specs.Script.{ended_lines, form_of}
use Rattle.jcard_script.specs.HeldCard.{state_of_held}
use Rattle.jcard_script.specs.Line.{IsCommandOf}
use Rattle.jcard_script.specs.Session.{LinesEnd, IsKeptOf, unfinished_line}
use Rattle.jcard_script.proofs.Parts.{line_ended}
use Rattle.jcard_script.proofs.ScriptEnds.{line_done, if_carried}
use Rattle.jcard_script.proofs.session.Session.end_line.Goals as goal

pub returns-then-whole_command-clause-goes : goal.returns-then-whole_command-clause-goes
returns-then-whole_command-clause-goes g c = λ script text first h.
    let bytes = c.args.bytes.now in
    let none = c.if-whole_command.ensures.new refl (unfinished_line script) h.0 in
    let line = strip_carriage_return (unfinished_line script ++ bytes) in
    let same = ap (λ l. strip_carriage_return (l ++ bytes)) none in
    let told = subst (λ l. IsCommandOf c.whole_command.new.room.items (form_of l)) (sym same) (c.if-whole_command.ensures.command refl) in
    let went = c.answer_command.ensures.goes line (subst (λ command. IsCommandOf command (form_of line)) (sym c.as_slice.ensures.value) told) in
    let more = line_ended script bytes c.requires.unbroken in
    let next = ap (λ n. n + 1) h.1 in
    let now = state_of_held c.answer_command.new.self.held in
    let done = line_done c.answer_command.result _ (ended_lines script) line text went.0 first _ now h.2 next went.2 in
    let lines = subst (λ all. LinesEnd c.answer_command.result all first now (text ++ went.0)) (sym more.0) done in
    let empty = subst (IsKeptOf c.args.self.now.line) none h.0 in
    let kept = subst (IsKeptOf c.answer_command.new.self.line) (sym more.1) (rw c.answer_command.ensures.line empty) in
    let count = c.answer_command.ensures.number ∙ next ∙ sym (ap length more.0 ∙ length-append (ended_lines script) (line ∷ [])) in
    (went.0, went.1, if_carried c.answer_command.result _ _ first now _ lines (λ carried. (kept, count, carried)), lines)
