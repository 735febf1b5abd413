use Rattle.std.proofs.Common.{◌+◌, ◌∙◌, sym, ap, subst, [], ◌∷◌, ◌++◌, length, length-append}
use Rattle.std.specs.Str.Lines.{strip_carriage_return}
use Rattle.jcard_script.specs.Script.{ended_lines}
use Rattle.jcard_script.specs.HeldCard.{state_of_held}
use Rattle.jcard_script.specs.Session.{LinesEnd, IsKeptOf, unfinished_line}
use Rattle.jcard_script.proofs.Parts.{line_ended}
use Rattle.jcard_script.proofs.ScriptEnds.{line_done, if_carried}
use Rattle.jcard_script.proofs.session.Session.end_other_line.Goals as goal

pub returns-clause-goes : goal.returns-clause-goes
returns-clause-goes g c = λ script text first h.
    let bytes = c.args.bytes.now in
    let line = strip_carriage_return (unfinished_line script ++ bytes) in
    let went = c.answer_line-result.ensures.goes line (c.ended_by-asked.ensures (unfinished_line script) h.0) in
    let more = line_ended script bytes c.requires.unbroken in
    let next = ap (λ n. n + 1) h.1 in
    let now = state_of_held c.answer_line-result.new.self.held in
    let done = line_done c.answer_line-result.result _ (ended_lines script) line text went.0 first _ now h.2 next went.2 in
    let lines = subst (λ all. LinesEnd c.answer_line-result.result all first now (text ++ went.0)) (sym more.0) done in
    let kept = subst (IsKeptOf c.clear.new.self) (sym more.1) c.clear.ensures in
    let count = c.answer_line-result.ensures.number ∙ next ∙ sym (ap length more.0 ∙ length-append (ended_lines script) (line ∷ [])) in
    (went.0, went.1, if_carried c.answer_line-result.result _ _ first now _ lines (λ carried. (kept, count, carried)), lines)
