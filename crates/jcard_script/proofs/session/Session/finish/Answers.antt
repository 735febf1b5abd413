use Rattle.std.proofs.Common.{◌+◌, ap}
use Rattle.jcard_script.specs.Session.{unfinished_line}
use Rattle.jcard_script.proofs.ScriptEnds.{script_done}
use Rattle.jcard_script.proofs.session.Session.finish.Goals as goal

pub returns-clause-goes : goal.returns-clause-goes
returns-clause-goes g c = λ script text first h.
    let asks = c.last-asked.ensures (unfinished_line script) h.0 in
    let went = c.answer_line.ensures.goes (unfinished_line script) asks in
    (went.0, went.1, script_done c.answer_line.result _ script text went.0 first _ _ h.2 (ap (λ n. n + 1) h.1) went.2)
