use Rattle.std.proofs.Common.{◌∙◌, ◌++◌, ap}
use Rattle.jcard_outcomes.specs.Part.{line_start}
use Rattle.jcard_outcomes.proofs.Heads.{head_cut}
use Rattle.jcard_outcomes.proofs.join.line_at.Goals as goal

pub returns : goal.returns
returns c = head_cut c.args.text.now (line_start c.args.number) c.in-Some.rest.now c.cut_once.result
    (c.in-Some.ensures ∙ ap (λ l. l ++ c.in-Some.rest.now) (c.deref.ensures.value ∙ c.in_ok-push_line_start.ensures
    ∙ ap (λ l. l ++ line_start c.args.number) c.new-start.ensures.items)) c.cut_once.ensures
