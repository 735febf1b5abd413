use Rattle.std.proofs.Common.{◌∙◌}
use Rattle.jcard_outcomes.proofs.AnswerFit.{space_dropped}
use Rattle.jcard_outcomes.proofs.answers.+behind_spaces.Goals as goal

pub returns-then-first-eq32-clause-same : goal.returns-then-first-eq32-clause-same
returns-then-first-eq32-clause-same t c = c.behind_spaces.ensures.same
    ∙ space_dropped c.args.text.now c.in-Some.first.now c.in-Some.more.now c.in-Some.ensures.cases.0 c.if-first-eq32.true
