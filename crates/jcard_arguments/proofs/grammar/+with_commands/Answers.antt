use Rattle.std.proofs.lemmas.Result.{IfOk-weaker}
use Rattle.jcard_arguments.proofs.EntryRules.{more_commands, no_commands}
use Rattle.jcard_arguments.proofs.grammar.+with_commands.Goals as goal

pub returns-in_default : goal.returns-in_default
returns-in_default t c = no_commands _ _ c.in_default.ensures.cases

pub returns : goal.returns
returns t c = IfOk-weaker c.with_commands.result _ _ (λ r h. more_commands _ _ _ _ _ _ c.in-Some.ensures.cases.0 c.in_ok-program.ensures h)
    c.with_commands.ensures
