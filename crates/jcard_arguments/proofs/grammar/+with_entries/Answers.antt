use Rattle.std.proofs.lemmas.Result.{IfOk-weaker}
use Rattle.jcard_arguments.proofs.EntryRules.{more_entries, no_entries}
use Rattle.jcard_arguments.proofs.grammar.+with_entries.Goals as goal

pub returns-in_default : goal.returns-in_default
returns-in_default t c = no_entries _ _ c.in_default.ensures.cases

pub returns : goal.returns
returns t c = IfOk-weaker c.with_entries.result _ _ (λ r h. more_entries _ _ _ _ _ _ c.in-Some.ensures.cases.0 c.in_ok-command.ensures h) c.with_entries.ensures
