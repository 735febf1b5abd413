use Rattle.std.proofs.Common.{◌∙◌, ap}
use Rattle.std.proofs.lemmas.Result.{IfOk-weaker}
use Rattle.clap.proofs.SimpleLemmas.{plain_fields}
use Rattle.clap.specs.Words.{App, app_of, with_subcommand}
use Rattle.jcard_arguments.proofs.EntryRules.{is_plain}
use Rattle.jcard_arguments.proofs.grammar.with_usage.Goals as goal

pub returns-in-Ok : goal.returns-in-Ok
returns-in-Ok c = IfOk-weaker c.subcommand.result _ _
    (λ r h. h.shape (plain_fields c.in-Ok.command (is_plain _ c.args.usage c.in-Ok.ensures)).globals
    ∙ ap (λ (g : App). with_subcommand (app_of c.args.program) g.top) c.in-Ok.ensures)
    c.subcommand.ensures
