use Rattle.std.proofs.Common.{◌∙◌, true, ap}
use Rattle.clap.specs.Simple.{Shape, app_of_fields, on_top}
use Rattle.jcard_arguments.proofs.grammar.program_alone.Goals as goal

pub returns : goal.returns
returns c = ap app_of_fields c.disable_help_subcommand.ensures ∙ ap (on_top (λ (s : Shape). record s { disable_help_subcommand = true })) c.plain_command.ensures
