use Rattle.std.proofs.Common.{◌∙◌, ap}
use Rattle.std.proofs.lemmas.Result.{IfOk-weaker}
use Rattle.clap.specs.Words.{App}
use Rattle.jcard_arguments.specs.Grammar.{grammars_of, with_commands}
use Rattle.jcard_arguments.proofs.grammar.program_with.Goals as goal

pub returns : goal.returns
returns c = IfOk-weaker c.with_commands.result _ _ (λ r h. h ∙ ap (λ (a : App). with_commands a (grammars_of c.args.usages.now)) c.program_alone.ensures)
    c.with_commands.ensures
