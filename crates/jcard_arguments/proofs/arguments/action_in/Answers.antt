use Rattle.std.proofs.Common.{List, Option, subst}
use Rattle.std.specs.Prelude.{option_and_then}
use Rattle.clap.specs.Words.{Row, Text}
use Rattle.jcard_arguments.specs.CommandLine.{IsReadAs, request_of}
use Rattle.jcard_arguments.proofs.arguments.action_in.Goals as goal

pub returns-in-Some : goal.returns-in-Some
returns-in-Some c = subst (λ (named : Option (Text × List Row)). IsReadAs (option_and_then request_of named) c.action_of.result) c.in-Some.ensures c.action_of.ensures
