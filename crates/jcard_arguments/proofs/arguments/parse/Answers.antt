use Rattle.std.proofs.Common.{map}
use Rattle.std.specs.String.{string_bytes}
use Rattle.jcard_arguments.proofs.CommandLine.{taken, told}
use Rattle.jcard_arguments.proofs.PlainLines.{plain_lines}
use Rattle.jcard_arguments.proofs.arguments.parse.Goals as goal

pub returns-in-Ok-clause-taken : goal.returns-in-Ok-clause-taken
returns-in-Ok-clause-taken c = taken (map string_bytes c.args.words.now) _ _ c.in-Ok.ensures.found.0 c.in-Ok.ensures.found.1 c.action_in.ensures

pub returns-in-Ok-clause-plain : goal.returns-in-Ok-clause-plain
returns-in-Ok-clause-plain c = plain_lines

pub returns-in-Err-clause-taken : goal.returns-in-Err-clause-taken
returns-in-Err-clause-taken c = told (map string_bytes c.args.words.now) _ _ c.in-Err.ensures.refused c.refusal_by.ensures

pub returns-in-Err-clause-plain : goal.returns-in-Err-clause-plain
returns-in-Err-clause-plain c = plain_lines
