use Rattle.std.proofs.Common.{length}
use Rattle.jcard_arguments.proofs.grammar.+with_commands.Given as goal

-- each call takes a command
abbrev pub decreases-with_commands : goal.decreases-with_commands
decreases-with_commands l = length l.usages.now
