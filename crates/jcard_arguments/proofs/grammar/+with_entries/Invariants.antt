use Rattle.std.proofs.Common.{length}
use Rattle.jcard_arguments.proofs.grammar.+with_entries.Given as goal

-- each call takes an entry
abbrev pub decreases-with_entries : goal.decreases-with_entries
decreases-with_entries l = length l.entries.now
