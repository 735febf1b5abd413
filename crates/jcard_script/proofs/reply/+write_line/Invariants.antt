-- The bytes grow fewer.
use Rattle.std.proofs.Common.{length}
use Rattle.jcard_script.proofs.reply.+write_line.Given as goal

abbrev pub decreases-write_line : goal.decreases-write_line
decreases-write_line g l = length l.bytes.now
