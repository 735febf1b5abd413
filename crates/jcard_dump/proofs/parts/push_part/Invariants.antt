use Rattle.std.proofs.Common.{Ok}
use Rattle.jcard_dump.specs.Fault.{Lists, each_line}
use Rattle.jcard_dump.specs.Parts.{pair_at}
use Rattle.jcard_dump.proofs.parts.push_part.Given as goal

abbrev pub invariant-loop-i : goal.invariant-loop-i
invariant-loop-i g l = Lists l.fn.text.items l.text.items (each_line (pair_at l.part l.one l.other) l.i) (Ok tt)
