use Rattle.std.proofs.Common.{length}
use Rattle.jcard_why.proofs.Names.{AreNamed}
use Rattle.jcard_why.proofs.named_text.with_names.Given as goal

abbrev pub invariant-loop-word : goal.invariant-loop-word
invariant-loop-word l = AreNamed l.fn.plain l.rest l.text.items

abbrev pub decreases-loop-word : goal.decreases-loop-word
decreases-loop-word l = length l.rest
