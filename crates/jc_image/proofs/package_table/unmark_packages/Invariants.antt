use Rattle.jc_image.proofs.Naming.{IsUnmarked}
use Rattle.jc_image.proofs.package_table.unmark_packages.Given as goal

abbrev pub invariant-loop-k : goal.invariant-loop-k
invariant-loop-k g l = IsUnmarked l.journal.plain l.marks l.k
