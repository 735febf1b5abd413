use Rattle.std.proofs.Common.{ℕ, ◌+◌, ◌<◌}
use Rattle.jc_linker.specs.Lookups.{statics_at}
use Rattle.jc_packages.specs.Sound.{HoldsStatics, package_record_at}
use Rattle.jc_packages.proofs.statics.hold_statics.Given as goal

abbrev pub invariant-loop-k : goal.invariant-loop-k
invariant-loop-k g l = (j : ℕ) → j < l.k → HoldsStatics l.marked.now (package_record_at l.marked.now j) (statics_at l.linked (j + 1))
