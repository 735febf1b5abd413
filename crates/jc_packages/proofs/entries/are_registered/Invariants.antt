use Rattle.std.proofs.Common.{ℕ, ◌<◌}
use Rattle.jc_packages.specs.Sound.{IsRegistered}
use Rattle.jc_packages.proofs.entries.are_registered.Given as goal

abbrev pub invariant-loop-a : goal.invariant-loop-a
invariant-loop-a g l = (j : ℕ) → j < l.a → IsRegistered l.linked l.marked.now j
