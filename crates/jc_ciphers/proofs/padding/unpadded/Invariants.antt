use Rattle.std.proofs.Common.{◌<◌, ℕ}
use Rattle.jc_ciphers.specs.Padding.{EndsByPadding}
use Rattle.jc_ciphers.proofs.padding.unpadded.Given as goal

abbrev pub invariant-places : goal.invariant-places
invariant-places l = (k : ℕ) → k < l.n → ¬ (EndsByPadding l.padding l.block k)
