use Rattle.std.proofs.Common.{◌≡◌}
use Rattle.sha2.specs.Sha256.{rounds}
use Rattle.jc_digests.proofs.sha_256.Words32Compression.compress.Given as goal

abbrev pub invariant-rounds : goal.invariant-rounds
invariant-rounds l = l.v ≡ rounds l.self.words l.words l.t
