use Rattle.std.proofs.Common.{◌≡◌}
use Rattle.sha2.specs.Sha512.{rounds}
use Rattle.jc_digests.proofs.sha_512.Words64Compression.compress.Given as goal

abbrev pub invariant-rounds : goal.invariant-rounds
invariant-rounds l = l.v ≡ rounds l.self.words l.words l.t
