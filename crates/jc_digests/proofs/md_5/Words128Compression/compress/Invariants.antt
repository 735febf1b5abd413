use Rattle.std.proofs.Common.{◌≡◌}
use Rattle.md5.specs.Md5.{rounds}
use Rattle.jc_digests.proofs.md_5.Words128Compression.compress.Given as goal

abbrev pub invariant-steps : goal.invariant-steps
invariant-steps l = l.v ≡ rounds l.self.words l.words l.t
