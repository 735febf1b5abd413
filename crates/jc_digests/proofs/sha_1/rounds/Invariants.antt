use Rattle.std.proofs.Common.{◌≡◌, ℕ, List}
use Rattle.sha1.specs.Sha1.{rounds}
use Rattle.jc_digests.proofs.sha_1.rounds.Given as goal

abbrev pub invariant-rounds : goal.invariant-rounds
invariant-rounds l = (h : List ℕ) → l.fn.v ≡ rounds h l.words l.fn.from → l.v ≡ rounds h l.words l.t
