use Rattle.std.proofs.Common.{◌∙◌, ◌++◌, ℕ, List, ap}
use Rattle.jc_rsa.specs.EmsaPss.{salted_digest}
use Rattle.jc_rsa.specs.Hashing.{digest_of}
use Rattle.jc_rsa.proofs.emsa_pss.put_salted_digest.Goals as goal

pub returns : goal.returns
unfolding salted_digest
returns c = c.put_digest.ensures ∙ ap (λ (xs : List ℕ). digest_of c.args.algorithm (xs ++ c.args.salt.now)) c.put_zeros_and_digest.ensures
