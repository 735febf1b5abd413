use Rattle.std.proofs.Common.{◌-◌, ◌∙◌, ℕ, List, length, ap}
use Rattle.jc_digests.specs.Kept.{digest_size}
use Rattle.jc_rsa.specs.EmsaPss.{pss, salt_block, sealed}
use Rattle.jc_rsa.proofs.emsa_pss.encode.Goals as goal

pub returns : goal.returns
unfolding pss
returns c =
    let block : List ℕ = salt_block c.args.salt.now (length c.args.to.now - digest_size c.args.algorithm - 1) in
    c.put_encoding.ensures ∙ ap (λ (h : List ℕ). sealed c.args.algorithm h block c.args.spare) c.put_salted_digest.ensures
