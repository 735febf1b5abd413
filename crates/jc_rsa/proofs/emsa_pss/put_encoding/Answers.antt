use Rattle.std.proofs.Common.{◌≡◌, ◌-◌, ◌∙◌, ℕ, List, length, ap, arith}
use Rattle.jc_digests.specs.Kept.{digest_size}
use Rattle.jc_rsa.specs.EmsaPss.{salt_block, sealed}
use Rattle.jc_rsa.proofs.emsa_pss.put_encoding.Goals as goal

pub returns : goal.returns
returns c =
    let a = c.args.algorithm in
    let salt = c.args.salt.now in
    let long : length c.args.block.now ≡ length c.args.to.now - digest_size a - 1 = omega (arith, c.requires.hash, c.requires.room) in
    c.put_sealed.ensures
    ∙ ap (λ (xs : List ℕ). sealed a c.args.hash.now xs c.args.spare) (c.put_salt_block.ensures ∙ ap (salt_block salt) long)
