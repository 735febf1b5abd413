use Rattle.std.proofs.Common.{◌≡◌, ◌-◌, ◌∙◌, length, ap, arith}
use Rattle.jc_digests.specs.Kept.{digest_size}
use Rattle.jc_rsa.specs.EmeOaep.{data_block, masked, oaep}
use Rattle.jc_rsa.proofs.eme_oaep.put_encoding.Goals as goal

pub returns : goal.returns
unfolding oaep
returns c =
    let a = c.args.algorithm in
    let m = c.args.message.now in
    let long : length c.args.block.now ≡ length c.args.to.now - digest_size a - 1 = omega (arith, c.requires.seed, c.requires.room) in
    c.put_masked.ensures ∙ ap (masked a c.args.seed.now) (c.put_data_block.ensures ∙ ap (data_block a m) long)
