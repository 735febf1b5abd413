use Rattle.std.proofs.Common.{◌∙◌, ◌++◌, List, ℕ, ap}
use Rattle.jc_ciphers.specs.Macs.{key_block, marked}
use Rattle.jc_ciphers.proofs.hmac.Hmac.finish.Goals as goal

pub returns : goal.returns
returns g c = λ key m held.
    let size = g.D.Digest.block_size in
    let digest = g.D.Digest.digest in
    let block : List ℕ = key_block digest size key in
    c.finish-2.ensures (marked block 0x5c size ++ c.finish.new.to) (c.update.ensures (marked block 0x5c size) held.outer)
    ∙ ap (λ (x : List ℕ). digest (marked block 0x5c size ++ x)) (c.finish.ensures (marked block 0x36 size ++ m) held.inner)
