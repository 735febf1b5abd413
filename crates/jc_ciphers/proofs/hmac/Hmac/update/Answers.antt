use Rattle.std.proofs.Common.{◌++◌, List, ℕ, append_assoc, subst}
use Rattle.jc_ciphers.specs.Macs.{key_block, marked}
use Rattle.jc_ciphers.proofs.hmac.Hmac.update.Goals as goal

pub returns : goal.returns
returns g c = λ key m held.
    let size = g.D.Digest.block_size in
    let block : List ℕ = marked (key_block g.D.Digest.digest size key) 0x36 size in
    let P : List ℕ → Type 0 = λ xs. g.D.Digest.holds c.update.new.self xs in
    record {
      inner = subst P (append_assoc block m c.args.piece.now) (c.update.ensures (block ++ m) held.inner);
      outer = held.outer;
    }
