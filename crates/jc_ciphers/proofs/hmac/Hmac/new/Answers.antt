use Rattle.std.proofs.Common.{◌∙◌, List, ℕ, append-nil, ap, subst, sym}
use Rattle.jc_ciphers.specs.Macs.{key_block, marked}
use Rattle.jc_ciphers.proofs.hmac.Hmac.new.Goals as goal

pub returns : goal.returns
returns g c =
    let size = g.D.Digest.block_size in
    let block : List ℕ = key_block g.D.Digest.digest size c.args.key.now in
    let P : List ℕ → Type 0 = λ m. g.D.Digest.holds c.begun.result m in
    let Q : List ℕ → Type 0 = λ m. g.D.Digest.holds c.begun-2.result m in
    record {
      inner = subst P (ap (λ (b : List ℕ). marked b 0x36 size) c.key_block.ensures ∙ sym (append-nil (marked block 0x36 size))) c.begun.ensures;
      outer = subst Q (ap (λ (b : List ℕ). marked b 0x5c size) c.key_block.ensures) c.begun-2.ensures;
    }
