use Rattle.std.proofs.Common.{◌∙◌, ◌/◌, ℕ, List, length, take, sym, ap}
use Rattle.jc_ciphers.specs.Des.{encrypted}
use Rattle.jc_ciphers.specs.Kept.Macs.{padded}
use Rattle.jc_ciphers.specs.Modes.{chain_after, xor_first}
use Rattle.jc_ciphers.proofs.KeptCiphers.{des_under}
use Rattle.jc_ciphers.proofs.kept.macs.close_des.Goals as goal

pub returns : goal.returns
returns c =
    let m : List ℕ = padded c.args.padding 8 (take c.args.used c.args.block.now) in
    let made : (List ℕ → List ℕ) → List ℕ = λ e. chain_after (λ chain b. e (xor_first chain b 8)) 8 c.args.chain.now m (length m / 8) in
    c.close.ensures ∙ ap (λ (key : List ℕ). made (encrypted key)) (c.new-cipher.ensures ∙ c.block_8-bytes.ensures)
    ∙ ap made (sym (des_under c.args.key.now c.requires.key))
