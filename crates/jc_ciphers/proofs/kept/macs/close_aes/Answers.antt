use Rattle.std.proofs.Common.{◌∙◌, ◌/◌, ℕ, List, length, take, ap}
use Rattle.jc_ciphers.specs.Aes.{encrypted}
use Rattle.jc_ciphers.specs.Kept.Macs.{padded}
use Rattle.jc_ciphers.specs.Modes.{chain_after, xor_first}
use Rattle.jc_ciphers.proofs.kept.macs.close_aes.Goals as goal

pub returns : goal.returns
returns c =
    let m : List ℕ = padded c.args.padding 16 (take c.args.used c.args.block.now) in
    let made : (List ℕ → List ℕ) → List ℕ = λ e. chain_after (λ chain b. e (xor_first chain b 16)) 16 c.args.chain.now m (length m / 16) in
    c.close.ensures ∙ ap (λ (key : List ℕ). made (encrypted key)) c.new-cipher.ensures
