use Rattle.std.proofs.Common.{◌∙◌, ℕ, List, true, sym, ap}
use Rattle.jc_ciphers.specs.Des.{encrypted}
use Rattle.jc_ciphers.specs.Kept.{next_state}
use Rattle.jc_ciphers.specs.Modes.{xor_first}
use Rattle.jc_ciphers.proofs.KeptCiphers.{des_under}
use Rattle.jc_ciphers.proofs.kept.macs.update_des.Goals as goal

pub returns : goal.returns
returns c =
    let next : (List ℕ → List ℕ) → List ℕ = λ e.
    next_state (λ chain b. e (xor_first chain b 8)) 8 true c.args.vector.now c.args.state.now c.args.piece.now in
    c.next_state.ensures ∙ ap (λ (key : List ℕ). next (encrypted key)) (c.new-cipher.ensures ∙ c.block_8-bytes.ensures)
    ∙ ap next (sym (des_under c.args.key.now c.requires.key))
