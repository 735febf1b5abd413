use Rattle.std.proofs.Common.{◌∙◌, ℕ, List, true, sym, ap}
use Rattle.jc_ciphers.specs.TripleDes.{Parts, triple_encrypted}
use Rattle.jc_ciphers.specs.Kept.{next_state}
use Rattle.jc_ciphers.specs.Modes.{xor_first}
use Rattle.jc_ciphers.proofs.KeptCiphers.{triple_under}
use Rattle.jc_ciphers.proofs.kept.macs.update_triple.Goals as goal

pub returns : goal.returns
returns c =
    let next : (List ℕ → List ℕ) → List ℕ = λ e.
    next_state (λ chain b. e (xor_first chain b 8)) 8 true c.args.vector.now c.args.state.now c.args.piece.now in
    c.next_state.ensures ∙ ap (λ (key : Parts). next (triple_encrypted key)) c.new-cipher.ensures
    ∙ ap next (sym (triple_under c.args.key.now c.requires.key))
