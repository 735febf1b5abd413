use Rattle.std.proofs.Common.{◌∙◌, ℕ, List, true, ap}
use Rattle.jc_ciphers.specs.Aes.{encrypted}
use Rattle.jc_ciphers.specs.Kept.{next_state}
use Rattle.jc_ciphers.specs.Modes.{xor_first}
use Rattle.jc_ciphers.proofs.kept.macs.update_aes.Goals as goal

pub returns : goal.returns
returns c =
    c.next_state.ensures
    ∙ ap (λ (key : List ℕ). next_state (λ chain b. encrypted key (xor_first chain b 16)) 16 true c.args.vector.now c.args.state.now c.args.piece.now)
    c.new-cipher.ensures
