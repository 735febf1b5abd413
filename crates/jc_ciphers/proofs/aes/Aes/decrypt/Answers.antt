use Rattle.std.proofs.Common.{◌∙◌, ◌+◌, ◌-◌, ◌*◌, ℕ, List, sym, take, ap}
use Rattle.jc_ciphers.specs.Aes.{decrypted, inv_cipher_with, schedule}
use Rattle.jc_ciphers.proofs.aes.Aes.decrypt.Goals as goal

pub returns : goal.returns
unfolding decrypted
returns c =
    let a = c.args.self.now in
    let block = c.args.block.now in
    let key : List ℕ = take (4 * (a.rounds - 6)) a.key in
    c.inv_cipher_with.ensures
    ∙ ap (λ (words : List ℕ). inv_cipher_with words a.rounds block) a.scheduled
    ∙ ap (λ (n : ℕ). inv_cipher_with (schedule key (4 * (n + 1))) n block) (sym a.sized)
