use Rattle.std.proofs.Common.{◌∙◌, ◌+◌, ◌-◌, ◌*◌, ℕ, List, sym, take, ap}
use Rattle.jc_ciphers.specs.Aes.{encrypted, cipher_with, schedule}
use Rattle.jc_ciphers.proofs.aes.Aes.encrypt.Goals as goal

pub returns : goal.returns
unfolding encrypted
returns c =
    let a = c.args.self.now in
    let block = c.args.block.now in
    let key : List ℕ = take (4 * (a.rounds - 6)) a.key in
    c.cipher_with.ensures
    ∙ ap (λ (words : List ℕ). cipher_with words a.rounds block) a.scheduled
    ∙ ap (λ (n : ℕ). cipher_with (schedule key (4 * (n + 1))) n block) (sym a.sized)
