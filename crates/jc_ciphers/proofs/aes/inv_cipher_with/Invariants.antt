use Rattle.std.proofs.Common.{◌≡◌}
use Rattle.jc_ciphers.specs.Aes.{inv_rounds}
use Rattle.jc_ciphers.proofs.aes.inv_cipher_with.Given as goal

abbrev pub invariant-round : goal.invariant-round
invariant-round l = l.s ≡ inv_rounds l.w l.count l.block l.i
