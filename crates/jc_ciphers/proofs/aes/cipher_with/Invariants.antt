use Rattle.std.proofs.Common.{◌≡◌}
use Rattle.jc_ciphers.specs.Aes.{rounds}
use Rattle.jc_ciphers.proofs.aes.cipher_with.Given as goal

abbrev pub invariant-round : goal.invariant-round
invariant-round l = l.s ≡ rounds l.w l.block l.i
