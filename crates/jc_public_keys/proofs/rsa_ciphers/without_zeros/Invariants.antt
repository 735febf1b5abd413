use Rattle.std.proofs.Common.{◌≡◌, ◌%◌, ◌+◌, drop, length, map, take}
use Rattle.jc_public_keys.proofs.rsa_ciphers.without_zeros.Given as goal

abbrev pub invariant-bytes : goal.invariant-bytes
invariant-bytes l = (length l.to ≡ length l.fn.to) × (drop l.i l.to ≡ drop l.i l.fn.to) × (take l.i l.to ≡ map (λ b. b % 255 + 1) (take l.i l.fn.to))
