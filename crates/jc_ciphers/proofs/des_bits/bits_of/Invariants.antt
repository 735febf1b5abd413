use Rattle.std.proofs.Common.{◌≡◌, length, take}
use Rattle.jc_ciphers.specs.Des.{bit_of_bytes, listed}
use Rattle.jc_ciphers.proofs.des_bits.bits_of.Given as goal

abbrev pub invariant-bits : goal.invariant-bits
invariant-bits l = (take l.i l.bits ≡ listed (bit_of_bytes l.bytes) l.i) × (length l.bits ≡ 64)
