use Rattle.std.proofs.Common.{◌≡◌, length, take}
use Rattle.jc_ciphers.specs.Des.{shifted_bit, listed}
use Rattle.jc_ciphers.proofs.des_schedule.shifted.Given as goal

abbrev pub invariant-bits : goal.invariant-bits
invariant-bits l = (take l.i l.to ≡ listed (shifted_bit l.halves l.s) l.i) × (length l.to ≡ 56)
