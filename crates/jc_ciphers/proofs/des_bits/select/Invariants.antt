use Rattle.std.proofs.Common.{◌≡◌, length, take}
use Rattle.jc_ciphers.specs.Des.{selected_bit, listed}
use Rattle.jc_ciphers.proofs.des_bits.select.Given as goal

abbrev pub invariant-bits : goal.invariant-bits
invariant-bits l = (take l.i l.to ≡ listed (selected_bit l.table l.from) l.i) × (length l.to ≡ length l.table)
