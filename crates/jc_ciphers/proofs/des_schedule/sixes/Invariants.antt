use Rattle.std.proofs.Common.{◌≡◌, length, take}
use Rattle.jc_ciphers.specs.Des.{listed}
use Rattle.jc_ciphers.specs.DesNumbers.{six_of_bits}
use Rattle.jc_ciphers.proofs.des_schedule.sixes.Given as goal

abbrev pub invariant-sixes : goal.invariant-sixes
invariant-sixes l = (take l.i l.to ≡ listed (six_of_bits l.bits) l.i) × (length l.to ≡ 128)
