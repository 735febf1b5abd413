use Rattle.std.proofs.Common.{◌≡◌, ◌-◌, ◌++◌, length, replicate, take}
use Rattle.jc_ciphers.proofs.bytes.clear_from.Given as goal

abbrev pub invariant-bytes : goal.invariant-bytes
invariant-bytes l = (take l.i l.to ≡ take l.at l.fn.to ++ replicate (l.i - l.at) 0) × (length l.to ≡ length l.fn.to)
