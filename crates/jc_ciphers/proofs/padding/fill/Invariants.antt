use Rattle.std.proofs.Common.{◌≡◌, length, replicate, take}
use Rattle.jc_ciphers.proofs.padding.fill.Given as goal

abbrev pub invariant-bytes : goal.invariant-bytes
invariant-bytes l = (take l.i l.to ≡ replicate l.i l.byte) × (length l.to ≡ length l.fn.to)
