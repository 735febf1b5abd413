use Rattle.std.proofs.Common.{◌≡◌, length, take, drop}
use Rattle.jc_rsa.specs.Bytes.{xor}
use Rattle.jc_rsa.proofs.bytes.xor.Given as goal

abbrev pub invariant-bytes : goal.invariant-bytes
invariant-bytes l = (length l.to ≡ length l.fn.to) × (drop l.i l.to ≡ drop l.i l.fn.to) × (take l.i l.to ≡ xor (take l.i l.fn.to) l.mask)
