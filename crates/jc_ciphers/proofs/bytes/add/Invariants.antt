use Rattle.std.proofs.Common.{◌≡◌, length, take, drop}
use Rattle.jc_ciphers.specs.Modes.{xor_first}
use Rattle.jc_ciphers.proofs.bytes.add.Given as goal

abbrev pub invariant-bytes : goal.invariant-bytes
invariant-bytes l = (length l.to ≡ length l.fn.to) × (drop l.i l.to ≡ drop l.i l.fn.to) × (take l.i l.to ≡ xor_first l.fn.to l.block l.i)
