use Rattle.std.proofs.Common.{◌≡◌, length, take}
use Rattle.jc_ciphers.specs.Macs.{listed, reduced_byte}
use Rattle.jc_ciphers.proofs.macs.double.Given as goal

abbrev pub invariant-bytes : goal.invariant-bytes
invariant-bytes l = (take l.i l.to ≡ listed (reduced_byte (length l.block) l.block) l.i) × (length l.to ≡ length l.block)
