use Rattle.std.proofs.Common.{◌≡◌, take}
use Rattle.jc_digests.specs.Checksums.{generator_32, remainder}
use Rattle.jc_digests.proofs.checksums.update_32.Given as goal

abbrev pub invariant-loop-byte : goal.invariant-loop-byte
invariant-loop-byte l = l.next ≡ remainder generator_32 l.fn.register (take l.byte-index l.piece)
