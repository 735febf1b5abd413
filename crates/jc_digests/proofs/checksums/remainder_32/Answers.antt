use Rattle.std.proofs.Common.{arith}
use Rattle.jc_digests.proofs.Remainders.{slice_index-REMAINDERS_32}
use Rattle.jc_digests.proofs.checksums.remainder_32.Goals as goal

pub returns : goal.returns
returns c = slice_index-REMAINDERS_32 c.args.byte (omega arith)
