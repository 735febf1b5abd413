use Rattle.std.proofs.Common.{arith}
use Rattle.jc_digests.proofs.Remainders.{slice_index-REMAINDERS_16}
use Rattle.jc_digests.proofs.checksums.remainder_16.Goals as goal

pub returns : goal.returns
returns c = slice_index-REMAINDERS_16 c.args.byte (omega arith)
