use Rattle.std.proofs.Common.{arith}
use Rattle.jc_ciphers.proofs.AesTables.{slice_index-MULTIPLES_9}
use Rattle.jc_ciphers.proofs.aes_field.times_9.Goals as goal

pub returns : goal.returns
returns c = slice_index-MULTIPLES_9 c.args.b (omega arith)
