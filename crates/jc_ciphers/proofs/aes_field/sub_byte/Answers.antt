use Rattle.std.proofs.Common.{arith}
use Rattle.jc_ciphers.proofs.AesTables.{slice_index-S_BOX}
use Rattle.jc_ciphers.proofs.aes_field.sub_byte.Goals as goal

pub returns : goal.returns
returns c = slice_index-S_BOX c.args.b (omega arith)
