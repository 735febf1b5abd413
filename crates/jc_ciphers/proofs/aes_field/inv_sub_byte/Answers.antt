use Rattle.std.proofs.Common.{arith}
use Rattle.jc_ciphers.proofs.AesTables.{slice_index-INVERSE_S_BOX}
use Rattle.jc_ciphers.proofs.aes_field.inv_sub_byte.Goals as goal

pub returns : goal.returns
returns c = slice_index-INVERSE_S_BOX c.args.b (omega arith)
