use Rattle.std.proofs.Common.{arith}
use Rattle.jc_heap.proofs.Packing.{packed_words-word}
use Rattle.jc_heap.proofs.packed.packed_word.Goals as goal

pub returns-clause-word : goal.returns-clause-word
returns-clause-word c = omega (arith, packed_words-word c.args.bytes.now c.args.k, c.byte_or_zero.ensures.byte, c.byte_or_zero-2.ensures.byte)
