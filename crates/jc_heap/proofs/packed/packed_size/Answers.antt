use Rattle.std.proofs.Common.{sym}
use Rattle.jc_heap.proofs.Packing.{length-packed_words}
use Rattle.jc_heap.proofs.packed.packed_size.Goals as goal

pub returns : goal.returns
returns c = sym (length-packed_words c.args.bytes.now)
