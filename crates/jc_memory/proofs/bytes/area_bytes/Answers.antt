use Rattle.std.proofs.Common.{◌%◌, length, arith}
use Rattle.jc_transient.specs.State.{cell_at}
use Rattle.jc_memory.specs.Cells.{word_of}
use Rattle.jc_heap.proofs.ByteReads.{all_read}
use Rattle.jc_memory.proofs.bytes.area_bytes.Goals as goal

pub returns : goal.returns
returns c =
    all_read (λ k. word_of (cell_at c.args.ram.now c.args.event k) % 256) c.loop-at.out c.args.place (length c.args.out.now) c.loop-at.auto.out
    (λ m h. c.loop-at.invariant m (omega (arith, h, c.loop-at-test.false)))
