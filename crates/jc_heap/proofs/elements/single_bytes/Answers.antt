use Rattle.std.proofs.Common.{◌+◌, ◌%◌, ◌∙◌, ℕ, length, sym, ap, arith}
use Rattle.std.specs.Prelude.{slice_index}
use Rattle.jc_heap.specs.Heap.{heap_of, cells}
use Rattle.jc_heap.specs.Packed.{low_byte_of}
use Rattle.jc_heap.proofs.Views.{readable}
use Rattle.jc_heap.proofs.ByteReads.{all_read, read_more, single_at}
use Rattle.jc_heap.proofs.elements.single_bytes.Goals as goal

pub word_at-first-requires : goal.word_at-first-requires
word_at-first-requires g c =
    let spot = single_at c.args.journal.now.plain c.args.object c.args.i 0 (length c.args.out.now) c.requires.cells c.requires.single c.requires.some in
    omega (arith, spot.0, c.requires.small)

pub overflow_cast-k : goal.overflow_cast-k
overflow_cast-k g c =
    let spot = single_at c.args.journal.now.plain c.args.object c.args.i c.loop-k.k (length c.args.out.now) c.requires.cells c.requires.single
    c.loop-k-test.true in
    omega (arith, spot.0, c.requires.small)

pub overflow_add-first : goal.overflow_add-first
overflow_add-first g c =
    let spot = single_at c.args.journal.now.plain c.args.object c.args.i c.loop-k.k (length c.args.out.now) c.requires.cells c.requires.single
    c.loop-k-test.true in
    omega (arith, spot.0, c.requires.small, c.word_at-first.ensures)

pub read-requires : goal.read-requires
read-requires g c =
    let spot = single_at c.args.journal.now.plain c.args.object c.args.i c.loop-k.k (length c.args.out.now) c.requires.cells c.requires.single
    c.loop-k-test.true in
    rw c.word_at-first.ensures (readable (length c.args.journal.now.plain) _ spot.0 spot.1)

pub loop-k-preserved : goal.loop-k-preserved
loop-k-preserved g c =
    let ws = c.args.journal.now.plain in
    let spot = single_at ws c.args.object c.args.i c.loop-k.k (length c.args.out.now) c.requires.cells c.requires.single c.loop-k-test.true in
    read_more (low_byte_of (cells (heap_of ws) c.args.object)) c.loop-k.out c.args.i c.loop-k.k (c.read.result % 256) (omega (
      arith,
      c.loop-k-test.true,
      c.loop-k.auto.out,
    ))
    c.loop-k.invariant
    (ap (λ (w : ℕ). w % 256) (c.read.ensures ∙ ap (λ (a : ℕ). slice_index ws (a + c.loop-k.k)) c.word_at-first.ensures ∙ sym spot.2))

pub returns : goal.returns
returns g c =
    all_read (low_byte_of (cells (heap_of c.args.journal.now.plain) c.args.object)) c.loop-k.out c.args.i (length c.args.out.now) c.loop-k.auto.out
    (λ m h. c.loop-k.invariant m (omega (arith, h, c.loop-k-test.false)))
