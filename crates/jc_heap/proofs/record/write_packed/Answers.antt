use Rattle.std.proofs.Common.{◌≡◌, ◌+◌, take, arith}
use Rattle.jc_heap.specs.Fresh.{KeepsBelow, Fills}
use Rattle.jc_heap.specs.Packed.{packed_words}
use Rattle.jc_commit.specs.Image.{top_of}
use Rattle.jc_heap.proofs.Added.{top-same_below}
use Rattle.jc_heap.proofs.Streams.{word_more}
use Rattle.jc_heap.proofs.record.write_packed.Goals as goal

pub loop-k-preserved : goal.loop-k-preserved
loop-k-preserved g c =
    let p : KeepsBelow c.args.at c.args.journal.now c.write_fresh.new.self × Fills c.args.at
    (take (c.loop-k.k + 1) (packed_words c.args.bytes.now)) c.args.journal.now c.write_fresh.new.self =
    word_more c.args.at c.loop-k.k c.packed_word.result (packed_words c.args.bytes.now) c.args.journal.now c.loop-k.journal c.write_fresh.new.self
    c.loop-k.invariant.below c.loop-k.invariant.done (omega arith) c.packed_word.ensures.word c.requires.fits c.in_ok-write_fresh.ensures.ok in
    record { below = p.0; done = p.1 }

pub write_fresh-requires-clause-above : goal.write_fresh-requires-clause-above
write_fresh-requires-clause-above g c =
    let same : top_of c.loop-k.journal.plain ≡ top_of c.args.journal.now.plain = top-same_below c.args.journal.now.plain c.loop-k.journal.plain c.args.at
    (omega (arith, c.requires.low)) c.loop-k.invariant.below.plain in
    omega (arith, same, c.requires.above)

pub write_fresh-requires-clause-above_recovered : goal.write_fresh-requires-clause-above_recovered
write_fresh-requires-clause-above_recovered g c =
    let same : top_of c.loop-k.journal.recovered ≡ top_of c.args.journal.now.recovered =
    top-same_below c.args.journal.now.recovered c.loop-k.journal.recovered c.args.at
    (omega (arith, c.requires.low)) c.loop-k.invariant.below.recovered in
    omega (arith, same, c.requires.above_recovered)
