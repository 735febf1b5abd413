use Rattle.std.proofs.Common.{◌+◌, length, refl, arith}
use Rattle.jc_heap.specs.Package.{array_inits, array_addresses, image_words}
use Rattle.jc_heap.specs.Packed.{packed_words}
use Rattle.jc_heap.proofs.FreshRuns.{anyway, keeps_then, torn_piece}
use Rattle.jc_heap.proofs.Packing.{length-addresses}
use Rattle.jc_heap.proofs.Streams.{piece_more}
use Rattle.jc_heap.proofs.record.write_static_image.Goals as goal

pub returns-in_err-write_packed-clause-below : goal.returns-in_err-write_packed-clause-below
returns-in_err-write_packed-clause-below g c = keeps_then c.args.at (length c.args.arrays.now) c.args.journal.now c.write_references.new.journal
    c.write_packed.new.journal c.write_references.ensures.below c.write_packed.ensures.below

pub returns-clause-below : goal.returns-clause-below
returns-clause-below g c = keeps_then c.args.at (length c.args.arrays.now) c.args.journal.now c.write_references.new.journal c.write_packed.new.journal
    c.write_references.ensures.below c.write_packed.ensures.below

pub returns-clause-done : goal.returns-clause-done
returns-clause-done g c = (piece_more c.args.at (c.args.at + length c.args.arrays.now) (array_addresses c.args.first (array_inits c.args.arrays.now))
    (packed_words c.args.image.now) (image_words c.args.first (array_inits c.args.arrays.now) c.args.image.now) c.args.journal.now
    c.write_references.new.journal c.write_packed.new.journal
    c.in_ok-write_references.ensures.done (omega (arith, length-addresses c.args.first c.args.arrays.now)) c.in_ok-write_packed.ensures.done refl).0

pub returns-in_err-write_packed-clause-stopped : goal.returns-in_err-write_packed-clause-stopped
returns-in_err-write_packed-clause-stopped g c = anyway c.from_residual-in_err-write_packed.result _
    (torn_piece c.args.at (length c.args.arrays.now + length (packed_words c.args.image.now)) _ (array_addresses c.args.first (array_inits c.args.arrays.now))
    c.args.journal.now c.write_references.new.journal c.write_packed.new.journal c.in_ok-write_references.ensures.done c.in_err-write_packed.ensures.stopped
    (omega (arith, length-addresses c.args.first c.args.arrays.now)))
