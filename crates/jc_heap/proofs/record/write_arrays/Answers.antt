use Rattle.std.proofs.Common.{◌≡◌, ◌+◌, length, take, get_or, sym, arith}
use Rattle.jc_heap.specs.Fresh.{Fills}
use Rattle.jc_heap.specs.Package.{array_init, array_inits, array_words, arrays_words}
use Rattle.jc_heap.proofs.Packing.{no_array, values_small, are_bytes-step, arrays-step, arrays-within}
use Rattle.jc_heap.proofs.Streams.{piece_below, piece_more, free_left}
use Rattle.jc_heap.proofs.FreshRuns.{anyway, torn_piece}
use Rattle.jc_heap.proofs.record.write_arrays.Goals as goal

pub write_array-requires-clause-free : goal.write_array-requires-clause-free
write_array-requires-clause-free g c = free_left c.args.at c.loop-array.next (length (arrays_words c.args.owner (array_inits c.args.arrays.now)))
    (length (array_words c.args.owner (array_init (get_or c.args.arrays.now c.loop-array.array-index no_array))))
    (arrays_words c.args.owner (array_inits (take c.loop-array.array-index c.args.arrays.now))) c.args.journal.now c.loop-array.journal c.requires.free
    c.loop-array.invariant.below c.loop-array.invariant.done c.loop-array.invariant.behind
    (arrays-within c.args.owner c.args.arrays.now c.loop-array.array-index c.loop-array-test.true)

pub write_array-requires-clause-small : goal.write_array-requires-clause-small
write_array-requires-clause-small g c = values_small c.args.arrays.now c.loop-array.array-index c.requires.arrays c.loop-array-test.true

pub returns-in_err-write_array-clause-below : goal.returns-in_err-write_array-clause-below
returns-in_err-write_array-clause-below g c = piece_below c.args.at c.loop-array.next
    (arrays_words c.args.owner (array_inits (take c.loop-array.array-index c.args.arrays.now))) c.args.journal.now c.loop-array.journal
    c.write_array.new.journal c.loop-array.invariant.below c.loop-array.invariant.behind c.write_array.ensures.below

pub loop-array-preserved : goal.loop-array-preserved
loop-array-preserved g c =
    let here = get_or c.args.arrays.now c.loop-array.array-index no_array in
    let done : Fills c.args.at (arrays_words c.args.owner (array_inits (take (c.loop-array.array-index + 1) c.args.arrays.now))) c.args.journal.now
    c.write_array.new.journal × (c.loop-array.next + length (array_words c.args.owner (array_init here)) ≡ c.args.at
    + length (arrays_words c.args.owner (array_inits (take (c.loop-array.array-index + 1) c.args.arrays.now)))) =
    piece_more c.args.at c.loop-array.next (arrays_words c.args.owner (array_inits (take c.loop-array.array-index c.args.arrays.now)))
    (array_words c.args.owner (array_init here)) (arrays_words c.args.owner (array_inits (take (c.loop-array.array-index + 1) c.args.arrays.now)))
    c.args.journal.now c.loop-array.journal c.write_array.new.journal
    c.loop-array.invariant.done c.loop-array.invariant.behind c.in_ok-write_array.ensures.done
    (sym (arrays-step c.args.owner c.args.arrays.now c.loop-array.array-index c.loop-array-test.true)) in
    record {
      behind = omega (arith, done.1, c.packed_size.ensures);
      below = piece_below c.args.at c.loop-array.next (arrays_words c.args.owner (array_inits (take c.loop-array.array-index c.args.arrays.now)))
          c.args.journal.now c.loop-array.journal c.write_array.new.journal c.loop-array.invariant.below c.loop-array.invariant.behind
          c.write_array.ensures.below;
      bytes = are_bytes-step c.args.arrays.now c.loop-array.array-index c.loop-array-test.true c.loop-array.invariant.bytes c.in_ok-write_array.ensures.bytes;
      done = done.0;
    }

pub returns-in_err-write_array-clause-stopped : goal.returns-in_err-write_array-clause-stopped
returns-in_err-write_array-clause-stopped g c = anyway c.from_residual.result _
    (torn_piece c.args.at (length (arrays_words c.args.owner (array_inits c.args.arrays.now))) _
    (arrays_words c.args.owner (array_inits (take c.loop-array.array-index c.args.arrays.now))) c.args.journal.now c.loop-array.journal
    c.write_array.new.journal c.loop-array.invariant.done c.in_err-write_array.ensures.stopped
    (arrays-within c.args.owner c.args.arrays.now c.loop-array.array-index c.loop-array-test.true))
