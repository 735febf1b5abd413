use Rattle.std.proofs.Common.{◌+◌, ◌++◌, length, [], ◌∷◌, take, sym, subst, arith}
use Rattle.jc_heap.specs.Fresh.{KeepsBelow, Fills}
use Rattle.jc_heap.specs.Package.{array_inits, array_addresses}
use Rattle.jc_heap.proofs.Packing.{arrays-counted, arrays-below, addresses-step, length-addresses_taken}
use Rattle.jc_heap.proofs.Streams.{word_push}
use Rattle.jc_heap.proofs.FreshRuns.{anyway, torn_piece, torn_word}
use Rattle.jc_heap.proofs.record.write_references.Goals as goal

pub overflow_cast-address : goal.overflow_cast-address
overflow_cast-address g c = omega (
  arith,
  c.packed_size.ensures,
  arrays-counted c.args.arrays.now c.loop-k.k c.loop-k-test.true,
  arrays-below c.args.arrays.now (c.loop-k.k + 1),
  c.requires.small,
)

pub overflow_add-address : goal.overflow_add-address
overflow_add-address g c = omega (
  arith,
  c.packed_size.ensures,
  arrays-counted c.args.arrays.now c.loop-k.k c.loop-k-test.true,
  arrays-below c.args.arrays.now (c.loop-k.k + 1),
  c.requires.small,
)

pub overflow_add-address-in-loop-k : goal.overflow_add-address-in-loop-k
overflow_add-address-in-loop-k g c = omega (
  arith,
  c.packed_size.ensures,
  c.loop-k.invariant.address,
  arrays-counted c.args.arrays.now c.loop-k.k c.loop-k-test.true,
  arrays-below c.args.arrays.now (c.loop-k.k + 1),
  c.requires.small,
)

pub loop-k-preserved : goal.loop-k-preserved
loop-k-preserved g c =
    let long = length-addresses_taken c.args.first c.args.arrays.now c.loop-k.k c.loop-k-test.true in
    let p : KeepsBelow c.args.at c.args.journal.now c.write_fresh.new.self × Fills c.args.at
    (array_addresses c.args.first (array_inits (take c.loop-k.k c.args.arrays.now)) ++ c.loop-k.address ∷ []) c.args.journal.now
    c.write_fresh.new.self =
    word_push c.args.at c.loop-k.k c.loop-k.address (array_addresses c.args.first (array_inits (take c.loop-k.k c.args.arrays.now))) c.args.journal.now
    c.loop-k.journal c.write_fresh.new.self c.loop-k.invariant.below c.loop-k.invariant.done long
    (omega (arith, c.requires.free.fits, c.loop-k-test.true)) c.in_ok-write_fresh.ensures.ok in
    record {
      address = omega (arith, c.packed_size.ensures, c.loop-k.invariant.address, arrays-counted c.args.arrays.now c.loop-k.k c.loop-k-test.true);
      below = p.0;
      done = subst (λ l. Fills c.args.at l c.args.journal.now c.write_fresh.new.self)
          (sym (addresses-step c.args.first c.loop-k.address c.args.arrays.now c.loop-k.k c.loop-k-test.true c.loop-k.invariant.address)) p.1;
    }

pub returns-in_err-write_fresh-clause-stopped : goal.returns-in_err-write_fresh-clause-stopped
returns-in_err-write_fresh-clause-stopped g c = anyway c.from_residual.result _
    (torn_piece c.args.at (length c.args.arrays.now) 1 (array_addresses c.args.first (array_inits (take c.loop-k.k c.args.arrays.now))) c.args.journal.now
    c.loop-k.journal c.write_fresh.new.self c.loop-k.invariant.done (torn_word c.loop-k.journal c.write_fresh.new.self c.in_err-write_fresh.ensures.err)
    (omega (arith, length-addresses_taken c.args.first c.args.arrays.now c.loop-k.k c.loop-k-test.true, c.loop-k-test.true)))
