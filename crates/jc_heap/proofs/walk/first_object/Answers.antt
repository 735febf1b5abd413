use Rattle.std.proofs.Common.{arith, ◌<◌, ◌+◌, ◌∙◌, ap, sym, refl, get_or, drop, Some}
use Rattle.jc_words.specs.Layout.{top_address}
use Rattle.jc_heap.specs.Image.{image, package_addresses, sizes}
use Rattle.jc_heap.proofs.Following.{step_fits, step_whole, step_is, step_is_not}
use Rattle.jc_heap.proofs.walk.first_object.Goals as goal

pub returns-then-is_object_above : goal.returns-then-is_object_above
returns-then-is_object_above g c =
    let below : c.loop-at.at < get_or c.args.journal.now.plain top_address 0 = omega arith in
    let found = step_is c.args.journal.now.plain c.loop-at.at (sizes (package_addresses (image c.args.journal.now.plain)) c.loop-at.at
    (drop c.loop-at.at (image c.args.journal.now.plain)) + 1) c.requires.laid below c.loop-at.invariant.whole refl c.args.above
    (sym c.is_object_above.ensures ∙ c.if-is_object_above.true) in
    ap Some c.at.ensures ∙ sym found ∙ c.loop-at.invariant.left

pub overflow_cast-at : goal.overflow_cast-at
overflow_cast-at g c =
    let below : c.loop-at.at < get_or c.args.journal.now.plain top_address 0 = omega arith in
    let f = step_fits c.args.journal.now.plain c.loop-at.at c.record_size-size.result c.requires.laid below c.loop-at.invariant.whole c.record_size-size.ensures
    in
    omega (arith, f, c.requires.laid.fits, c.requires.small)

pub overflow_add-at : goal.overflow_add-at
overflow_add-at g c =
    let below : c.loop-at.at < get_or c.args.journal.now.plain top_address 0 = omega arith in
    let f = step_fits c.args.journal.now.plain c.loop-at.at c.record_size-size.result c.requires.laid below c.loop-at.invariant.whole c.record_size-size.ensures
    in
    omega (arith, f, c.requires.laid.fits, c.requires.small)

pub loop-at-preserved : goal.loop-at-preserved
loop-at-preserved g c =
    let below : c.loop-at.at < get_or c.args.journal.now.plain top_address 0 = omega arith in
    let f = step_fits c.args.journal.now.plain c.loop-at.at c.record_size-size.result c.requires.laid below c.loop-at.invariant.whole c.record_size-size.ensures
    in
    record {
      low = omega arith;
      high = omega (arith, f);
      whole = step_whole c.args.journal.now.plain c.loop-at.at c.record_size-size.result c.requires.laid below c.loop-at.invariant.whole
          c.record_size-size.ensures;
      left = sym (step_is_not c.args.journal.now.plain c.loop-at.at c.record_size-size.result c.requires.laid below c.loop-at.invariant.whole
          c.record_size-size.ensures c.args.above (sym c.is_object_above.ensures ∙ c.if-is_object_above.false)) ∙ c.loop-at.invariant.left;
    }
