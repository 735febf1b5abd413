use Rattle.std.proofs.Common.{arith, ◌≡◌, ◌<◌, ◌≤◌, ◌+◌, ◌∙◌, ◌||◌, ap, sym, refl, true, get_or, drop, length}
use Rattle.std.proofs.lemmas.Bool.{eq-eqb, ne_eqb}
use Rattle.std.proofs.lemmas.List.{length-take-le, drop_all}
use Rattle.jc_words.specs.Layout.{top_address}
use Rattle.jc_heap.specs.Walk.{records_from, has_entry}
use Rattle.jc_heap.specs.Image.{image, package_addresses, sizes}
use Rattle.jc_heap.proofs.Following.{step_fits, step_whole, step_cut}
use Rattle.jc_heap.proofs.walk.begins_record.Goals as goal

pub returns-then-at-address : goal.returns-then-at-address
returns-then-at-address g c =
    let below : c.loop-at.at < get_or c.args.journal.now.plain top_address 0 = omega arith in
    let size = sizes (package_addresses (image c.args.journal.now.plain)) c.loop-at.at (drop c.loop-at.at (image c.args.journal.now.plain)) + 1 in
    let found : has_entry (records_from (sizes (package_addresses (image c.args.journal.now.plain))) 0 c.loop-at.at
    (drop c.loop-at.at (image c.args.journal.now.plain))) c.args.address ≡ true =
    ap (λ l. has_entry l c.args.address) (step_cut c.args.journal.now.plain c.loop-at.at size c.requires.laid below c.loop-at.invariant.whole refl)
    ∙ ap (λ b. b || has_entry (records_from (sizes (package_addresses (image c.args.journal.now.plain))) 0 (c.loop-at.at + size)
    (drop (c.loop-at.at + size) (image c.args.journal.now.plain))) c.args.address) (eq-eqb c.loop-at.at c.args.address c.if-at-address.true) in
    sym found ∙ c.loop-at.invariant.left

pub overflow_cast-at : goal.overflow_cast-at
overflow_cast-at g c =
    let below : c.loop-at.at < get_or c.args.journal.now.plain top_address 0 = omega arith in
    let f = step_fits c.args.journal.now.plain c.loop-at.at c.record_size-size.result c.requires.laid below c.loop-at.invariant.whole c.record_size-size.ensures
    in
    omega (arith, f, c.requires.laid.fits, c.requires.small)

pub overflow_add-at : goal.overflow_add-at
overflow_add-at g c =
    let below : c.loop-at.at < get_or c.args.journal.now.plain top_address 0 = omega arith in
    let f = step_fits c.args.journal.now.plain c.loop-at.at c.record_size-size.result c.requires.laid below c.loop-at.invariant.whole c.record_size-size.ensures
    in
    omega (arith, f, c.requires.laid.fits, c.requires.small)

pub loop-at-preserved : goal.loop-at-preserved
loop-at-preserved g c =
    let below : c.loop-at.at < get_or c.args.journal.now.plain top_address 0 = omega arith in
    let f = step_fits c.args.journal.now.plain c.loop-at.at c.record_size-size.result c.requires.laid below c.loop-at.invariant.whole c.record_size-size.ensures
    in
    let next : has_entry (records_from (sizes (package_addresses (image c.args.journal.now.plain))) 0 c.loop-at.at
    (drop c.loop-at.at (image c.args.journal.now.plain))) c.args.address ≡ has_entry
    (records_from (sizes (package_addresses (image c.args.journal.now.plain))) 0 (c.loop-at.at + c.record_size-size.result)
    (drop (c.loop-at.at + c.record_size-size.result) (image c.args.journal.now.plain))) c.args.address =
    ap (λ l. has_entry l c.args.address) (step_cut c.args.journal.now.plain c.loop-at.at c.record_size-size.result c.requires.laid below
    c.loop-at.invariant.whole c.record_size-size.ensures)
    ∙ ap (λ b. b || has_entry (records_from (sizes (package_addresses (image c.args.journal.now.plain))) 0 (c.loop-at.at + c.record_size-size.result)
    (drop (c.loop-at.at + c.record_size-size.result) (image c.args.journal.now.plain))) c.args.address)
    (ne_eqb c.loop-at.at c.args.address c.if-at-address.false) in
    record {
      low = omega arith;
      high = omega (arith, f);
      whole = step_whole c.args.journal.now.plain c.loop-at.at c.record_size-size.result c.requires.laid below c.loop-at.invariant.whole
          c.record_size-size.ensures;
      left = sym next ∙ c.loop-at.invariant.left;
    }

pub returns : goal.returns
returns g c =
    let past : length (image c.args.journal.now.plain) ≤ c.loop-at.at = omega (
      arith,
      length-take-le (get_or c.args.journal.now.plain top_address 0) c.args.journal.now.plain c.requires.laid.fits,
    ) in
    ap (λ l. has_entry (records_from (sizes (package_addresses (image c.args.journal.now.plain))) 0 c.loop-at.at l) c.args.address)
    (sym (drop_all c.loop-at.at (image c.args.journal.now.plain) past)) ∙ c.loop-at.invariant.left
