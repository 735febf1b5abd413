use Rattle.std.proofs.Common.{arith, ◌≡◌, ◌+◌, ◌/◌, ◌∙◌, ap, sym, subst, map, drop}
use Rattle.std.proofs.lemmas.Bool.{false≢true}
use Rattle.jc_words.specs.Layout.{text_start}
use Rattle.jc_heap.specs.Walk.{records_from, missing_words}
use Rattle.jc_heap.specs.Image.{image, package_addresses, sizes, base, item_entry}
use Rattle.jc_heap.specs.Heap.{first_above, next_object, heap_of, IsObject}
use Rattle.jc_heap.proofs.Reading.{object_spot}
use Rattle.jc_heap.proofs.Following.{whole_from, next_from, whole_first, next_first, base_is}
use Rattle.jc_heap.proofs.NextObjects.{next_is_object}
use Rattle.jc_heap.proofs.lookup.next_behind.Goals as goal

pub first_object-requires-clause-whole : goal.first_object-requires-clause-whole
first_object-requires-clause-whole g c =
    let e : text_start + (c.from-text.result + 1) / 2 ≡ base (image c.args.journal.now.plain) =
    ap (λ n. text_start + (n + 1) / 2) (c.from-text.ensures ∙ c.read.ensures) ∙ sym (base_is c.args.journal.now.plain c.requires.laid) in
    subst (λ a. missing_words (sizes (package_addresses (image c.args.journal.now.plain))) 0 a (drop a (image c.args.journal.now.plain)) ≡ 0) (sym e)
    (whole_first c.args.journal.now.plain c.requires.laid)

pub returns-then-is_null-clause-next : goal.returns-then-is_null-clause-next
returns-then-is_null-clause-next g c =
    let e : text_start + (c.from-text.result + 1) / 2 ≡ base (image c.args.journal.now.plain) =
    ap (λ n. text_start + (n + 1) / 2) (c.from-text.ensures ∙ c.read.ensures) ∙ sym (base_is c.args.journal.now.plain c.requires.laid) in
    c.first_object.ensures
    ∙ ap (λ a. first_above (map (item_entry (package_addresses (image c.args.journal.now.plain)))
    (records_from (sizes (package_addresses (image c.args.journal.now.plain))) 0 a (drop a (image c.args.journal.now.plain)))) 0) e
    ∙ sym (next_first c.args.journal.now.plain)
    ∙ ap (next_object (heap_of c.args.journal.now.plain)) (sym (c.is_null.ensures.0 c.if-is_null.true))

pub returns-then-is_null-clause-object : goal.returns-then-is_null-clause-object
returns-then-is_null-clause-object g c = next_is_object c.args.journal.now.plain c.args.object c.first_object.result (returns-then-is_null-clause-next g c)

pub first_object-requires-2-clause-low : goal.first_object-requires-2-clause-low
first_object-requires-2-clause-low g c =
    let there : IsObject (heap_of c.args.journal.now.plain) c.args.object = c.requires.there
    (λ z. false≢true (sym c.if-is_null.false ∙ c.is_null.ensures.1 z)) in
    omega (arith, (object_spot c.args.journal.now.plain c.args.object c.requires.laid there).0, c.address-at.ensures)

pub first_object-requires-2-clause-high : goal.first_object-requires-2-clause-high
first_object-requires-2-clause-high g c =
    let there : IsObject (heap_of c.args.journal.now.plain) c.args.object = c.requires.there
    (λ z. false≢true (sym c.if-is_null.false ∙ c.is_null.ensures.1 z)) in
    omega (arith, (object_spot c.args.journal.now.plain c.args.object c.requires.laid there).1, c.address-at.ensures)

pub first_object-requires-2-clause-whole : goal.first_object-requires-2-clause-whole
first_object-requires-2-clause-whole g c =
    let there : IsObject (heap_of c.args.journal.now.plain) c.args.object = c.requires.there
    (λ z. false≢true (sym c.if-is_null.false ∙ c.is_null.ensures.1 z)) in
    subst (λ a. missing_words (sizes (package_addresses (image c.args.journal.now.plain))) 0 a (drop a (image c.args.journal.now.plain)) ≡ 0)
    (sym c.address-at.ensures) (whole_from c.args.journal.now.plain c.args.object c.requires.laid there)

pub returns-clause-next : goal.returns-clause-next
returns-clause-next g c =
    let there : IsObject (heap_of c.args.journal.now.plain) c.args.object = c.requires.there
    (λ z. false≢true (sym c.if-is_null.false ∙ c.is_null.ensures.1 z)) in
    c.first_object-2.ensures
    ∙ ap (λ a. first_above (map (item_entry (package_addresses (image c.args.journal.now.plain)))
    (records_from (sizes (package_addresses (image c.args.journal.now.plain))) 0 a (drop a (image c.args.journal.now.plain)))) a) c.address-at.ensures
    ∙ sym (next_from c.args.journal.now.plain c.args.object c.requires.laid there)

pub returns-clause-object : goal.returns-clause-object
returns-clause-object g c = next_is_object c.args.journal.now.plain c.args.object c.first_object-2.result (returns-clause-next g c)
