use Rattle.std.proofs.Common.{◌≡◌, ◌+◌, ◌/◌, ◌∙◌, length, subst, sym, ap, arith}
use Rattle.jc_heap.proofs.Views.{readable}
use Rattle.jc_heap.specs.Heap.{IsObject, heap_of, facts, cells}
use Rattle.jc_heap.proofs.Reading.{Spot, spot_at, facts_built, cells_are, persistent_of}
use Rattle.jc_heap.proofs.lookup.facts_at.Goals as goal

pub read-word-requires : goal.read-word-requires
read-word-requires g c =
    let s : Spot c.args.journal.now c.address-at.result = spot_at c.args.journal.now c.args.object c.address-at.result c.requires.laid c.requires.small
    c.requires.there c.address-at.ensures in
    readable (length c.args.journal.now.plain) c.address-at.result (omega (arith, s.high)) s.low

pub area_place-place-requires-clause-behind : goal.area_place-place-requires-clause-behind
area_place-place-requires-clause-behind g c =
    let s : Spot c.args.journal.now c.address-at.result = spot_at c.args.journal.now c.args.object c.address-at.result c.requires.laid c.requires.small
    c.requires.there c.address-at.ensures in
    s.low

pub area_place-place-requires-clause-there : goal.area_place-place-requires-clause-there
area_place-place-requires-clause-there g c =
    let s : Spot c.args.journal.now c.address-at.result = spot_at c.args.journal.now c.args.object c.address-at.result c.requires.laid c.requires.small
    c.requires.there c.address-at.ensures in
    λ n. s.behind (λ e. n (ap (λ w. w / 256) c.read-word.ensures ∙ e))

pub read_at-requires : goal.read_at-requires
read_at-requires g c =
    let s : Spot c.args.journal.now c.address-at.result = spot_at c.args.journal.now c.args.object c.address-at.result c.requires.laid c.requires.small
    c.requires.there c.address-at.ensures in
    readable (length c.args.journal.now.plain) (c.address-at.result + 1) (omega (arith, s.high)) (omega (arith, s.low))

pub overflow_add-first : goal.overflow_add-first
overflow_add-first g c =
    let s : Spot c.args.journal.now c.address-at.result = spot_at c.args.journal.now c.args.object c.address-at.result c.requires.laid c.requires.small
    c.requires.there c.address-at.ensures in
    omega (arith, s.high, s.small)

pub read_at-requires-2 : goal.read_at-requires-2
read_at-requires-2 g c =
    let s : Spot c.args.journal.now c.address-at.result = spot_at c.args.journal.now c.args.object c.address-at.result c.requires.laid c.requires.small
    c.requires.there c.address-at.ensures in
    readable (length c.args.journal.now.plain) (c.address-at.result + 2) (omega (arith, s.high)) (omega (arith, s.low))

pub overflow_add-first-2 : goal.overflow_add-first-2
overflow_add-first-2 g c =
    let s : Spot c.args.journal.now c.address-at.result = spot_at c.args.journal.now c.args.object c.address-at.result c.requires.laid c.requires.small
    c.requires.there c.address-at.ensures in
    omega (arith, s.high, s.small)

pub read_at-requires-3 : goal.read_at-requires-3
read_at-requires-3 g c =
    let s : Spot c.args.journal.now c.address-at.result = spot_at c.args.journal.now c.args.object c.address-at.result c.requires.laid c.requires.small
    c.requires.there c.address-at.ensures in
    readable (length c.args.journal.now.plain) (c.address-at.result + 3) (omega (arith, s.high)) (omega (arith, s.low))

pub overflow_add-first-3 : goal.overflow_add-first-3
overflow_add-first-3 g c =
    let s : Spot c.args.journal.now c.address-at.result = spot_at c.args.journal.now c.args.object c.address-at.result c.requires.laid c.requires.small
    c.requires.there c.address-at.ensures in
    omega (arith, s.high, s.small)

pub returns-clause-facts : goal.returns-clause-facts
returns-clause-facts g c =
    let there : IsObject (heap_of c.args.journal.now.plain) c.address-at.result = subst (IsObject (heap_of c.args.journal.now.plain))
    (sym c.address-at.ensures) c.requires.there in
    facts_built c.args.journal.now.plain c.address-at.result c.requires.laid there c.read-word.result c.of.result c.event_of_number.result c.read_at.result
    c.read_at-2.result c.read_at-3.result c.area_place-place.result c.is_packed_header.result
    c.read-word.ensures c.of.ensures c.event_of_number.ensures c.read_at.ensures c.read_at-2.ensures c.read_at-3.ensures c.area_place-place.ensures c.is_packed_header.ensures
    ∙ ap (facts (heap_of c.args.journal.now.plain)) c.address-at.ensures

pub returns-clause-cells : goal.returns-clause-cells
returns-clause-cells g c = λ e.
    let there : IsObject (heap_of c.args.journal.now.plain) c.address-at.result = subst (IsObject (heap_of c.args.journal.now.plain))
    (sym c.address-at.ensures) c.requires.there in
    let zero : c.read-word.result / 256 ≡ 0 = persistent_of (c.read-word.result / 256) (sym c.event_of_number.ensures ∙ e) in
    ap (λ r. length (cells (heap_of c.args.journal.now.plain) r)) (sym c.address-at.ensures)
    ∙ cells_are c.args.journal.now.plain c.address-at.result c.requires.laid there c.requires.small (ap (λ w. w / 256) (sym c.read-word.ensures) ∙ zero)
    ∙ sym c.read_at-3.ensures
