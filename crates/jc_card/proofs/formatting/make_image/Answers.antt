use Rattle.std.proofs.Common.{◌≡◌, ◌≤◌, ℕ, length, take, ap, subst, sym, ◌∙◌}
use Rattle.jc_words.specs.Layout.{front_length}
use Rattle.jc_heap.specs.Heap.Store.{HoldsHeap}
use Rattle.jc_image.specs.Laying.{first_words_of, sealed_heap, sealed_view}
use Rattle.jc_environment.specs.Objects.{cells_of_all}
use Rattle.jc_card.specs.Fixed.{with_objects}
use Rattle.jc_card.specs.ProductImages.{new_front, objects_in}
use Rattle.jc_card.proofs.MadeImages.{long_of, made_if, mapped_if}
use Rattle.jc_card.proofs.FixedObjects.{head-all, room_limit}
use Rattle.jc_heap.specs.Heap.{HeapState, area_limit}
use Rattle.jc_transient.specs.declared.cell.ClearEvent.TheVariants.{Reset}
use Rattle.jc_card.proofs.NewFronts.{front-new}
use Rattle.jc_card.proofs.formatting.make_image.Goals as goal

pub make_fixed-requires-clause-room : goal.make_fixed-requires-clause-room
make_fixed-requires-clause-room g c =
    subst (λ (h : HeapState). cells_of_all (objects_in c.args.room c.args.table.now) ≤ area_limit h Reset) (sym (ap (λ v. v.now) c.in_ok-heap.ensures.done))
    (room_limit (length (g.S.WordStore.words c.args.store)) c.args.room c.args.text.now c.args.table.now c.requires.sizes)

pub returns-clause-size : goal.returns-clause-size
returns-clause-size g c =
    let S = g.S.WordStore in
    mapped_if c.seal.result (λ s. HoldsHeap (S.words s) (S.down s) (S.passed s) (S.refusals s) (sealed_view c.make_fixed.new.heap))
    (λ s. length (S.words s) ≡ length (S.words c.args.store))
    (λ s h. long_of (S.words s) (S.down s) (S.passed s) (S.refusals s) (sealed_view c.make_fixed.new.heap) (length (S.words c.args.store)) h
    (ap (λ (v : HeapState). v.head.1) c.in-Ok.ensures.made ∙ ap (λ (h : ℕ × ℕ). h.1) (head-all c.args.table.now c.in_ok-heap.heap.now (objects_in c.args.room c.args.table.now))
    ∙ ap (λ v. v.now.head.1) c.in_ok-heap.ensures.done)) c.seal.ensures.sealed

pub returns-clause-front : goal.returns-clause-front
returns-clause-front g c =
    let S = g.S.WordStore in
    let n = length (S.words c.args.store) in
    let text = c.args.text.now in
    let t = c.args.table.now in
    let heap = ap sealed_heap c.in-Ok.ensures.made ∙ ap (λ v. sealed_heap (with_objects t (v.now) (objects_in c.args.room t))) c.in_ok-heap.ensures.done in
    mapped_if c.seal.result (λ s. take front_length (S.words s) ≡ first_words_of (sealed_heap c.make_fixed.new.heap.now))
    (λ s. take front_length (S.words s) ≡ new_front n c.args.room (length text) t) (λ s h. h ∙ (ap (λ h. first_words_of h) heap ∙ front-new n c.args.room text t)) c.seal.ensures.front

pub returns-clause-made : goal.returns-clause-made
returns-clause-made g c =
    let S = g.S.WordStore in
    made_if S.words S.down S.passed S.refusals c.seal.result (sealed_view c.make_fixed.new.heap)
    (length (S.words c.args.store)) c.args.room c.args.text.now c.args.table.now c.seal.ensures.sealed
    (ap sealed_heap c.in-Ok.ensures.made ∙ ap (λ v. sealed_heap (with_objects c.args.table.now (v.now) (objects_in c.args.room c.args.table.now))) c.in_ok-heap.ensures.done)
    c.requires.enough c.requires.sizes c.requires.reads
