use Rattle.std.proofs.Common.{◌≡◌, ◌∙◌, ◌<◌, ℕ, List, Bool, false, length, ap, arith, subst, sym}
use Rattle.jc_words.specs.Refusals.{no_refusals}
use Rattle.jc_words.specs.Store.{MemStoreValue}
use Rattle.jc_heap.specs.Heap.{IsObject}
use Rattle.jc_heap.specs.Heap.Store.{HoldsHeap, heap_of_store_at_rest}
use Rattle.jc_linker.specs.Values.{Packages}
use Rattle.jc_packages.specs.Objects.{IsSoundObject, MarksObjects}
use Rattle.jc_card.specs.PoweredImage.{MayHold, heap_in}
use Rattle.jc_card.proofs.PoweredImages.{cell_set, marked_after, object_after}
use Rattle.jc_card.proofs.powered_image.PoweredImage.with_cell.Goals as goal

pub is_sound_at-requires-clause-marked : goal.is_sound_at-requires-clause-marked
is_sound_at-requires-clause-marked c =
    let words : List ℕ = c.self.inside.words.items in
    let rest : c.resume-heap.result ≡ heap_of_store_at_rest words 0 no_refusals = c.resume-heap.ensures
    ∙ ap (λ (m : MemStoreValue). heap_of_store_at_rest m.words m.passed no_refusals) c.of.ensures in
    subst (λ (l : List Bool). MarksObjects l c.set.new.self.now) (sym c.deref-2.ensures.value)
    (marked_after words c.args.object c.args.i c.args.v c.resume-heap.result c.set.new.self _ rest c.in-Ok.ensures c.self.inside.marks.items
    c.self.invariant.found.marked)

pub is_sound_at-requires-clause-there : goal.is_sound_at-requires-clause-there
is_sound_at-requires-clause-there c =
    let words : List ℕ = c.self.inside.words.items in
    let rest : c.resume-heap.result ≡ heap_of_store_at_rest words 0 no_refusals = c.resume-heap.ensures
    ∙ ap (λ (m : MemStoreValue). heap_of_store_at_rest m.words m.passed no_refusals) c.of.ensures in
    object_after words c.args.object c.args.i c.args.v c.resume-heap.result c.set.new.self _ rest c.in-Ok.ensures
    (subst (λ (w : List ℕ). IsObject (heap_in w) c.args.object) (sym c.self.view_is) c.requires)

pub invariant_of-result : goal.invariant_of-result
invariant_of-result c =
    let words : List ℕ = c.self.inside.words.items in
    let next : List ℕ = c.into_words.result.items in
    let r : ℕ = c.args.object in
    let rest : c.resume-heap.result ≡ heap_of_store_at_rest words 0 no_refusals = c.resume-heap.ensures
    ∙ ap (λ (m : MemStoreValue). heap_of_store_at_rest m.words m.passed no_refusals) c.of.ensures in
    let may = subst (λ (q : Packages). MayHold q c.resume-heap.result.now r c.args.i c.args.v) c.as_ref.ensures (c.may_hold.ensures c.if-not-may_hold.false) in
    let sound = subst (λ (q : Packages). IsSoundObject q c.set.new.self.now r) c.as_ref-2.ensures (c.is_sound_at.ensures.0 c.if-not-is_sound_at.false) in
    let passed : ℕ = c.into_store-store.result.passed in
    let holds : HoldsHeap next false passed no_refusals c.set.new.self =
    subst (λ (w : List ℕ). HoldsHeap w false passed no_refusals c.set.new.self) (sym c.into_words.ensures) c.into_store-store.ensures in
    let count : length next ≡ length c.into_store-store.result.words = ap (λ (w : List ℕ). length w) c.into_words.ensures in
    let small : length next < 65536 = omega (arith, count, c.size-size.ensures, c.size-size.type_inv) in
    cell_set words r c.args.i c.args.v c.resume-heap.result c.set.new.self _ rest c.in-Ok.ensures next passed no_refusals c.self.inside.marks.items
    c.self.inside.linked.value c.self.inside.fixed.items c.self.inside.sizes c.self.invariant may sound holds small
