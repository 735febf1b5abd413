use Rattle.std.proofs.Common.{◌≡◌, ◌∙◌, ℕ, List, false, ap, subst}
use Rattle.jc_words.specs.Refusals.{no_refusals}
use Rattle.jc_words.specs.Store.{FuseStoreValue}
use Rattle.jc_commit.specs.Image.{recovered_of}
use Rattle.jc_heap.specs.Heap.{heap_of}
use Rattle.jc_heap.specs.Heap.Store.{heap_of_store_at_rest}
use Rattle.jc_card.specs.PowerUp.Outcome.{IsPoweredOver}
use Rattle.jc_card.specs.PowerUp.Reset.{IsAtReset}
use Rattle.jc_card.proofs.PoweredImages.{begins, store_of, under_fuse}
use Rattle.jc_card.proofs.powered_image.PoweredImage.begin.Goals as goal

pub returns : goal.returns
returns c =
    let words : List ℕ = c.self.inside.words.items in
    let fresh : c.new-store.result ≡ store_of words = c.new-store.ensures ∙ ap under_fuse c.of.ensures
    ∙ ap store_of (c.in-Ok.ensures.items ∙ c.deref.ensures.value) in
    let over = c.card_over.ensures in
    subst (λ (w : List ℕ). IsPoweredOver w false 0 no_refusals c.args.budget c.card_over.result) c.self.view_is
    (begins words c.self.inside.marks.items c.self.inside.linked.value c.self.inside.fixed.items c.self.inside.sizes c.self.invariant c.args.budget
    c.card_over.result (over.heap ∙ ap (λ (s : FuseStoreValue). heap_of_store_at_rest s.words s.passed s.refusals) fresh)
    (subst (λ (s : FuseStoreValue). IsAtReset (heap_of (recovered_of s.words)) c.card_over.result) fresh over.reset) over.budget)
