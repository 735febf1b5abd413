use Rattle.std.proofs.Common.{◌≡◌, ◌∙◌, ◌<◌, ℕ, List, Bool, length, ap, arith, refl, subst, sym}
use Rattle.jc_commit.specs.Image.{recovered_of}
use Rattle.jc_commit.specs.State.{State}
use Rattle.jc_heap.specs.Heap.{HeapView, area_sizes, heap_of}
use Rattle.jc_packages.specs.Objects.{MarksObjects}
use Rattle.jc_packages.specs.Tables.{HasTable}
use Rattle.jc_platform.specs.Tokens.{Tokens}
use Rattle.jc_card.specs.PowerUp.{HasHead, HasHeap}
use Rattle.jc_card.specs.PowerUp.Reset.{ArePartsOf}
use Rattle.jc_card.specs.PoweredImage.{IsPoweredImage}
use Rattle.jc_card.proofs.PoweredImages.{read_image}
use Rattle.jc_card.proofs.powered_image.PoweredImage.of_store.Goals as goal

pub invariant_of-result : goal.invariant_of-result
invariant_of-result c =
    let words : List ℕ = c.args.store.words in
    let parts = c.in_ok-parts.parts in
    let marks : List Bool = c.in_ok-parts.marks.items in
    let found = c.in_ok-parts.ensures in
    let begins = c.in-Ok.ensures.ok.0 refl in
    let head : HasHead words = record { magic = begins.0; version = begins.1; size = begins.2 } in
    let plain : c.resume-image.result.plain ≡ recovered_of words = ap (λ (j : State). j.plain) c.resume-image.ensures ∙ ap recovered_of c.of.ensures.words in
    let areas : c.area_sizes-sizes.result ≡ area_sizes (heap_of (recovered_of words)) = c.area_sizes-sizes.ensures
    ∙ ap (λ (v : HeapView). area_sizes v.now) c.resume.ensures ∙ ap (λ (w : List ℕ). area_sizes (heap_of (recovered_of w))) c.of-2.ensures.words in
    let many : c.in_ok-parts.marks.len ≡ 65536 = found.long in
    let long : length marks ≡ 65536 = omega (arith, c.in_ok-parts.marks.ok, many) in
    let small : length words < 65536 = omega (arith, c.size-size.ensures, c.size-size.type_inv) in
    subst (λ (w : List ℕ). IsPoweredImage w marks c.in_ok-linked.linked.value parts.fixed.items c.area_sizes-sizes.result) (sym c.into_words.ensures)
    (read_image words marks parts c.in_ok-linked.linked.value c.area_sizes-sizes.result head c.requires.good c.requires.closed c.requires.current
    (subst (λ (w : List ℕ). (t : Tokens) × HasTable w t × HasHeap t w) plain found.ok) (subst (λ (w : List ℕ). ArePartsOf (heap_of w) parts) plain found.parts)
    c.in_ok-linked.ensures long (subst (λ (w : List ℕ). MarksObjects marks (heap_of w)) plain found.marked) areas small)
