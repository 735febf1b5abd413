use Rattle.std.proofs.Common.{arith, ◌≡◌, ◌<◌, ◌∙◌, ap, sym, length, get_or, ◌+◌, drop, ◌||◌, min, List, ℕ}
use Rattle.std.proofs.lemmas.Bool.{eq-eqb, ne_eqb}
use Rattle.std.proofs.lemmas.List.{drop_all}
use Rattle.jc_words.specs.Layout.{most_packages, packages_address}
use Rattle.jc_heap.specs.Image.{image, is_package, package_addresses}
use Rattle.jc_heap.proofs.Walks.{length-packages, package_read, package_step}
use Rattle.jc_objects.proofs.HeapBounds.{Bounds, bounds}
use Rattle.jc_objects.proofs.records.begins_package.Goals as goal

pub word-requires : goal.word-requires
word-requires g c =
    let b : Bounds (g.W.ImageWords.words c.args.words.now) = bounds (g.W.ImageWords.words c.args.words.now) c.requires in
    record { below = omega (arith, b.wide, b.fits); not_count = λ e. omega arith; beside = λ far. omega (arith, far) }

pub returns-then-word-at : goal.returns-then-word-at
returns-then-word-at g c =
    let w : List ℕ = g.W.ImageWords.words c.args.words.now in
    let b : Bounds w = bounds w c.requires in
    let near : c.loop-k.k < min (get_or w packages_address 0) most_packages = omega arith in
    let long : c.loop-k.k < length (package_addresses (image w)) = omega (arith, length-packages w b.wide b.fits) in
    let word : get_or (package_addresses (image w)) c.loop-k.k 0 ≡ c.args.at =
    package_read w c.loop-k.k b.wide b.fits near ∙ sym c.word-in-loop-k.ensures ∙ c.if-word-at.true in
    sym (sym c.loop-k.invariant ∙ package_step (package_addresses (image w)) c.loop-k.k c.args.at long
    ∙ ap (λ b. b || is_package (drop (c.loop-k.k + 1) (package_addresses (image w))) c.args.at) (eq-eqb _ _ word))

pub loop-k-preserved : goal.loop-k-preserved
loop-k-preserved g c =
    let w : List ℕ = g.W.ImageWords.words c.args.words.now in
    let b : Bounds w = bounds w c.requires in
    let near : c.loop-k.k < min (get_or w packages_address 0) most_packages = omega arith in
    let long : c.loop-k.k < length (package_addresses (image w)) = omega (arith, length-packages w b.wide b.fits) in
    let word = package_read w c.loop-k.k b.wide b.fits near ∙ sym c.word-in-loop-k.ensures in
    sym (sym c.loop-k.invariant ∙ package_step (package_addresses (image w)) c.loop-k.k c.args.at long
    ∙ ap (λ b. b || is_package (drop (c.loop-k.k + 1) (package_addresses (image w))) c.args.at)
    (ne_eqb _ _ (λ e. c.if-word-at.false (sym word ∙ e))))

pub returns : goal.returns
returns g c =
    let w : List ℕ = g.W.ImageWords.words c.args.words.now in
    let b : Bounds w = bounds w c.requires in
    sym (sym c.loop-k.invariant ∙ ap (λ l. is_package l c.args.at) (drop_all c.loop-k.k (package_addresses (image w))
    (omega (arith, length-packages w b.wide b.fits))))
