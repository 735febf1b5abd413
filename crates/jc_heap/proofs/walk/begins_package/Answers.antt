use Rattle.std.proofs.Common.{arith, ◌≡◌, ◌<◌, ◌∙◌, ap, sym, length, get_or, ◌+◌, drop, ◌||◌, min}
use Rattle.std.proofs.lemmas.Bool.{eq-eqb, ne_eqb}
use Rattle.std.proofs.lemmas.List.{drop_all}
use Rattle.jc_words.specs.Layout.{packages_address, most_packages}
use Rattle.jc_heap.specs.Image.{image, package_addresses, is_package}
use Rattle.jc_heap.proofs.Walks.{length-packages, package_read, package_step}
use Rattle.jc_heap.proofs.walk.begins_package.Goals as goal

pub returns-then-read-at : goal.returns-then-read-at
returns-then-read-at g c =
    let near : c.loop-k.k < min (get_or c.args.journal.now.plain packages_address 0) most_packages = omega arith in
    let long : c.loop-k.k < length (package_addresses (image c.args.journal.now.plain)) =
    omega (arith, length-packages c.args.journal.now.plain c.requires.wide c.requires.fits) in
    let word : get_or (package_addresses (image c.args.journal.now.plain)) c.loop-k.k 0 ≡ c.args.at =
    package_read c.args.journal.now.plain c.loop-k.k c.requires.wide c.requires.fits near ∙ sym c.read-in-loop-k.ensures ∙ c.if-read-at.true in
    sym (sym c.loop-k.invariant ∙ package_step (package_addresses (image c.args.journal.now.plain)) c.loop-k.k c.args.at long
    ∙ ap (λ b. b || is_package (drop (c.loop-k.k + 1) (package_addresses (image c.args.journal.now.plain))) c.args.at) (eq-eqb _ _ word))

pub loop-k-preserved : goal.loop-k-preserved
loop-k-preserved g c =
    let near : c.loop-k.k < min (get_or c.args.journal.now.plain packages_address 0) most_packages = omega arith in
    let long : c.loop-k.k < length (package_addresses (image c.args.journal.now.plain)) =
    omega (arith, length-packages c.args.journal.now.plain c.requires.wide c.requires.fits) in
    let word = package_read c.args.journal.now.plain c.loop-k.k c.requires.wide c.requires.fits near ∙ sym c.read-in-loop-k.ensures in
    sym (sym c.loop-k.invariant ∙ package_step (package_addresses (image c.args.journal.now.plain)) c.loop-k.k c.args.at long
    ∙ ap (λ b. b || is_package (drop (c.loop-k.k + 1) (package_addresses (image c.args.journal.now.plain))) c.args.at)
    (ne_eqb _ _ (λ e. c.if-read-at.false (sym word ∙ e))))

pub returns : goal.returns
returns g c =
    sym (sym c.loop-k.invariant ∙ ap (λ l. is_package l c.args.at) (drop_all c.loop-k.k (package_addresses (image c.args.journal.now.plain))
    (omega (arith, length-packages c.args.journal.now.plain c.requires.wide c.requires.fits))))
