use Rattle.std.proofs.Common.{arith, ◌≡◌, ◌<◌, ◌≤◌, ◌∙◌, ap, sym, refl, length, get_or, ◌+◌, true, drop, ◌||◌, min}
use Rattle.std.proofs.lemmas.Bool.{eq-eqb, ne_eqb, false≢true}
use Rattle.std.proofs.lemmas.List.{drop_all}
use Rattle.jc_words.specs.Layout.{packages_address, most_packages}
use Rattle.jc_heap.specs.Image.{image, package_addresses, is_package}
use Rattle.jc_heap.proofs.Walks.{length-packages, package_read, package_step}
use Rattle.jc_image.proofs.opening.packages_below.Goals as goal

pub returns-then-read-top : goal.returns-then-read-top
returns-then-read-top g c =
    let near : c.loop-k.k < min (get_or c.args.journal.now.plain packages_address 0) most_packages = omega arith in
    let long : c.loop-k.k < length (package_addresses (image c.args.journal.now.plain)) =
    omega (arith, length-packages c.args.journal.now.plain c.requires.wide c.requires.fits) in
    let word : get_or (package_addresses (image c.args.journal.now.plain)) c.loop-k.k 0 ≡ c.read-in-loop-k.result =
    package_read c.args.journal.now.plain c.loop-k.k c.requires.wide c.requires.fits near ∙ sym c.read-in-loop-k.ensures in
    let at_or_above : c.args.top ≤ c.read-in-loop-k.result = omega arith in
    let there : is_package (package_addresses (image c.args.journal.now.plain)) c.read-in-loop-k.result ≡ true =
    sym (c.loop-k.invariant c.read-in-loop-k.result at_or_above) ∙ package_step (package_addresses (image c.args.journal.now.plain)) c.loop-k.k
    c.read-in-loop-k.result long
    ∙ ap (λ b. b || is_package (drop (c.loop-k.k + 1) (package_addresses (image c.args.journal.now.plain))) c.read-in-loop-k.result) (eq-eqb _ _ word) in
    ((λ t. absurd (false≢true t)), λ none. absurd (false≢true (sym (none c.read-in-loop-k.result at_or_above) ∙ there)))

pub loop-k-preserved : goal.loop-k-preserved
loop-k-preserved g c = λ a le.
    let near : c.loop-k.k < min (get_or c.args.journal.now.plain packages_address 0) most_packages = omega arith in
    let long : c.loop-k.k < length (package_addresses (image c.args.journal.now.plain)) =
    omega (arith, length-packages c.args.journal.now.plain c.requires.wide c.requires.fits) in
    let word : get_or (package_addresses (image c.args.journal.now.plain)) c.loop-k.k 0 ≡ c.read-in-loop-k.result =
    package_read c.args.journal.now.plain c.loop-k.k c.requires.wide c.requires.fits near ∙ sym c.read-in-loop-k.ensures in
    let below : c.read-in-loop-k.result < c.args.top = omega arith in
    let other : get_or (package_addresses (image c.args.journal.now.plain)) c.loop-k.k 0 ≡ a → ⊥ = λ e. omega (arith, word, e, below, le) in
    sym (sym (c.loop-k.invariant a le) ∙ package_step (package_addresses (image c.args.journal.now.plain)) c.loop-k.k a long
    ∙ ap (λ b. b || is_package (drop (c.loop-k.k + 1) (package_addresses (image c.args.journal.now.plain))) a) (ne_eqb _ _ other))

pub returns : goal.returns
returns g c = (
  (λ _. λ a le. sym (c.loop-k.invariant a le) ∙ ap (λ l. is_package l a)
      (drop_all c.loop-k.k (package_addresses (image c.args.journal.now.plain)) (omega
      (arith, length-packages c.args.journal.now.plain c.requires.wide c.requires.fits)))),
  λ _. refl,
)
