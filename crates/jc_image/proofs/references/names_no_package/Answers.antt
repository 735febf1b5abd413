use Rattle.std.proofs.Common.{arith, ◌≡◌, ◌<◌, ◌≤◌, ◌∙◌, ◌+◌, ◌||◌, ap, sym, get_or, length, true, false, min, drop, inl, inr}
use Rattle.std.proofs.lemmas.Bool.{eq-eqb, ne_eqb, false≢true}
use Rattle.std.proofs.lemmas.List.{drop_all}
use Rattle.jc_words.specs.Layout.{packages_address, most_packages, text_start, top_address}
use Rattle.jc_heap.specs.Image.{image, package_addresses, is_package}
use Rattle.jc_heap.specs.Heap.{heap_of, is_allocated}
use Rattle.jc_heap.proofs.Reading.{no_package}
use Rattle.jc_heap.proofs.Walks.{length-packages, package_read, package_step}
use Rattle.jc_image.proofs.PackageTable.{table_long, table_short, table_word, table_readable}
use Rattle.jc_image.proofs.Naming.{named_reference, allocated_low}
use Rattle.jc_image.proofs.references.names_no_package.Goals as goal

pub overflow_add-k : goal.overflow_add-k
overflow_add-k g c = omega (arith, table_long c.args.journal.now.plain c.requires.laid c.requires.few, table_short c.args.journal.now.plain c.requires.laid)

pub read-requires : goal.read-requires
read-requires g c =
    let long : length ((heap_of c.args.journal.now.plain).packages) ≡ get_or c.args.journal.now.plain packages_address 0 =
    table_long c.args.journal.now.plain c.requires.laid c.requires.few in
    table_readable c.args.journal.now.plain c.requires.laid c.loop-k.k (omega (arith, long, c.read-count.ensures, c.loop-k-test.true))

pub returns-then-named-from-clause-some : goal.returns-then-named-from-clause-some
returns-then-named-from-clause-some g c = λ t. λ all.
    let wide : text_start ≤ get_or c.args.journal.now.plain top_address 0 = omega (arith, c.requires.laid.based) in
    let table : length ((heap_of c.args.journal.now.plain).packages) ≡ get_or c.args.journal.now.plain packages_address 0 =
    table_long c.args.journal.now.plain c.requires.laid c.requires.few in
    let within : c.loop-k.k < length ((heap_of c.args.journal.now.plain).packages) = omega (arith, table, c.read-count.ensures, c.loop-k-test.true) in
    let near : c.loop-k.k < min (get_or c.args.journal.now.plain packages_address 0) most_packages =
    omega (arith, table, within, table_short c.args.journal.now.plain c.requires.laid) in
    let long : c.loop-k.k < length (package_addresses (image c.args.journal.now.plain)) =
    omega (arith, near, length-packages c.args.journal.now.plain wide c.requires.laid.fits) in
    let word : get_or (package_addresses (image c.args.journal.now.plain)) c.loop-k.k 0 ≡ c.from.result =
    package_read c.args.journal.now.plain c.loop-k.k wide c.requires.laid.fits near ∙ sym (c.from.ensures ∙ c.read.ensures) in
    let there : is_package (package_addresses (image c.args.journal.now.plain)) c.from.result ≡ true =
    sym (c.loop-k.invariant c.from.result c.if-named-from.true) ∙ package_step (package_addresses (image c.args.journal.now.plain)) c.loop-k.k
    c.from.result long
    ∙ ap (λ b. b || is_package (drop (c.loop-k.k + 1) (package_addresses (image c.args.journal.now.plain))) c.from.result) (eq-eqb _ _ word) in
    let met : is_allocated (heap_of c.args.journal.now.plain) c.from.result ≡ true =
    ap (is_allocated (heap_of c.args.journal.now.plain)) (c.from.ensures ∙ c.read.ensures
    ∙ sym (table_word c.args.journal.now.plain c.requires.laid c.loop-k.k within)) ∙ c.requires.met c.loop-k.k within in
    elim (named_reference (heap_of c.args.journal.now.plain) c.args.named.now c.from.result all c.if-named-from.true) [
      | inl z ↦ omega (arith, z, allocated_low c.args.journal.now.plain c.requires.laid c.from.result met)
      | inr o ↦ false≢true (sym (no_package c.args.journal.now.plain c.from.result c.requires.laid o) ∙ there)
    ]

pub loop-k-preserved : goal.loop-k-preserved
loop-k-preserved g c = λ r e.
    let wide : text_start ≤ get_or c.args.journal.now.plain top_address 0 = omega (arith, c.requires.laid.based) in
    let table : length ((heap_of c.args.journal.now.plain).packages) ≡ get_or c.args.journal.now.plain packages_address 0 =
    table_long c.args.journal.now.plain c.requires.laid c.requires.few in
    let near : c.loop-k.k < min (get_or c.args.journal.now.plain packages_address 0) most_packages =
    omega (arith, table, c.read-count.ensures, c.loop-k-test.true, table_short c.args.journal.now.plain c.requires.laid) in
    let long : c.loop-k.k < length (package_addresses (image c.args.journal.now.plain)) =
    omega (arith, near, length-packages c.args.journal.now.plain wide c.requires.laid.fits) in
    let word : get_or (package_addresses (image c.args.journal.now.plain)) c.loop-k.k 0 ≡ c.from.result =
    package_read c.args.journal.now.plain c.loop-k.k wide c.requires.laid.fits near ∙ sym (c.from.ensures ∙ c.read.ensures) in
    sym (sym (c.loop-k.invariant r e) ∙ package_step (package_addresses (image c.args.journal.now.plain)) c.loop-k.k r long
    ∙ ap (λ b. b || is_package (drop (c.loop-k.k + 1) (package_addresses (image c.args.journal.now.plain))) r)
    (ne_eqb _ _ (λ same. false≢true (sym c.if-named-from.false ∙ ap (λ q. get_or c.args.named.now q false) (sym word ∙ same) ∙ e))))

pub returns-clause-none : goal.returns-clause-none
returns-clause-none g c = λ t. λ r e.
    let wide : text_start ≤ get_or c.args.journal.now.plain top_address 0 = omega (arith, c.requires.laid.based) in
    sym (c.loop-k.invariant r e) ∙ ap (λ l. is_package l r)
    (drop_all c.loop-k.k (package_addresses (image c.args.journal.now.plain)) (omega
    (arith, c.read-count.ensures, length-packages c.args.journal.now.plain wide c.requires.laid.fits)))
