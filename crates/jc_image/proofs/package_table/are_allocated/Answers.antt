use Rattle.std.proofs.Common.{arith, ◌≡◌, ◌<◌, ◌∙◌, ap, sym, get_or, length, true, slice_index, refl}
use Rattle.std.proofs.lemmas.Bool.{false≢true}
use Rattle.jc_words.specs.Layout.{packages_address}
use Rattle.jc_heap.specs.Heap.{heap_of, is_allocated}
use Rattle.jc_image.proofs.PackageTable.{table_long, table_short, table_word, table_readable, below_or_at}
use Rattle.jc_image.proofs.package_table.are_allocated.Goals as goal

pub overflow_add-k : goal.overflow_add-k
overflow_add-k g c = omega (arith, table_long c.args.journal.now.plain c.requires.laid c.requires.few, table_short c.args.journal.now.plain c.requires.laid)

pub read-requires : goal.read-requires
read-requires g c =
    let long : length ((heap_of c.args.journal.now.plain).packages) ≡ get_or c.args.journal.now.plain packages_address 0 =
    table_long c.args.journal.now.plain c.requires.laid c.requires.few in
    table_readable c.args.journal.now.plain c.requires.laid c.loop-k.k (omega (arith, long, c.read-count.ensures, c.loop-k-test.true))

pub returns-then-not-marks-from : goal.returns-then-not-marks-from
returns-then-not-marks-from g c =
    let long : length ((heap_of c.args.journal.now.plain).packages) ≡ get_or c.args.journal.now.plain packages_address 0 =
    table_long c.args.journal.now.plain c.requires.laid c.requires.few in
    let near : c.loop-k.k < length ((heap_of c.args.journal.now.plain).packages) = omega (arith, long, c.read-count.ensures, c.loop-k-test.true) in
    let word : c.from.result ≡ slice_index ((heap_of c.args.journal.now.plain).packages) c.loop-k.k = c.from.ensures ∙ c.read.ensures
    ∙ sym (table_word c.args.journal.now.plain c.requires.laid c.loop-k.k near) in (
      (λ t. absurd (false≢true t)),
      λ met. absurd (false≢true (sym c.if-not-marks-from.true ∙ c.requires.marks c.from.result
          ∙ ap (is_allocated (heap_of c.args.journal.now.plain)) word ∙ met c.loop-k.k near)),
    )

pub loop-k-preserved : goal.loop-k-preserved
loop-k-preserved g c =
    let long : length ((heap_of c.args.journal.now.plain).packages) ≡ get_or c.args.journal.now.plain packages_address 0 =
    table_long c.args.journal.now.plain c.requires.laid c.requires.few in
    let near : c.loop-k.k < length ((heap_of c.args.journal.now.plain).packages) = omega (arith, long, c.read-count.ensures, c.loop-k-test.true) in
    let word : c.from.result ≡ slice_index ((heap_of c.args.journal.now.plain).packages) c.loop-k.k = c.from.ensures ∙ c.read.ensures
    ∙ sym (table_word c.args.journal.now.plain c.requires.laid c.loop-k.k near) in
    below_or_at (λ j. is_allocated (heap_of c.args.journal.now.plain) (slice_index ((heap_of c.args.journal.now.plain).packages) j) ≡ true) c.loop-k.k
    c.loop-k.invariant (ap (is_allocated (heap_of c.args.journal.now.plain)) (sym word) ∙ sym (c.requires.marks c.from.result) ∙ c.if-not-marks-from.false)

pub returns : goal.returns
returns g c =
    let long : length ((heap_of c.args.journal.now.plain).packages) ≡ get_or c.args.journal.now.plain packages_address 0 =
    table_long c.args.journal.now.plain c.requires.laid c.requires.few in
    ((λ t. λ k h. c.loop-k.invariant k (omega (arith, long, c.read-count.ensures))), λ met. refl)
