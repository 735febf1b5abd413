use Rattle.std.proofs.Common.{arith, ◌≡◌, ◌<◌, ◌≤◌, ◌∙◌, ap, max, subst, sym, get_or, length, slice_index, refl}
use Rattle.std.proofs.lemmas.Bool.{false≢true}
use Rattle.jc_words.specs.Layout.{packages_address}
use Rattle.jc_commit.specs.Image.{IsReadable}
use Rattle.jc_heap.specs.Component.{record_of}
use Rattle.jc_heap.specs.Heap.{heap_of}
use Rattle.jc_image.proofs.PackageTable.{table_long, table_short, table_word, table_readable, record_long, record_readable, below_or_at}
use Rattle.jc_image.proofs.package_table.are_records.Goals as goal

pub overflow_add-k : goal.overflow_add-k
overflow_add-k g c = omega (arith, table_long c.args.journal.now.plain c.requires.laid c.requires.few, table_short c.args.journal.now.plain c.requires.laid)

pub read-address-requires : goal.read-address-requires
read-address-requires g c =
    let long : length ((heap_of c.args.journal.now.plain).packages) ≡ get_or c.args.journal.now.plain packages_address 0 =
    table_long c.args.journal.now.plain c.requires.laid c.requires.few in
    table_readable c.args.journal.now.plain c.requires.laid c.loop-k.k (omega (arith, long, c.read-count.ensures, c.loop-k-test.true))

pub read-requires : goal.read-requires
read-requires g c =
    let long : length ((heap_of c.args.journal.now.plain).packages) ≡ get_or c.args.journal.now.plain packages_address 0 =
    table_long c.args.journal.now.plain c.requires.laid c.requires.few in
    let near : c.loop-k.k < length ((heap_of c.args.journal.now.plain).packages) = omega (arith, long, c.read-count.ensures, c.loop-k-test.true) in
    let word : c.read-address.result ≡ slice_index ((heap_of c.args.journal.now.plain).packages) c.loop-k.k = c.read-address.ensures
    ∙ sym (table_word c.args.journal.now.plain c.requires.laid c.loop-k.k near) in
    subst (IsReadable (length c.args.journal.now.plain)) (sym word) (record_readable c.args.journal.now c.loop-k.k c.requires.laid near
    (c.requires.met c.loop-k.k near))

pub returns-then-read-lt2 : goal.returns-then-read-lt2
returns-then-read-lt2 g c =
    let long : length ((heap_of c.args.journal.now.plain).packages) ≡ get_or c.args.journal.now.plain packages_address 0 =
    table_long c.args.journal.now.plain c.requires.laid c.requires.few in
    let near : c.loop-k.k < length ((heap_of c.args.journal.now.plain).packages) = omega (arith, long, c.read-count.ensures, c.loop-k-test.true) in
    let word : c.read-address.result ≡ slice_index ((heap_of c.args.journal.now.plain).packages) c.loop-k.k = c.read-address.ensures
    ∙ sym (table_word c.args.journal.now.plain c.requires.laid c.loop-k.k near) in
    let first : c.read.result ≡ get_or c.args.journal.now.plain (slice_index ((heap_of c.args.journal.now.plain).packages) c.loop-k.k) 0 = c.read.ensures
    ∙ ap (λ a. get_or c.args.journal.now.plain a 0) word in
    let is : length (record_of (heap_of c.args.journal.now.plain) (slice_index ((heap_of c.args.journal.now.plain).packages) c.loop-k.k))
    ≡ max (get_or c.args.journal.now.plain (slice_index ((heap_of c.args.journal.now.plain).packages) c.loop-k.k) 0) 1 =
    record_long c.args.journal.now c.loop-k.k c.requires.laid near (c.requires.met c.loop-k.k near) in
    ((λ t. absurd (false≢true t)), λ all. absurd (omega (arith, all c.loop-k.k near, is, first, c.if-read-lt2.true)))

pub loop-k-preserved : goal.loop-k-preserved
loop-k-preserved g c =
    let long : length ((heap_of c.args.journal.now.plain).packages) ≡ get_or c.args.journal.now.plain packages_address 0 =
    table_long c.args.journal.now.plain c.requires.laid c.requires.few in
    let near : c.loop-k.k < length ((heap_of c.args.journal.now.plain).packages) = omega (arith, long, c.read-count.ensures, c.loop-k-test.true) in
    let word : c.read-address.result ≡ slice_index ((heap_of c.args.journal.now.plain).packages) c.loop-k.k = c.read-address.ensures
    ∙ sym (table_word c.args.journal.now.plain c.requires.laid c.loop-k.k near) in
    let first : c.read.result ≡ get_or c.args.journal.now.plain (slice_index ((heap_of c.args.journal.now.plain).packages) c.loop-k.k) 0 = c.read.ensures
    ∙ ap (λ a. get_or c.args.journal.now.plain a 0) word in
    let is : length (record_of (heap_of c.args.journal.now.plain) (slice_index ((heap_of c.args.journal.now.plain).packages) c.loop-k.k))
    ≡ max (get_or c.args.journal.now.plain (slice_index ((heap_of c.args.journal.now.plain).packages) c.loop-k.k) 0) 1 =
    record_long c.args.journal.now c.loop-k.k c.requires.laid near (c.requires.met c.loop-k.k near) in
    below_or_at (λ j. 2 ≤ length (record_of (heap_of c.args.journal.now.plain) (slice_index ((heap_of c.args.journal.now.plain).packages) j))) c.loop-k.k
    c.loop-k.invariant (omega (arith, is, first, c.if-read-lt2.false))

pub returns : goal.returns
returns g c =
    let long : length ((heap_of c.args.journal.now.plain).packages) ≡ get_or c.args.journal.now.plain packages_address 0 =
    table_long c.args.journal.now.plain c.requires.laid c.requires.few in
    ((λ t. λ k h. c.loop-k.invariant k (omega (arith, long, c.read-count.ensures))), λ all. refl)
