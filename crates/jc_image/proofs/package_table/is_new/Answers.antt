use Rattle.std.proofs.Common.{arith, ◌≡◌, ◌+◌, ◌∙◌, sym, get_or, slice_index}
use Rattle.std.proofs.lemmas.Bool.{false≢true}
use Rattle.jc_words.specs.Layout.{addresses_start}
use Rattle.jc_heap.specs.Heap.{heap_of}
use Rattle.jc_image.proofs.PackageTable.{table_short, table_word, table_readable, below_or_at}
use Rattle.jc_image.proofs.package_table.is_new.Goals as goal

pub overflow_add-k : goal.overflow_add-k
overflow_add-k g c = omega (arith, table_short c.args.journal.now.plain c.requires.laid, c.requires.there)

pub read-address-requires : goal.read-address-requires
read-address-requires g c = table_readable c.args.journal.now.plain c.requires.laid c.args.k c.requires.there

pub overflow_add-j : goal.overflow_add-j
overflow_add-j g c = omega (arith, table_short c.args.journal.now.plain c.requires.laid, c.requires.there)

pub read-requires : goal.read-requires
read-requires g c = table_readable c.args.journal.now.plain c.requires.laid c.loop-j.j (omega (arith, c.requires.there, c.loop-j-test.true))

pub returns-then-read-address : goal.returns-then-read-address
returns-then-read-address g c =
    let here : slice_index ((heap_of c.args.journal.now.plain).packages) c.loop-j.j ≡ get_or c.args.journal.now.plain (addresses_start + c.loop-j.j) 0 =
    table_word c.args.journal.now.plain c.requires.laid c.loop-j.j (omega (arith, c.requires.there, c.loop-j-test.true)) in
    let there : slice_index ((heap_of c.args.journal.now.plain).packages) c.args.k ≡ get_or c.args.journal.now.plain (addresses_start + c.args.k) 0 =
    table_word c.args.journal.now.plain c.requires.laid c.args.k c.requires.there in (
      (λ t. absurd (false≢true t)),
      λ new. absurd (new c.loop-j.j c.loop-j-test.true
          (here ∙ sym c.read.ensures ∙ c.if-read-address.true ∙ c.read-address.ensures ∙ sym there)),
    )

pub loop-j-preserved : goal.loop-j-preserved
loop-j-preserved g c =
    let here : slice_index ((heap_of c.args.journal.now.plain).packages) c.loop-j.j ≡ get_or c.args.journal.now.plain (addresses_start + c.loop-j.j) 0 =
    table_word c.args.journal.now.plain c.requires.laid c.loop-j.j (omega (arith, c.requires.there, c.loop-j-test.true)) in
    let there : slice_index ((heap_of c.args.journal.now.plain).packages) c.args.k ≡ get_or c.args.journal.now.plain (addresses_start + c.args.k) 0 =
    table_word c.args.journal.now.plain c.requires.laid c.args.k c.requires.there in
    below_or_at (λ i. slice_index ((heap_of c.args.journal.now.plain).packages) i ≡ slice_index ((heap_of c.args.journal.now.plain).packages) c.args.k → ⊥)
    c.loop-j.j c.loop-j.invariant
    (λ e. c.if-read-address.false (c.read.ensures ∙ sym here ∙ e ∙ there ∙ sym c.read-address.ensures))
