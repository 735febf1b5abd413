use Rattle.std.proofs.Common.{arith, ◌≡◌, ◌<◌, ◌∙◌, ℕ, sym, get_or, length, refl, slice_index}
use Rattle.std.proofs.lemmas.Bool.{false≢true}
use Rattle.jc_words.specs.Layout.{packages_address}
use Rattle.jc_heap.specs.Heap.{heap_of}
use Rattle.jc_image.proofs.PackageTable.{table_long, below_or_at}
use Rattle.jc_image.proofs.package_table.are_distinct.Goals as goal

pub is_new-requires-clause-there : goal.is_new-requires-clause-there
is_new-requires-clause-there g c = omega (arith, table_long c.args.journal.now.plain c.requires.laid c.requires.few, c.read-count.ensures, c.loop-k-test.true)

pub returns-then-not-is_new : goal.returns-then-not-is_new
returns-then-not-is_new g c =
    let near : c.loop-k.k < length ((heap_of c.args.journal.now.plain).packages) =
    omega (arith, table_long c.args.journal.now.plain c.requires.laid c.requires.few, c.read-count.ensures, c.loop-k-test.true) in
    ((λ t. absurd (false≢true t)), λ distinct. absurd (false≢true (sym c.if-not-is_new.true ∙ c.is_new.ensures.1 (λ j h. distinct j c.loop-k.k h near))))

pub loop-k-preserved : goal.loop-k-preserved
loop-k-preserved g c = λ i j ij h.
    below_or_at (λ j. (i : ℕ) → i < j → slice_index ((heap_of c.args.journal.now.plain).packages) i
    ≡ slice_index ((heap_of c.args.journal.now.plain).packages) j → ⊥) c.loop-k.k (λ j h i ij. c.loop-k.invariant i j ij h)
    (c.is_new.ensures.0 c.if-not-is_new.false) j h i ij

pub returns : goal.returns
returns g c =
    let long : length ((heap_of c.args.journal.now.plain).packages) ≡ get_or c.args.journal.now.plain packages_address 0 =
    table_long c.args.journal.now.plain c.requires.laid c.requires.few in
    ((λ t. λ j k jk h. c.loop-k.invariant j k jk (omega (arith, long, c.read-count.ensures))), λ distinct. refl)
