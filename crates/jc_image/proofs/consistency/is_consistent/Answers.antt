use Rattle.std.proofs.Common.{◌≤◌, ◌∙◌, sym}
use Rattle.std.proofs.lemmas.Bool.{false≢true}
use Rattle.jc_words.specs.Layout.{most_packages, most_applets}
use Rattle.jc_heap.specs.Heap.{heap_of}
use Rattle.jc_heap.specs.WholeHeap.{AreAllocated, AreRecords, AreDistinct}
use Rattle.jc_image.proofs.consistency.is_consistent.Goals as goal

pub returns-then-not-mark_records-clause-exact : goal.returns-then-not-mark_records-clause-exact
returns-then-not-mark_records-clause-exact g c = (
  (λ t. absurd (false≢true t)),
  λ w. absurd (c.mark_records.ensures.broken c.if-not-mark_records.true w.0 w.1.areas w.1.references),
)

pub returns-then-not-counts_fit-clause-exact : goal.returns-then-not-counts_fit-clause-exact
returns-then-not-counts_fit-clause-exact g c = (
  (λ t. absurd (false≢true t)),
  λ w. absurd (false≢true
      (sym c.if-not-counts_fit.true ∙ c.counts_fit.ensures.1 (w.1.few_packages, w.1.few_applets))),
)

pub returns-then-not-has_sizes-clause-exact : goal.returns-then-not-has_sizes-clause-exact
returns-then-not-has_sizes-clause-exact g c = (
  (λ t. absurd (false≢true t)),
  λ w. absurd (false≢true (sym c.if-not-has_sizes.true ∙ c.has_sizes.ensures.1 w.1.sizes)),
)

pub returns-then-table_agrees-clause-exact : goal.returns-then-table_agrees-clause-exact
returns-then-table_agrees-clause-exact g c =
    let few : ((heap_of c.args.journal.now.plain).counts.0 ≤ most_packages) × ((heap_of c.args.journal.now.plain).counts.1 ≤ most_applets) =
    c.counts_fit.ensures.0 c.if-not-counts_fit.false in
    let table : AreAllocated (heap_of c.args.journal.now.plain) ((heap_of c.args.journal.now.plain).packages)
    × AreRecords (heap_of c.args.journal.now.plain) ((heap_of c.args.journal.now.plain).packages)
    × AreDistinct ((heap_of c.args.journal.now.plain).packages) = c.table_agrees.ensures.0 c.if-table_agrees.true in (
      (λ t. (
        c.mark_records.ensures.laid c.if-not-mark_records.false,
        record {
          few_packages = few.0;
          few_applets = few.1;
          met = table.0;
          records = table.1;
          distinct = table.2;
          references = (c.mark_records.ensures.held c.if-not-mark_records.false).0 (c.are_references.ensures.0 t);
          sizes = c.has_sizes.ensures.0 c.if-not-has_sizes.false;
          areas = c.mark_records.ensures.filled c.if-not-mark_records.false;
        },
      )),
      λ w. c.are_references.ensures.1 ((c.mark_records.ensures.held c.if-not-mark_records.false).1 w.1.references),
    )

pub returns-else-table_agrees-clause-exact : goal.returns-else-table_agrees-clause-exact
returns-else-table_agrees-clause-exact g c = (
  (λ t. absurd (false≢true (sym c.if-table_agrees.false ∙ t))),
  λ w. c.table_agrees.ensures.1 (w.1.met, w.1.records, w.1.distinct),
)
