use Rattle.std.proofs.Common.{arith, ◌≡◌, ◌<◌, ◌+◌, ◌∙◌, sym, subst, length, slice_index, false, true}
use Rattle.std.proofs.lemmas.Bool.{false≢true}
use Rattle.std.proofs.lemmas.List.{length-set, get_or-set_other}
use Rattle.jc_words.specs.Layout.{top_address}
use Rattle.jc_heap.specs.Heap.{heap_of}
use Rattle.jc_image.specs.Steps.{item_from, AreReferences}
use Rattle.jc_heap.specs.Object.{kind_number}
use Rattle.jc_heap.specs.declared.object.Kind.TheVariants.{ReferenceArray}
use Rattle.jc_heap.specs.WholeHeap.{IsReference, HoldsReferences}
use Rattle.jc_heap.proofs.Views.{readable}
use Rattle.jc_image.proofs.PackageTable.{below_or_at}
use Rattle.jc_image.proofs.Stepping.{header_within}
use Rattle.jc_image.proofs.Referring.{holds_other, holds_of, of_holds, cell_within_at}
use Rattle.jc_image.proofs.Naming.{named_set, no_reference_high}
use Rattle.jc_image.proofs.references.mark_named.Goals as goal

pub returns-then-not-has_references-clause-held : goal.returns-then-not-has_references-clause-held
returns-then-not-has_references-clause-held g c = λ t.
    let holds : HoldsReferences (heap_of c.args.journal.now.plain) (item_from c.args.journal.now.plain c.args.at) =
    holds_other (heap_of c.args.journal.now.plain) c.args.journal.now.plain c.args.at c.requires.bounds.fits c.requires.here
    c.requires.small c.requires.object (λ five. false≢true (sym c.if-not-has_references.true ∙ c.has_references.ensures.1 five)) in
    ((λ all. (all, holds)), λ both. both.0)

pub overflow_add-at : goal.overflow_add-at
overflow_add-at g c = omega (
  arith,
  header_within c.args.journal.now.plain c.args.at c.requires.bounds.fits c.requires.here c.requires.small c.requires.object,
  c.requires.bounds.fits,
  c.requires.small,
)

pub read-count-requires : goal.read-count-requires
read-count-requires g c = readable (length c.args.journal.now.plain) (c.args.at + 3) (omega (
  arith,
  header_within c.args.journal.now.plain c.args.at c.requires.bounds.fits c.requires.here c.requires.small c.requires.object,
  c.requires.bounds.fits,
)) (omega (arith, c.requires.here.low))

pub overflow_add-at-in-loop-i : goal.overflow_add-at-in-loop-i
overflow_add-at-in-loop-i g c =
    let five : slice_index c.args.journal.now.plain c.args.at ≡ kind_number ReferenceArray = c.has_references.ensures.0 c.if-not-has_references.false in
    let within : c.args.at + 4 + c.loop-i.i < slice_index c.args.journal.now.plain top_address =
    cell_within_at (heap_of c.args.journal.now.plain) c.args.journal.now.plain c.args.at c.requires.bounds.fits c.requires.here
    c.requires.small c.requires.object five c.loop-i.i (omega (arith, c.read-count.ensures, c.loop-i-test.true)) in
    omega (arith, within, c.requires.bounds.fits, c.requires.small)

pub overflow_add-at-in-loop-i-2 : goal.overflow_add-at-in-loop-i-2
overflow_add-at-in-loop-i-2 g c =
    let five : slice_index c.args.journal.now.plain c.args.at ≡ kind_number ReferenceArray = c.has_references.ensures.0 c.if-not-has_references.false in
    let within : c.args.at + 4 + c.loop-i.i < slice_index c.args.journal.now.plain top_address =
    cell_within_at (heap_of c.args.journal.now.plain) c.args.journal.now.plain c.args.at c.requires.bounds.fits c.requires.here
    c.requires.small c.requires.object five c.loop-i.i (omega (arith, c.read-count.ensures, c.loop-i-test.true)) in
    omega (arith, within, c.requires.bounds.fits, c.requires.small)

pub read-word-requires : goal.read-word-requires
read-word-requires g c =
    let five : slice_index c.args.journal.now.plain c.args.at ≡ kind_number ReferenceArray = c.has_references.ensures.0 c.if-not-has_references.false in
    let within : c.args.at + 4 + c.loop-i.i < slice_index c.args.journal.now.plain top_address =
    cell_within_at (heap_of c.args.journal.now.plain) c.args.journal.now.plain c.args.at c.requires.bounds.fits c.requires.here
    c.requires.small c.requires.object five c.loop-i.i (omega (arith, c.read-count.ensures, c.loop-i-test.true)) in
    readable (length c.args.journal.now.plain) (c.args.at + 4 + c.loop-i.i) (omega (arith, within, c.requires.bounds.fits)) (omega (arith, c.requires.here.low))

pub returns-then-word-top-clause-outside : goal.returns-then-word-top-clause-outside
returns-then-word-top-clause-outside g c = λ t. λ holds.
    let five : slice_index c.args.journal.now.plain c.args.at ≡ kind_number ReferenceArray = c.has_references.ensures.0 c.if-not-has_references.false in
    no_reference_high c.args.journal.now.plain c.requires.bounds c.read-word.result (omega (arith, c.requires.is_top))
    (subst (IsReference (heap_of c.args.journal.now.plain)) (sym c.read-word.ensures)
    (of_holds (heap_of c.args.journal.now.plain) c.args.journal.now.plain c.args.at c.requires.bounds.fits c.requires.here c.requires.small
    c.requires.object five holds c.loop-i.i (omega (arith, c.read-count.ensures, c.loop-i-test.true))))

pub loop-i-preserved : goal.loop-i-preserved
loop-i-preserved g c =
    let within : c.from.result < length c.loop-i.named = omega (arith, c.loop-i.invariant.long) in
    let word : c.from.result ≡ slice_index c.args.journal.now.plain (c.args.at + 4 + c.loop-i.i) = c.from.ensures ∙ c.read-word.ensures in
    let one = named_set (heap_of c.args.journal.now.plain) c.loop-i.named c.from.result within in
    record {
      long = length-set c.loop-i.named c.from.result true ∙ c.loop-i.invariant.long;
      below = λ none r le. get_or-set_other c.loop-i.named c.from.result r true false (λ e. omega (arith, e, le, c.from.ensures))
          ∙ c.loop-i.invariant.below none r le;
      held = (
        (λ all.
            let two : AreReferences (heap_of c.args.journal.now.plain) c.loop-i.named × IsReference (heap_of c.args.journal.now.plain) c.from.result =
            one.0 all in
            let before = c.loop-i.invariant.held.0 two.0 in (
              before.0,
              below_or_at (λ j. IsReference (heap_of c.args.journal.now.plain) (slice_index c.args.journal.now.plain (c.args.at + 4 + j))) c.loop-i.i before.1
                  (subst (IsReference (heap_of c.args.journal.now.plain)) word two.1),
            )),
        λ both. one.1 (
          c.loop-i.invariant.held.1 (both.0, λ j lt. both.1 j (omega (arith, lt))),
          subst (IsReference (heap_of c.args.journal.now.plain)) (sym word) (both.1 c.loop-i.i (omega arith)),
        ),
      );
    }

pub returns-clause-held : goal.returns-clause-held
returns-clause-held g c = λ t.
    let five : slice_index c.args.journal.now.plain c.args.at ≡ kind_number ReferenceArray = c.has_references.ensures.0 c.if-not-has_references.false in (
      (λ all.
          let two = c.loop-i.invariant.held.0 all in (
            two.0,
            holds_of (heap_of c.args.journal.now.plain) c.args.journal.now.plain c.args.at c.requires.bounds.fits c.requires.here
                c.requires.small c.requires.object five (λ i lt. two.1 i (omega (arith, lt, c.read-count.ensures))),
          )),
      λ both. c.loop-i.invariant.held.1 (
        both.0,
        λ j lt. of_holds (heap_of c.args.journal.now.plain) c.args.journal.now.plain c.args.at c.requires.bounds.fits c.requires.here
            c.requires.small c.requires.object five both.1 j (omega (arith, lt, c.read-count.ensures)),
      ),
    )
