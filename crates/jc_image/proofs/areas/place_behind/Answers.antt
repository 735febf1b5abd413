use Rattle.std.proofs.Common.{arith, length, ◌≡◌, ◌<◌, ◌+◌, ◌∙◌, ap, sym, get_or, true, slice_index}
use Rattle.jc_words.specs.Layout.{top_address}
use Rattle.jc_image.specs.Steps.{item_from}
use Rattle.jc_heap.specs.WholeHeap.{lies_in, cells_in}
use Rattle.jc_heap.proofs.Views.{readable}
use Rattle.jc_image.proofs.Filling.{lies_within, lies_place, lies_cells}
use Rattle.jc_image.proofs.areas.place_behind.Goals as goal

pub overflow_add-at : goal.overflow_add-at
overflow_add-at g c = omega (
  arith,
  lies_within c.args.journal.now.plain c.args.at c.args.event c.requires.bounds.fits c.requires.here
      c.requires.small (sym c.is_in_area.ensures ∙ c.if-not-is_in_area.false),
  c.requires.bounds.fits,
)

pub read-begin-requires : goal.read-begin-requires
read-begin-requires g c =
    let within : c.args.at + 4 < slice_index c.args.journal.now.plain top_address =
    lies_within c.args.journal.now.plain c.args.at c.args.event c.requires.bounds.fits c.requires.here c.requires.small
    (sym c.is_in_area.ensures ∙ c.if-not-is_in_area.false) in
    readable (length c.args.journal.now.plain) (c.args.at + 4) (omega (arith, within, c.requires.bounds.fits)) (omega (arith, c.requires.here.low))

pub overflow_add-at-2 : goal.overflow_add-at-2
overflow_add-at-2 g c = omega (
  arith,
  lies_within c.args.journal.now.plain c.args.at c.args.event c.requires.bounds.fits c.requires.here
      c.requires.small (sym c.is_in_area.ensures ∙ c.if-not-is_in_area.false),
  c.requires.bounds.fits,
)

pub read-length-requires : goal.read-length-requires
read-length-requires g c =
    let within : c.args.at + 4 < slice_index c.args.journal.now.plain top_address =
    lies_within c.args.journal.now.plain c.args.at c.args.event c.requires.bounds.fits c.requires.here c.requires.small
    (sym c.is_in_area.ensures ∙ c.if-not-is_in_area.false) in
    readable (length c.args.journal.now.plain) (c.args.at + 3) (omega (arith, within, c.requires.bounds.fits)) (omega (arith, c.requires.here.low))

pub returns-then-begin-place-clause-none : goal.returns-then-begin-place-clause-none
returns-then-begin-place-clause-none g c = λ f.
    let lies : lies_in c.args.event (item_from c.args.journal.now.plain c.args.at) ≡ true = (sym c.is_in_area.ensures ∙ c.if-not-is_in_area.false) in
    c.if-begin-place.true (c.read-begin.ensures ∙ sym (lies_place c.args.journal.now.plain c.args.at c.args.event c.requires.bounds.fits c.requires.here c.requires.small lies) ∙ f.begins lies)

pub returns-then-length-size-clause-none : goal.returns-then-length-size-clause-none
returns-then-length-size-clause-none g c = λ f.
    let cells : cells_in c.args.event (item_from c.args.journal.now.plain c.args.at) ≡ get_or c.args.journal.now.plain (c.args.at + 3) 0 =
    lies_cells c.args.journal.now.plain c.args.at c.args.event c.requires.bounds.fits c.requires.here c.requires.small
    (sym c.is_in_area.ensures ∙ c.if-not-is_in_area.false) in
    omega (arith, cells, c.read-length.ensures, c.requires.size, f.ends)

pub returns-clause-fits : goal.returns-clause-fits
returns-clause-fits g c =
    let cells : cells_in c.args.event (item_from c.args.journal.now.plain c.args.at) ≡ get_or c.args.journal.now.plain (c.args.at + 3) 0 =
    lies_cells c.args.journal.now.plain c.args.at c.args.event c.requires.bounds.fits c.requires.here c.requires.small
    (sym c.is_in_area.ensures ∙ c.if-not-is_in_area.false) in
    record {
      begins = λ lies. lies_place c.args.journal.now.plain c.args.at c.args.event c.requires.bounds.fits c.requires.here c.requires.small lies
          ∙ sym c.read-begin.ensures ∙ c.if-begin-place.false;
      ends = omega (arith, cells, c.read-length.ensures, c.requires.size);
    }

pub returns-clause-next : goal.returns-clause-next
returns-clause-next g c =
    let cells : cells_in c.args.event (item_from c.args.journal.now.plain c.args.at) ≡ get_or c.args.journal.now.plain (c.args.at + 3) 0 =
    lies_cells c.args.journal.now.plain c.args.at c.args.event c.requires.bounds.fits c.requires.here c.requires.small
    (sym c.is_in_area.ensures ∙ c.if-not-is_in_area.false) in
    ap (λ n. c.args.place + n) (c.read-length.ensures ∙ sym cells)
