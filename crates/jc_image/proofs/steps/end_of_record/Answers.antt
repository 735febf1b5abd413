use Rattle.std.proofs.Common.{arith, ◌≡◌, ◌+◌, ◌∙◌, ◌∷◌, ap, sym}
use Rattle.jc_image.specs.Steps.{HasRecord, size_from, items_from, item_from}
use Rattle.jc_image.proofs.Stepping.{size_is, step_items}
use Rattle.jc_image.proofs.steps.end_of_record.Goals as goal

pub returns-then-size-from-clause-cut : goal.returns-then-size-from-clause-cut
returns-then-size-from-clause-cut g c = omega (
  arith,
  size_is c.args.journal.now.plain c.args.at,
  c.record_size-size.ensures,
  c.from.ensures,
  c.if-size-from.true,
  c.requires.is_top,
  c.requires.inside,
)

pub returns-clause-items : goal.returns-clause-items
returns-clause-items g c =
    let e : size_from c.args.journal.now.plain c.args.at ≡ c.record_size-size.result =
    size_is c.args.journal.now.plain c.args.at ∙ sym c.record_size-size.ensures in
    let here : HasRecord c.args.journal.now.plain c.args.at = record {
      low = c.requires.low;
      inside = c.requires.inside;
      whole = omega (arith, e, c.from.ensures, c.if-size-from.false, c.requires.is_top, c.requires.inside);
    } in
    step_items c.args.journal.now.plain c.args.at c.requires.bounds.fits here
    ∙ ap (λ n. (c.args.at, item_from c.args.journal.now.plain c.args.at) ∷ items_from c.args.journal.now.plain (c.args.at + n)) e

pub returns-clause-end : goal.returns-clause-end
returns-clause-end g c = ap (λ n. c.args.at + n) (c.record_size-size.ensures ∙ sym (size_is c.args.journal.now.plain c.args.at))

pub returns-clause-here : goal.returns-clause-here
returns-clause-here g c = record {
  low = c.requires.low;
  inside = c.requires.inside;
  whole = omega (
    arith,
    size_is c.args.journal.now.plain c.args.at,
    c.record_size-size.ensures,
    c.from.ensures,
    c.if-size-from.false,
    c.requires.is_top,
    c.requires.inside,
  );
}
