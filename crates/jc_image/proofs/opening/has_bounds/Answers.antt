use Rattle.std.proofs.Common.{arith, ◌≡◌, ◌+◌, ◌/◌, ap, get_or}
use Rattle.std.proofs.lemmas.List.{get_or-take}
use Rattle.jc_words.specs.Layout.{top_address, text_length_address, text_start}
use Rattle.jc_heap.specs.Image.{image, base}
use Rattle.jc_image.proofs.opening.has_bounds.Goals as goal

pub returns : goal.returns
returns g c =
    let b : base (image c.args.journal.now.plain) ≡ text_start + (get_or c.args.journal.now.plain text_length_address 0 + 1) / 2 =
    ap (λ n. text_start + (n + 1) / 2) (get_or-take (get_or c.args.journal.now.plain top_address 0) c.args.journal.now.plain text_length_address 0
    (omega arith)) in (
      (λ t. record {
        based = omega (arith, b);
        fits = omega arith;
        packages = λ a le. c.packages_below.ensures.0 t a (omega (arith, le, c.read-top.ensures));
      }),
      λ bounds. c.packages_below.ensures.1 (λ a le. bounds.packages a (omega (arith, le, c.read-top.ensures))),
    )
