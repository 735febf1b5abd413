use Rattle.std.proofs.Common.{◌≡◌, ◌∙◌, ℕ, length, get_or, ap, sym, arith}
use Rattle.std.proofs.lemmas.List.{get_or-map, length-map}
use Rattle.jc_platform.specs.Names.{classes, no_class}
use Rattle.jc_platform.specs.Numbers.{class_count}
use Rattle.jc_platform.specs.RowValues.{class_value}
use Rattle.jc_platform.proofs.Facts.{class_places}
use Rattle.jc_platform.proofs.names.PlatformClass.row.Goals as goal

pub bounds-all_classes-index : goal.bounds-all_classes-index
bounds-all_classes-index c =
    let rows = c.all_classes.result.now in
    let many : length rows ≡ class_count = sym (length-map rows class_value) ∙ ap length c.all_classes.ensures ∙ class_places in
    omega (arith, c.index.ensures.bound, many)

pub returns : goal.returns
returns c =
    sym (get_or-map class_value c.all_classes.result.now c.index.result _ no_class (bounds-all_classes-index c))
    ∙ ap (λ l. get_or l c.index.result no_class) c.all_classes.ensures ∙ ap (λ (n : ℕ). get_or classes n no_class) c.index.ensures.place
