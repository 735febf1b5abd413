use Rattle.std.proofs.Common.{◌≡◌, ◌≤◌, ◌+◌, length, get_or, ap, sym, ◌∙◌, arith}
use Rattle.std.proofs.lemmas.List.{length-map}
use Rattle.jc_platform.specs.Numbers.{class_count}
use Rattle.jc_platform.specs.RowValues.{class_value}
use Rattle.jc_platform.proofs.PackageClasses.{are_together, ends_within, firsts}
use Rattle.jc_platform.proofs.Facts.{class_places}
use Rattle.jc_platform.proofs.lookup.classes_of.Goals as goal

pub slice_bounds-result-end : goal.slice_bounds-result-end
slice_bounds-result-end c =
    let names = c.all_classes.result.now in
    let many : length names ≡ class_count = sym (length-map names class_value) ∙ ap length c.all_classes.ensures ∙ class_places in
    let within : get_or firsts (c.index-place.result + 1) 0 ≤ class_count = rw c.index-place.ensures.place (ends_within c.args.home) in
    omega (arith, many, within)

pub returns : goal.returns
returns c = are_together c.args.home c.index-place.result c.all_classes.result.now c.all_classes.ensures c.index-place.ensures.place
