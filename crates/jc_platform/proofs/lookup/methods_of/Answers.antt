use Rattle.std.proofs.Common.{◌≡◌, length, ap, sym, ◌∙◌, arith}
use Rattle.std.proofs.lemmas.List.{length-map}
use Rattle.jc_platform.specs.Lookup.{rows_of}
use Rattle.jc_platform.specs.RowValues.{method_value}
use Rattle.jc_platform.proofs.Lists.{shown_between}
use Rattle.jc_platform.proofs.lookup.methods_of.Goals as goal

pub slice_bounds-result-end : goal.slice_bounds-result-end
slice_bounds-result-end c =
    let names = c.rows.result.now in
    let many : length names ≡ length (rows_of c.stretch_of-stretch.result.room) = sym (length-map names method_value) ∙ ap length c.rows.ensures in
    omega (arith, many, c.stretch_of-stretch.ensures.within)

pub returns : goal.returns
returns c =
    let s = c.stretch_of-stretch.result in
    shown_between method_value s.first s.end c.rows.result.now (rows_of s.room) c.rows.ensures ∙ c.stretch_of-stretch.ensures.together
