use Rattle.std.proofs.Common.{◌||◌, not, map, refl, rules, tests}
use Rattle.std.specs.Prelude.{is_some}
use Rattle.std.proofs.lemmas.Iterator.{YieldsList-from_slice}
use Rattle.std.proofs.lemmas.Iterator.Search.{all_from_yields_List}
use Rattle.jc_platform.specs.Reading.{above_of}
use Rattle.jc_platform.specs.RowValues.{method_value}
use Rattle.jc_platform.proofs.Lists.{all_through}
use Rattle.jc_platform.proofs.reading.Reading.has_needed_of.Goals as goal

pub returns : goal.returns
returns c =
    let above = above_of c.args.self.now in
    all_through (λ e. not e.needed || is_some (above.method_token e.method)) method_value c.args.rows.now (map method_value c.args.rows.now) c.all.result refl
    (all_from_yields_List (λ e. not e.needed || is_some (above.method_token e.method)) _ _ _ c.all.ensures.ran
    (YieldsList-from_slice c.args.rows.now cc) (λ x b q k. search (rules, tests)))
