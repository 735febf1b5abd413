use Rattle.std.proofs.Common.{◌||◌, not, rules, tests}
use Rattle.std.specs.Prelude.{is_some}
use Rattle.std.proofs.lemmas.Iterator.{YieldsList-from_slice}
use Rattle.std.proofs.lemmas.Iterator.Search.{all_from_yields_List}
use Rattle.jc_platform.specs.Names.{classes}
use Rattle.jc_platform.specs.Reading.{above_of}
use Rattle.jc_platform.specs.RowValues.{class_value}
use Rattle.jc_platform.proofs.Lists.{all_through}
use Rattle.jc_platform.proofs.reading.Reading.has_needed_classes.Goals as goal

pub returns : goal.returns
returns c =
    let above = above_of c.args.self.now in
    all_through (λ e. not e.needed || is_some (above.class_token e.class)) class_value c.all_classes.result.now classes c.all.result c.all_classes.ensures
    (all_from_yields_List (λ e. not e.needed || is_some (above.class_token e.class)) _ _ _ c.all.ensures.ran
    (YieldsList-from_slice c.all_classes.result.now cc) (λ x b q k. search (rules, tests)))
