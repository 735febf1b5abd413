use Rattle.std.proofs.Common.{◌&&◌, rules, tests}
use Rattle.std.proofs.lemmas.Iterator.{YieldsList-from_slice}
use Rattle.std.proofs.lemmas.Iterator.Search.{any_from_yields_List}
use Rattle.jc_platform.specs.Names.{classes}
use Rattle.jc_platform.specs.Numbers.{same_package}
use Rattle.jc_platform.specs.Reading.{above_of}
use Rattle.jc_platform.specs.Rows.{is_token}
use Rattle.jc_platform.specs.RowValues.{class_value}
use Rattle.jc_platform.proofs.Lists.{any_through}
use Rattle.jc_platform.proofs.reading.Reading.has_class_token.Goals as goal

pub returns : goal.returns
returns c =
    let above = above_of c.args.self.now in
    any_through (λ e. same_package e.home c.args.home && is_token (above.class_token e.class) c.args.token) class_value c.all_classes.result.now classes
    c.any.result c.all_classes.ensures
    (any_from_yields_List (λ e. same_package e.home c.args.home && is_token (above.class_token e.class) c.args.token) _ _ _ c.any.ensures.ran
    (YieldsList-from_slice c.all_classes.result.now cc) (λ x b q k. search (rules, tests)))
