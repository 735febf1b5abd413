use Rattle.std.proofs.Common.{◌≡◌, rules, tests}
use Rattle.std.specs.List.{find}
use Rattle.std.specs.Str.{bytes_eq}
use Rattle.std.proofs.lemmas.Iterator.{YieldsList-from_slice}
use Rattle.std.proofs.lemmas.Iterator.Search.{find_from_yields_List}
use Rattle.jc_platform.specs.Names.{classes}
use Rattle.jc_platform.specs.RowValues.{class_value}
use Rattle.jc_platform.proofs.Lists.{found_through}
use Rattle.jc_platform.proofs.lookup.class_named.Goals as goal

pub returns : goal.returns
returns c =
    let name = c.args.name.now in
    let found : c.copied.result ≡ find (λ e. bytes_eq e.name.now name) c.all_classes.result.now =
    cc (find_from_yields_List (λ e. bytes_eq e.name.now name) _ _ c.find.result c.find.ensures.ran (YieldsList-from_slice c.all_classes.result.now cc)
    (λ x b q k. search (rules, tests))) in
    found_through (λ e. bytes_eq e.name name) class_value c.all_classes.result.now classes c.copied.result c.all_classes.ensures found
