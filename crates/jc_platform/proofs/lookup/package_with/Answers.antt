use Rattle.std.proofs.Common.{◌≡◌, rules, tests}
use Rattle.std.specs.List.{find}
use Rattle.std.specs.Str.{bytes_eq}
use Rattle.std.proofs.lemmas.Iterator.{YieldsList-from_slice}
use Rattle.std.proofs.lemmas.Iterator.Search.{find_from_yields_List}
use Rattle.jc_platform.specs.Names.{packages}
use Rattle.jc_platform.specs.RowValues.{package_value}
use Rattle.jc_platform.proofs.Lists.{found_through}
use Rattle.jc_platform.proofs.lookup.package_with.Goals as goal

pub returns : goal.returns
returns c =
    let aid = c.args.aid.now in
    let found : c.copied.result ≡ find (λ e. bytes_eq e.aid_text.now aid) c.all_packages.result.now =
    cc (find_from_yields_List (λ e. bytes_eq e.aid_text.now aid) _ _ c.find.result c.find.ensures.ran
    (YieldsList-from_slice c.all_packages.result.now cc) (λ x b q k. search (rules, tests))) in
    found_through (λ e. bytes_eq e.aid_text aid) package_value c.all_packages.result.now packages c.copied.result c.all_packages.ensures found
