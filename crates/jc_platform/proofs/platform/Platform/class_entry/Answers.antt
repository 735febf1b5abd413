use Rattle.std.proofs.Common.{◌≡◌, ◌&&◌, refl, sym, ◌∙◌, rules, tests}
use Rattle.std.specs.List.{find}
use Rattle.std.proofs.lemmas.Iterator.{YieldsList-from_slice}
use Rattle.std.proofs.lemmas.Iterator.Search.{find_from_yields_List}
use Rattle.jc_platform.specs.Names.{classes}
use Rattle.jc_platform.specs.Numbers.{same_package}
use Rattle.jc_platform.specs.Rows.{classes_of, is_token}
use Rattle.jc_platform.specs.RowValues.{class_value}
use Rattle.jc_platform.specs.Tokens.{token_of_class}
use Rattle.jc_platform.proofs.Lists.{find-filter, found_through}
use Rattle.jc_platform.proofs.platform.Platform.class_entry.Goals as goal

pub returns : goal.returns
returns c =
    let tokens = c.args.self.now in
    let own = c.classes_of.result.now in
    let found : c.copied.result ≡ find (λ e. is_token (token_of_class tokens e.class) c.args.token) own =
    cc (find_from_yields_List (λ e. is_token (token_of_class tokens e.class) c.args.token) _ _ c.find.result c.find.ensures.ran (YieldsList-from_slice own cc)
    (λ x b q k. search (rules, tests))) in
    found_through (λ e. is_token (token_of_class tokens e.class) c.args.token) class_value own (classes_of c.args.home) c.copied.result
    c.classes_of.ensures found
    ∙ sym (find-filter (λ e. same_package e.home c.args.home) (λ e. is_token (token_of_class tokens e.class) c.args.token)
    (λ e. same_package e.home c.args.home && is_token (token_of_class tokens e.class) c.args.token) classes (λ e. refl))
