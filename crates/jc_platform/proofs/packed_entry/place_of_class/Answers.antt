use Rattle.std.proofs.Common.{◌≡◌, None, ap, sym, ◌∙◌, rules, tests}
use Rattle.std.specs.List.{position}
use Rattle.std.specs.Option.{option_and_then}
use Rattle.std.proofs.lemmas.Iterator.{YieldsList-from_slice}
use Rattle.std.proofs.lemmas.Iterator.Search.{position_from_yields_List}
use Rattle.jc_platform.specs.NamePlaces.{home_of}
use Rattle.jc_platform.specs.Numbers.{same_class}
use Rattle.jc_platform.specs.Rows.{classes_of}
use Rattle.jc_platform.specs.RowValues.{class_value}
use Rattle.jc_platform.specs.Packing.{byte_place}
use Rattle.jc_platform.proofs.Places.{placed_through}
use Rattle.jc_platform.proofs.packed_entry.place_of_class.Goals as goal

pub returns-in_err-place : goal.returns-in_err-place
returns-in_err-place c =
    let own = c.classes_of.result.now in
    let at : c.position.result ≡ position (λ e. same_class e.class c.args.class) (classes_of (home_of c.args.class)) =
    placed_through (λ e. same_class e.class c.args.class) class_value own (classes_of (home_of c.args.class)) c.position.result
    (c.classes_of.ensures ∙ ap classes_of c.home.ensures)
    (position_from_yields_List (λ e. same_class e.class c.args.class) _ _ c.position.result c.position.ensures.ran (YieldsList-from_slice own cc)
    (λ x b q k. search (rules, tests))) in
    let none : c.from_residual.result ≡ None = search rules in
    none ∙ sym (ap (option_and_then byte_place) (sym at ∙ c.in_err-place.was))

pub returns : goal.returns
returns c =
    let own = c.classes_of.result.now in
    let at : c.position.result ≡ position (λ e. same_class e.class c.args.class) (classes_of (home_of c.args.class)) =
    placed_through (λ e. same_class e.class c.args.class) class_value own (classes_of (home_of c.args.class)) c.position.result
    (c.classes_of.ensures ∙ ap classes_of c.home.ensures)
    (position_from_yields_List (λ e. same_class e.class c.args.class) _ _ c.position.result c.position.ensures.ran (YieldsList-from_slice own cc)
    (λ x b q k. search (rules, tests))) in
    c.byte_place.ensures ∙ sym (ap (option_and_then byte_place) (sym at ∙ c.in_ok-place.was))
