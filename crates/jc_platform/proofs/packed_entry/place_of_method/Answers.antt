use Rattle.std.proofs.Common.{◌≡◌, None, ap, sym, ◌∙◌, rules, tests}
use Rattle.std.specs.List.{position}
use Rattle.std.specs.Option.{option_and_then}
use Rattle.std.proofs.lemmas.Iterator.{YieldsList-from_slice}
use Rattle.std.proofs.lemmas.Iterator.Search.{position_from_yields_List}
use Rattle.jc_platform.specs.NamePlaces.{class_of}
use Rattle.jc_platform.specs.Numbers.{same_method}
use Rattle.jc_platform.specs.Rows.{methods_of}
use Rattle.jc_platform.specs.RowValues.{method_value}
use Rattle.jc_platform.specs.Packing.{byte_place}
use Rattle.jc_platform.proofs.Places.{placed_through}
use Rattle.jc_platform.proofs.packed_entry.place_of_method.Goals as goal

pub returns-in_err-place : goal.returns-in_err-place
returns-in_err-place c =
    let own = c.methods_of.result.now in
    let at : c.position.result ≡ position (λ e. same_method e.method c.args.method) (methods_of (class_of c.args.method)) =
    placed_through (λ e. same_method e.method c.args.method) method_value own (methods_of (class_of c.args.method)) c.position.result
    (c.methods_of.ensures ∙ ap methods_of c.class.ensures)
    (position_from_yields_List (λ e. same_method e.method c.args.method) _ _ c.position.result c.position.ensures.ran (YieldsList-from_slice own cc)
    (λ x b q k. search (rules, tests))) in
    let none : c.from_residual.result ≡ None = search rules in
    none ∙ sym (ap (option_and_then byte_place) (sym at ∙ c.in_err-place.was))

pub returns : goal.returns
returns c =
    let own = c.methods_of.result.now in
    let at : c.position.result ≡ position (λ e. same_method e.method c.args.method) (methods_of (class_of c.args.method)) =
    placed_through (λ e. same_method e.method c.args.method) method_value own (methods_of (class_of c.args.method)) c.position.result
    (c.methods_of.ensures ∙ ap methods_of c.class.ensures)
    (position_from_yields_List (λ e. same_method e.method c.args.method) _ _ c.position.result c.position.ensures.ran (YieldsList-from_slice own cc)
    (λ x b q k. search (rules, tests))) in
    c.byte_place.ensures ∙ sym (ap (option_and_then byte_place) (sym at ∙ c.in_ok-place.was))
