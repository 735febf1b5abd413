use Rattle.std.proofs.Common.{◌≡◌, ◌==◌, ◌+◌, ◌∷◌, None, take, ap, ◌∙◌, sym, rules, tests}
use Rattle.std.specs.List.{position, slice_split}
use Rattle.std.proofs.lemmas.Iterator.{YieldsList-from_slice}
use Rattle.std.proofs.lemmas.Iterator.Search.{position_from_yields_List}
use Rattle.jcard_why.proofs.Parts.{parts_uncut, parts_cut, take_rest}
use Rattle.jcard_why.proofs.maps.cut_once.Goals as goal

pub returns-in_err-at-clause-parts : goal.returns-in_err-at-clause-parts
returns-in_err-at-clause-parts c =
    let at : c.position.result ≡ position (λ b. b == c.args.separator) c.args.text.now =
    position_from_yields_List (λ b. b == c.args.separator) _ _ c.position.result c.position.ensures.ran (YieldsList-from_slice c.args.text.now cc)
    (λ x b q k. search (rules, tests)) in
    let none : c.from_residual.result ≡ None = search rules in
    rw none (parts_uncut c.args.separator c.args.text.now c.position.result at c.in_err-at.was)

pub returns-clause-parts : goal.returns-clause-parts
returns-clause-parts c =
    let at : c.position.result ≡ position (λ b. b == c.args.separator) c.args.text.now =
    position_from_yields_List (λ b. b == c.args.separator) _ _ c.position.result c.position.ensures.ran (YieldsList-from_slice c.args.text.now cc)
    (λ x b q k. search (rules, tests)) in
    parts_cut c.args.separator c.args.text.now c.position.result c.in_ok-at.at at c.in_ok-at.was
    ∙ ap (λ xs. take c.in_ok-at.at c.args.text.now ∷ slice_split (λ b. b == c.args.separator) xs) (sym (take_rest (c.in_ok-at.at + 1) c.args.text.now))
