use Rattle.std.proofs.Common.{◌≡◌, ◌∙◌, ◌++◌, [], ◌∷◌, List, ℕ, ap, sym, append-nil}
use Rattle.std.proofs.lemmas.Result.{on_ok_weaker}
use Rattle.jc_objects.specs.Records.{item_at}
use Rattle.jc_objects.proofs.Arrays.{of_key, of_other, of_package}
use Rattle.jc_objects.proofs.keys.push_key_array.Goals as goal

pub returns-in-Some : goal.returns-in-Some
returns-in-Some g c =
    let w : List ℕ = g.W.ImageWords.words c.args.words.now in
    let old : List ℕ = c.args.found.now.items in
    on_ok_weaker c.push_address.result (λ (e : c.push_address.new.found.items ≡ old ++ c.cell_of.result ∷ []). e
    ∙ ap (λ (v : ℕ). old ++ v ∷ []) c.cell_of.ensures
    ∙ ap (λ (l : List ℕ). old ++ l) (of_key c.args.platform.now c.args.at (item_at w c.args.at) c.in-Some.facts c.in-Some.ensures.facts
    (sym c.is_key.ensures ∙ c.if-is_key.true))) c.push_address.ensures

pub returns-in_default : goal.returns-in_default
returns-in_default g c =
    let w : List ℕ = g.W.ImageWords.words c.args.words.now in
    let old : List ℕ = c.args.found.now.items in
    sym (append-nil old) ∙ ap (λ (l : List ℕ). old ++ l) (of_other c.args.platform.now c.args.at (item_at w c.args.at) c.in-Some.facts
    c.in-Some.ensures.facts (sym c.is_key.ensures ∙ c.if-is_key.false))

pub returns-in_default-2 : goal.returns-in_default-2
returns-in_default-2 g c =
    let w : List ℕ = g.W.ImageWords.words c.args.words.now in
    let old : List ℕ = c.args.found.now.items in
    sym (append-nil old) ∙ ap (λ (l : List ℕ). old ++ l) (of_package c.args.platform.now c.args.at (item_at w c.args.at) c.in_default.ensures.facts)
