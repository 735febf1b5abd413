use Rattle.std.proofs.Common.{◌≡◌, ◌∙◌, ◌++◌, [], Bool, List, ℕ, Option, ap, subst, sym, if◌then◌else◌}
use Rattle.std.proofs.lemmas.Result.{on_ok_weaker}
use Rattle.jc_objects.specs.Places.{IsStanding, standing_at}
use Rattle.jc_objects.specs.declared.places.Standing.{Standing}
use Rattle.jcard_dump.specs.Compared.{beside_text, reported_text}
use Rattle.jcard_dump.specs.declared.image.PlacedObject.{PlacedObject}
use Rattle.jcard_dump.proofs.compared.Comparison.push_item.Goals as goal

pub push_beside-requires-clause-standing : goal.push_beside-requires-clause-standing
push_beside-requires-clause-standing g c = subst (λ (a : ℕ). IsStanding c.args.self.now.other.now.words a c.standing_from.result)
    (sym c.in-Some.ensures.place) c.standing_from.ensures.object

pub returns-in-Some-clause-told : goal.returns-in-Some-clause-told
returns-in-Some-clause-told g c =
    let i = c.args.self.now.image.now in
    let j = c.args.self.now.other.now in
    let side = c.args.self.now.side in
    let o = c.in-Some.object in
    let old : List ℕ = c.args.text.now.items in
    on_ok_weaker c.push_beside.result (λ (told : c.push_beside.new.text.items ≡ old ++ beside_text side i j o c.standing_from.result). told
    ∙ ap (λ (s : Standing). old ++ beside_text side i j o s) (c.standing_from.ensures.standing ∙ ap (standing_at j.words) (sym c.in-Some.ensures.place))
    ∙ ap (λ (b : Bool). old ++ (if b then beside_text side i j o (standing_at j.words o.at) else [])) (sym (sym c.is_listed.ensures ∙ c.if-is_listed.true))
    ∙ ap (λ (p : Option PlacedObject). old ++ reported_text side i j p) c.in-Some.ensures.found) c.push_beside.ensures
