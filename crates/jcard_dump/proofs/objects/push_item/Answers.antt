use Rattle.std.proofs.Common.{◌≡◌, ◌∙◌, ◌++◌, [], Bool, List, ℕ, Option, ap, sym, if◌then◌else◌}
use Rattle.std.proofs.lemmas.Result.{on_ok_weaker}
use Rattle.jc_heap.specs.Object.{cells_of}
use Rattle.jc_objects.specs.Records.{item_at}
use Rattle.jcard_dump.specs.Image.{cells_in}
use Rattle.jcard_dump.specs.Objects.{listed_text, object_text}
use Rattle.jcard_dump.specs.declared.image.PlacedObject.{PlacedObject}
use Rattle.jcard_dump.proofs.objects.push_item.Goals as goal

pub returns-in-Some : goal.returns-in-Some
returns-in-Some g c =
    let i = c.args.image.now in
    let o = c.in-Some.object in
    let e = item_at i.words c.args.at in
    let old : List ℕ = c.args.text.now.items in
    on_ok_weaker c.push_object.result (λ (told : c.push_object.new.text.items ≡ old ++ object_text i o (cells_in i.words o)). told
    ∙ ap (λ (a : ℕ). old ++ object_text i o (cells_of (item_at i.words a))) c.in-Some.ensures.place
    ∙ ap (λ (b : Bool). old ++ (if b then object_text i o (cells_of e) else [])) (sym (sym c.is_listed.ensures ∙ c.if-is_listed.true))
    ∙ ap (λ (p : Option PlacedObject). old ++ listed_text i p (cells_of e)) c.in-Some.ensures.found) c.push_object.ensures
