use Rattle.std.proofs.Common.{◌≡◌, ◌∙◌, List, ℕ, ap, inr, refl, subst}
use Rattle.jcard_dump.specs.Differences.{content_lines}
use Rattle.jcard_dump.specs.Fault.{Lists}
use Rattle.jcard_dump.specs.Image.{ListedImage, image_of}
use Rattle.jcard_dump.specs.declared.shown.Shown.{Shown}
use Rattle.jcard_dump.proofs.ImageDifferences.{content_by, no_other_table}
use Rattle.jcard_dump.proofs.differences.push_beside_image.Goals as goal

pub returns-in-Ok : goal.returns-in-Ok
returns-in-Ok g c =
    let i = c.args.image.now in
    let v : List ℕ = g.S.WordStore.words c.args.other.now in
    let u = c.in-Ok.legend in
    let r = c.push_both.result in
    let shown : Shown = record { all = i.all; secrets = c.args.secrets } in
    let made : c.new-other.result ≡ image_of u v i.all = c.new-other.ensures ∙ ap (image_of u v) c.all.ensures in
    content_by r i.words v shown _ _ (content_lines i (image_of u v i.all) c.args.secrets) (inr (inr (i.legend, u, c.requires.legend, c.in-Ok.ensures, refl)))
    (subst (λ (j : ListedImage). Lists c.args.text.now.items c.push_both.new.text.items (content_lines i j c.args.secrets) r) made c.push_both.ensures)

pub returns-in-Err : goal.returns-in-Err
returns-in-Err g c =
    let i = c.args.image.now in
    let v : List ℕ = g.S.WordStore.words c.args.other.now in
    let shown : Shown = record { all = i.all; secrets = c.args.secrets } in
    no_other_table c.in-Err.fault c.push_no_table.result i.words v shown _ _ i.legend c.requires.legend c.in-Err.ensures c.push_no_table.ensures.told
    c.push_no_table.ensures.memory
