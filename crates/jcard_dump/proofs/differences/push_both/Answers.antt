use Rattle.std.proofs.Common.{◌≡◌, ◌∙◌, ◌++◌, List, ℕ, ap, ap₂, subst}
use Rattle.jcard_dump.specs.InventoryLines.{Lines}
use Rattle.jcard_dump.specs.Differences.{both_lines}
use Rattle.jcard_dump.specs.Fault.{Lists}
use Rattle.jcard_dump.specs.Image.{hiding, keys_in}
use Rattle.jcard_dump.proofs.differences.push_both.Goals as goal

pub returns : goal.returns
returns g c =
    let i = c.args.one.now in
    let j = c.args.other.now in
    let keys : List ℕ = keys_in i c.args.secrets ++ keys_in j c.args.secrets in
    let made : c.extend_from_slice.new.self.items ≡ keys = c.in_ok-extend_from_slice.ensures.items
    ∙ ap₂ (λ (l m : List ℕ). l ++ m) c.in_ok-keys.ensures (c.deref.ensures.value ∙ c.in_ok-others.ensures) in
    let first : c.hiding.result ≡ hiding i keys = c.hiding.ensures ∙ ap (hiding i) (c.deref-2.ensures.value ∙ made) in
    let second : c.hiding-2.result ≡ hiding j keys = c.hiding-2.ensures ∙ ap (hiding j) (c.deref-3.ensures.value ∙ made) in
    subst (λ (l : Lines). Lists c.args.text.now.items c.push_lines.new.text.items l c.push_lines.result) (ap₂ both_lines first second) c.push_lines.ensures
