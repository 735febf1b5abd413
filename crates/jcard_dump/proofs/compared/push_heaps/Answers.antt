use Rattle.std.proofs.Common.{◌≡◌, ◌∙◌, ◌++◌, ap, ap₂, subst, List, ℕ}
use Rattle.jc_objects.specs.Records.{are_whole}
use Rattle.jcard_dump.specs.InventoryLines.{Lines}
use Rattle.jcard_dump.specs.Compared.{compared_lines}
use Rattle.jcard_dump.specs.Fault.{Lists}
use Rattle.jcard_dump.specs.Pairs.{end_lines, lines_of}
use Rattle.jcard_dump.specs.declared.pairs.Side.TheVariants.{One, Other}
use Rattle.jcard_dump.proofs.ImageDifferences.{text_then}
use Rattle.jcard_dump.proofs.compared.push_heaps.Goals as goal

pub returns : goal.returns
returns g c =
    let w : List ℕ = c.args.one.now.words in
    let v : List ℕ = c.args.other.now.words in
    let old : List ℕ = c.args.text.now.items in
    let mid : List ℕ = c.push_texts.new.text.items in
    let new : List ℕ = c.push_end.new.text.items in
    let r = c.push_end.result in
    let a : Lines = compared_lines One c.args.one.now c.args.other.now in
    let b : Lines = compared_lines Other c.args.other.now c.args.one.now in
    let first : lines_of c.in_ok-first.first ≡ a = c.in_ok-first.ensures in
    let second : lines_of c.in_ok-second.second ≡ b = c.in_ok-second.ensures in
    let pushed : mid ≡ old ++ (a.text ++ b.text) = c.in_ok-push_texts.ensures
    ∙ ap₂ (λ (l m : List ℕ). old ++ (l ++ m)) (c.deref.ensures.value ∙ ap (λ (l : Lines). l.text) first)
    (c.deref-2.ensures.value ∙ ap (λ (l : Lines). l.text) second) in
    text_then r old mid new (a.text ++ b.text) (end_lines (are_whole w) (are_whole v)) pushed
    (subst (λ (l : Lines). Lists mid new l r) (ap₂ end_lines (ap (λ (l : Lines). l.readable) first) (ap (λ (l : Lines). l.readable) second)) c.push_end.ensures)
