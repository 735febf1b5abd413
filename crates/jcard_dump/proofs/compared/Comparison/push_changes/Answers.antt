use Rattle.std.proofs.Common.{arith, ◌≡◌, ◌∙◌, ◌++◌, ap, ap₂, sym, List, ℕ, append_assoc, append-nil}
use Rattle.jcard_dump.specs.Compared.{change_text, change_text_at}
use Rattle.jcard_dump.specs.Texts.{each_text}
use Rattle.jcard_dump.specs.declared.compared.Change.{Change}
use Rattle.jcard_dump.proofs.EachText.{text_more, text_none}
use Rattle.jcard_dump.proofs.compared.Comparison.push_changes.Goals as goal

pub loop-cell-init : goal.loop-cell-init
loop-cell-init g c =
    let one = change_text_at c.args.self.now.image.now c.args.self.now.other.now c.args.object in
    sym (ap (λ (l : List ℕ). c.args.text.now.items ++ l) (text_none one) ∙ append-nil c.args.text.now.items)

pub loop-cell-preserved : goal.loop-cell-preserved
loop-cell-preserved g c =
    let old : List ℕ = c.args.text.now.items in
    let i : ℕ = c.loop-cell.cell in
    let one = change_text_at c.args.self.now.image.now c.args.self.now.other.now c.args.object in
    c.in_ok-push_change.ensures
    ∙ ap₂ (λ (l m : List ℕ). l ++ m) c.loop-cell.invariant
    (ap₂ (λ (a b : ℕ). let made : Change = record { cell = i; one = a; other = b } in change_text c.args.self.now.image.now c.args.object made)
    c.cell.ensures c.cell-in-loop-cell.ensures)
    ∙ append_assoc old (each_text one i) (one i)
    ∙ ap (λ (l : List ℕ). old ++ l) (sym (text_more one i))

pub returns : goal.returns
returns g c =
    let one = change_text_at c.args.self.now.image.now c.args.self.now.other.now c.args.object in
    let last : c.loop-cell.cell ≡ c.args.object.facts.length = omega arith in
    c.loop-cell.invariant ∙ ap (λ (n : ℕ). c.args.text.now.items ++ each_text one n) last
