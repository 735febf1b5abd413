use Rattle.std.proofs.Common.{◌≡◌, ◌∙◌, List, ℕ, [], ap, subst}
use Rattle.std.specs.Str.Lines.{lines}
use Rattle.jcard_test.specs.TextLines.{AreTaken}
use Rattle.jcard_test.proofs.Numbering.{texts_of, unrolled_by}
use Rattle.jcard_test.proofs.lines.unroll.Goals as goal

pub returns : goal.returns
returns c =
    let whole : texts_of c.deref.result.now ≡ lines c.args.text.now = ap texts_of c.deref.ensures.value ∙ c.in_ok-texts.ensures in
    unrolled_by (λ v. v.items) c.args.text.now c.take_lines.new.loops.items c.take_lines.new.lines.items c.ended.result
    (subst (λ (ts : List (List ℕ)). AreTaken 1 ts [] [] c.take_lines.new.loops.items c.take_lines.new.lines.items) whole c.in_ok-take_lines.ensures)
    c.ended.ensures
