use Rattle.std.proofs.Common.{arith, ◌≡◌, ◌∙◌, ◌++◌, ap, List, ℕ}
use Rattle.std.specs.Prelude.{codes}
use Rattle.jcard_dump.specs.Image.{cells_in}
use Rattle.jcard_dump.specs.Objects.{aid_byte, byte_text}
use Rattle.jcard_dump.specs.Texts.{each_text}
use Rattle.jcard_dump.proofs.EachText.{text_begun, text_grown}
use Rattle.jcard_dump.proofs.objects.push_aid.Goals as goal

pub loop-i-init : goal.loop-i-init
loop-i-init g c =
    let cells : List ℕ = cells_in c.args.image.now.words c.args.object in
    text_begun (aid_byte cells) c.args.text.now.items (codes ": ") _ c.in_ok-extend_from_slice.ensures.items

pub cell-requires-clause-cell : goal.cell-requires-clause-cell
cell-requires-clause-cell g c = omega (arith, c.requires.cells, c.requires.long)

pub loop-i-preserved : goal.loop-i-preserved
loop-i-preserved g c =
    let cells : List ℕ = cells_in c.args.image.now.words c.args.object in
    let i : ℕ = c.loop-i.i in
    let now : List ℕ = c.loop-i.text.items in
    text_grown (aid_byte cells) c.args.text.now.items (codes ": ") now _ i c.loop-i.invariant
    (c.in_ok-push_byte.ensures ∙ ap (λ (v : ℕ). now ++ byte_text v i) c.cell.ensures)

pub returns : goal.returns
returns g c =
    let cells : List ℕ = cells_in c.args.image.now.words c.args.object in
    let last : c.loop-i.i ≡ c.args.long = omega arith in
    c.loop-i.invariant ∙ ap (λ (n : ℕ). c.args.text.now.items ++ (codes ": " ++ each_text (aid_byte cells) n)) last
