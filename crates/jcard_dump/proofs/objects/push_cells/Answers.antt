use Rattle.std.proofs.Common.{arith, ◌≡◌, ◌∙◌, ◌++◌, ap, ap₂, List, ℕ}
use Rattle.std.specs.Prelude.{codes}
use Rattle.jc_objects.specs.declared.legend.Legend.{Legend}
use Rattle.jcard_dump.specs.Image.{cells_in}
use Rattle.jcard_dump.specs.Objects.{cell_at, cell_text}
use Rattle.jcard_dump.specs.Texts.{each_text}
use Rattle.jcard_dump.proofs.EachText.{text_begun, text_grown}
use Rattle.jcard_dump.proofs.objects.push_cells.Goals as goal

pub loop-i-init : goal.loop-i-init
loop-i-init g c =
    let cells : List ℕ = cells_in c.args.image.now.words c.args.object in
    text_begun (cell_at c.args.image.now.legend c.args.object.facts cells) c.args.text.now.items (codes ":") _ c.in_ok-extend_from_slice.ensures.items

pub loop-i-preserved : goal.loop-i-preserved
loop-i-preserved g c =
    let cells : List ℕ = cells_in c.args.image.now.words c.args.object in
    let i : ℕ = c.loop-i.i in
    let now : List ℕ = c.loop-i.text.items in
    text_grown (cell_at c.args.image.now.legend c.args.object.facts cells) c.args.text.now.items (codes ":") now _ i c.loop-i.invariant
    (c.in_ok-push_cell.ensures
    ∙ ap₂ (λ (t : Legend) (v : ℕ). now ++ cell_text t c.args.object.facts i v) c.legend-legend.ensures c.cell.ensures)

pub returns : goal.returns
returns g c =
    let cells : List ℕ = cells_in c.args.image.now.words c.args.object in
    let last : c.loop-i.i ≡ c.args.object.facts.length = omega arith in
    c.loop-i.invariant ∙ ap (λ (n : ℕ). c.args.text.now.items ++ (codes ":" ++ each_text (cell_at c.args.image.now.legend c.args.object.facts cells) n)) last
