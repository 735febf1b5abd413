use Rattle.std.proofs.Common.{◌≡◌, ◌++◌}
use Rattle.std.specs.Prelude.{codes}
use Rattle.jcard_dump.specs.Image.{cells_in}
use Rattle.jcard_dump.specs.Objects.{cell_at}
use Rattle.jcard_dump.specs.Texts.{each_text}
use Rattle.jcard_dump.proofs.objects.push_cells.Given as goal

abbrev pub invariant-loop-i : goal.invariant-loop-i
invariant-loop-i g l = l.text.items ≡ l.fn.text.items
    ++ (codes ":" ++ each_text (cell_at l.image.legend l.object.facts (cells_in l.image.words l.object)) l.i)
