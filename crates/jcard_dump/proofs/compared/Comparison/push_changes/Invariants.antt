use Rattle.std.proofs.Common.{◌≡◌, ◌++◌}
use Rattle.jcard_dump.specs.Compared.{change_text_at}
use Rattle.jcard_dump.specs.Texts.{each_text}
use Rattle.jcard_dump.proofs.compared.Comparison.push_changes.Given as goal

abbrev pub invariant-loop-cell : goal.invariant-loop-cell
invariant-loop-cell g l = l.text.items ≡ l.fn.text.items ++ each_text (change_text_at l.self.image.now l.self.other.now l.object) l.cell
