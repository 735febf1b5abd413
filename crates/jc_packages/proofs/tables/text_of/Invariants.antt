use Rattle.std.proofs.Common.{◌≡◌, take}
use Rattle.jc_heap.specs.Image.{table_text}
use Rattle.jc_packages.proofs.tables.text_of.Given as goal

abbrev pub invariant-loop-i : goal.invariant-loop-i
invariant-loop-i g l = l.text.items ≡ take l.i (table_text (g.W.ImageWords.words l.image))
