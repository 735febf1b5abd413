use Rattle.std.proofs.Common.{◌≡◌, ◌++◌, take, drop}
use Rattle.std.specs.Prelude.{codes}
use Rattle.jcard_dump.specs.Packages.{static_at}
use Rattle.jcard_dump.specs.Texts.{each_text}
use Rattle.jcard_dump.proofs.packages.push_image.Given as goal

abbrev pub invariant-loop-i : goal.invariant-loop-i
invariant-loop-i g l = l.text.items ≡ l.fn.text.items
    ++ (codes ", static image" ++ each_text (static_at l.references (take l.count (drop l.at (g.S.WordStore.words l.store)))) l.i)
