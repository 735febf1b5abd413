use Rattle.std.proofs.Common.{take, map}
use Rattle.jcard_sweeps.specs.ScriptLines.{line_of}
use Rattle.jcard_attack.specs.Each.{AreStruck}
use Rattle.jcard_attack.proofs.each.attack_each.Given as goal

abbrev pub invariant-loop-line : goal.invariant-loop-line
invariant-loop-line l = AreStruck l.words l.probe l.instructions l.sought (map line_of (take l.line-index l.lines)) l.attacks.items
