use Rattle.std.proofs.Common.{◌≡◌, ◌++◌, map, take}
use Rattle.jcard_attack.specs.PartLines.{fault_lines}
use Rattle.jcard_attack.specs.Report.{fault_told}
use Rattle.jcard_attack.proofs.part_lines.push_lines.Given as goal

abbrev pub invariant-loop-struck : goal.invariant-loop-struck
invariant-loop-struck l = l.text.items
    ≡ l.fn.text.items ++ fault_lines (map (fault_told (map (λ line. line.items) l.instructions)) (take l.struck-index l.strikes))
