use Rattle.std.proofs.Common.{◌≡◌, map, take}
use Rattle.jcard_attack.specs.PartLines.{told_as}
use Rattle.jcard_attack.specs.Report.{told_by}
use Rattle.jcard_attack.proofs.join.told_as.Given as goal

abbrev pub invariant-loop-fault : goal.invariant-loop-fault
invariant-loop-fault l = map told_by l.some.items ≡ told_as l.words (map told_by (take l.fault-index l.faults))
