use Rattle.std.proofs.Common.{take}
use Rattle.jcard_attack.specs.Sweep.{AreStruckBy}
use Rattle.jcard_attack.proofs.sweep.strike_each.Given as goal

abbrev pub invariant-loop-fault : goal.invariant-loop-fault
invariant-loop-fault l = AreStruckBy l.shared.words.now l.shared.attacked l.shared.baseline (take l.fault-index l.faults) l.strikes.items
