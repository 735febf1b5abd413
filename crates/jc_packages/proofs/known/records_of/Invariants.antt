use Rattle.std.proofs.Common.{◌≡◌, map, take}
use Rattle.jc_packages.specs.Known.{package_records}
use Rattle.jc_packages.proofs.known.records_of.Given as goal

abbrev pub invariant-loop-k : goal.invariant-loop-k
invariant-loop-k g l = map (λ r. r.items) l.records.items ≡ take l.k (package_records l.heap.now)
