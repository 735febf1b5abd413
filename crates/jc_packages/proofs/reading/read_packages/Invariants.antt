use Rattle.std.proofs.Common.{◌≡◌, map, drop}
use Rattle.jc_heap.specs.Component.{record_of}
use Rattle.jc_packages.specs.Reading.{packages_of, with_records}
use Rattle.jc_packages.proofs.reading.read_packages.Given as goal

abbrev pub invariant-loop-k : goal.invariant-loop-k
invariant-loop-k g l = with_records l.linked (map (record_of l.heap.now) (drop l.k l.heap.now.packages)) ≡ packages_of l.fn.platform l.heap.now
