use Rattle.jc_cap.proofs.ArraySizes.{Walks}
use Rattle.jc_cap.proofs.static_arrays.size_of_all.Given as goal

abbrev pub invariant-loop : goal.invariant-loop
invariant-loop l = Walks l.count l.counter l.bytes l.rest l.size
