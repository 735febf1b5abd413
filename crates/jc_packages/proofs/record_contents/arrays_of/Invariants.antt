use Rattle.std.proofs.Common.{◌≡◌, ◌++◌, map, length}
use Rattle.jc_heap.specs.Package.{AreArrays, array_inits}
use Rattle.jc_packages.specs.RecordContents.{array_of}
use Rattle.jc_packages.proofs.record_contents.arrays_of.Given as goal

abbrev pub invariant-loop-array : goal.invariant-loop-array
invariant-loop-array l = record { made : array_inits l.made.items ++ map array_of l.left ≡ map array_of l.fn.left; fit : AreArrays (array_inits l.made.items) }

abbrev pub decreases-loop-array : goal.decreases-loop-array
decreases-loop-array l = length l.left
