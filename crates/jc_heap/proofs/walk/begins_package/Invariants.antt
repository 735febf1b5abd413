use Rattle.std.proofs.Common.{◌≡◌, drop}
use Rattle.jc_heap.specs.Image.{image, package_addresses, is_package}
use Rattle.jc_heap.proofs.walk.begins_package.Given as goal

abbrev pub invariant-loop-k : goal.invariant-loop-k
invariant-loop-k g l = is_package (drop l.k (package_addresses (image l.journal.plain))) l.at ≡ is_package (package_addresses (image l.journal.plain)) l.at
