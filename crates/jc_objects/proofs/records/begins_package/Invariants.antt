use Rattle.std.proofs.Common.{◌≡◌, drop}
use Rattle.jc_heap.specs.Image.{image, is_package, package_addresses}
use Rattle.jc_objects.proofs.records.begins_package.Given as goal

abbrev pub invariant-loop-k : goal.invariant-loop-k
invariant-loop-k g l =
    let w = g.W.ImageWords.words l.words in
    is_package (drop l.k (package_addresses (image w))) l.at ≡ is_package (package_addresses (image w)) l.at
