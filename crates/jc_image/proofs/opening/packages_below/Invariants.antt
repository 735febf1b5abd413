-- No package before the index is at or above the top.
use Rattle.std.proofs.Common.{◌≡◌, ◌≤◌, ℕ, drop}
use Rattle.jc_heap.specs.Image.{image, package_addresses, is_package}
use Rattle.jc_image.proofs.opening.packages_below.Given as goal

abbrev pub invariant-loop-k : goal.invariant-loop-k
invariant-loop-k g l = (a : ℕ) → l.top ≤ a → is_package (drop l.k (package_addresses (image l.journal.plain))) a
    ≡ is_package (package_addresses (image l.journal.plain)) a
