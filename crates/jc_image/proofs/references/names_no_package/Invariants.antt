-- No package before the index is at an address that is marked.
use Rattle.std.proofs.Common.{◌≡◌, ℕ, true, false, drop, get_or}
use Rattle.jc_heap.specs.Image.{image, package_addresses, is_package}
use Rattle.jc_image.proofs.references.names_no_package.Given as goal

abbrev pub invariant-loop-k : goal.invariant-loop-k
invariant-loop-k g l = (r : ℕ) → get_or l.named r false ≡ true → is_package (drop l.k (package_addresses (image l.journal.plain))) r
    ≡ is_package (package_addresses (image l.journal.plain)) r
