use Rattle.std.proofs.Common.{arith, ◌≡◌, get_or}
use Rattle.std.proofs.lemmas.Bool.{leb-true, le-leb}
use Rattle.jc_words.specs.Layout.{packages_address, applets_address, most_packages, most_applets}
use Rattle.jc_heap.specs.Heap.{heap_of}
use Rattle.jc_image.proofs.Wholes.{counts_read}
use Rattle.jc_image.proofs.consistency.counts_fit.Goals as goal

pub returns-then-packages-le-MOST_PACKAGES : goal.returns-then-packages-le-MOST_PACKAGES
returns-then-packages-le-MOST_PACKAGES g c =
    let counts : ((heap_of c.args.journal.now.plain).counts.0 ≡ get_or c.args.journal.now.plain packages_address 0)
    × ((heap_of c.args.journal.now.plain).counts.1 ≡ get_or c.args.journal.now.plain applets_address 0) =
    counts_read c.args.journal.now.plain c.requires.laid in (
      (λ t. (omega (arith, counts.0, c.read-packages.ensures), omega (arith, counts.1, c.read-applets.ensures, leb-true c.read-applets.result most_applets t))),
      λ few. le-leb c.read-applets.result 64 (omega (arith, few.1, counts.1, c.read-applets.ensures)),
    )

pub returns-else-packages-le-MOST_PACKAGES : goal.returns-else-packages-le-MOST_PACKAGES
returns-else-packages-le-MOST_PACKAGES g c =
    let counts : ((heap_of c.args.journal.now.plain).counts.0 ≡ get_or c.args.journal.now.plain packages_address 0)
    × ((heap_of c.args.journal.now.plain).counts.1 ≡ get_or c.args.journal.now.plain applets_address 0) =
    counts_read c.args.journal.now.plain c.requires.laid in
    ((λ t. absurd (omega (arith, leb-true c.read-packages.result most_packages t))), λ few. absurd (omega (arith, few.0, counts.0, c.read-packages.ensures)))
