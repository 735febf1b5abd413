-- How many packages and applets the words of an image state.
use Rattle.std.proofs.Common.{◌≡◌, ℕ, List, get_or, arith}
use Rattle.std.proofs.lemmas.List.{get_or-take}
use Rattle.jc_words.specs.Layout.{top_address, packages_address, applets_address}
use Rattle.jc_heap.specs.Image.{IsWellFormed}
use Rattle.jc_heap.specs.Heap.{heap_of, read_image}

pub counts_read : (ws : List ℕ) → IsWellFormed ws → ((heap_of ws).counts.0 ≡ get_or ws packages_address 0)
    × ((heap_of ws).counts.1 ≡ get_or ws applets_address 0)
unfolding read_image
counts_read ws laid = (
  get_or-take (get_or ws top_address 0) ws packages_address 0 (omega (arith, laid.based)),
  get_or-take (get_or ws top_address 0) ws applets_address 0 (omega (arith, laid.based)),
)
