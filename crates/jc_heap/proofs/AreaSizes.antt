-- The words that say how many cells the areas have.
use Rattle.std.proofs.Common.{◌≡◌, ◌≤◌, ℕ, List, get_or, arith}
use Rattle.std.proofs.lemmas.List.{get_or-take}
use Rattle.jc_words.specs.Layout.{top_address}
use Rattle.jc_heap.specs.Image.{base, buffer_address, cells_address, image}
use Rattle.jc_heap.specs.Heap.{buffer_word, cells_word, heap_of, read_image}

pub cells_read : (ws : List ℕ) → base (image ws) ≤ get_or ws top_address 0 → cells_word (heap_of ws) ≡ get_or ws cells_address 0
unfolding read_image
cells_read ws based = get_or-take (get_or ws top_address 0) ws cells_address 0 (omega (arith, based))

pub buffer_read : (ws : List ℕ) → base (image ws) ≤ get_or ws top_address 0 → buffer_word (heap_of ws) ≡ get_or ws buffer_address 0
unfolding read_image
buffer_read ws based = get_or-take (get_or ws top_address 0) ws buffer_address 0 (omega (arith, based))
