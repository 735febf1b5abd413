-- The records of a heap, as the words of an image give them.
use Rattle.std.specs.Prelude.{ℕ, ◌+◌, ◌-◌, ◌≤◌, ◌==◌, nat_le, Bool, List, take, drop, map, length, Option, Some, None, if◌then◌else◌}
use Rattle.jc_words.specs.Layout.{text_start}
use Rattle.jc_commit.specs.Image.{top_of}
use Rattle.jc_heap.specs.Walk.{Sizes, missing_words, records_from}
use Rattle.jc_heap.specs.Heap.{heap_of}
use Rattle.jc_heap.specs.Image.{image, item, item_entry, missing_words_of_image, package_addresses, sizes}
use Rattle.jc_heap.specs.Object.{Item, AnObject, APackage}
use Rattle.jc_heap.specs.declared.object.Facts.{Facts}

-- how many words the record that begins at an address has
abbrev pub record_size : List ℕ → ℕ → ℕ
record_size w at = sizes (package_addresses (image w)) at (drop at (image w)) + 1

-- the same, where these lie below the top
abbrev pub whole_size : List ℕ → ℕ → Option ℕ
whole_size w at = if nat_le (record_size w at) (top_of w - at) then Some (record_size w at) else None

-- the words of a record that begins at an address lie after the first ones, and below the top
pub record IsRecord (w : List ℕ) (at : ℕ) : Type 0 where
  pub low : text_start ≤ at
  pub whole : at + record_size w at ≤ top_of w

-- the words of the record that begins at an address
abbrev pub record_words : List ℕ → ℕ → List ℕ
record_words w at = take (record_size w at) (drop at (image w))

-- what stands at an address where a record begins
abbrev pub item_at : List ℕ → ℕ → Item
item_at w at = item (package_addresses (image w)) at (record_words w at)

-- what the header says, if it is an object
abbrev pub object_in : Item → Option Facts
object_in (AnObject o) = Some o.facts
object_in (APackage ws) = None

-- no record lacks words
abbrev pub are_whole : List ℕ → Bool
are_whole w = missing_words_of_image (image w) == 0

-- those that have all their words, where the last of them may lack some
abbrev pub whole_among : {A : Type 0} → Bool → List A → List A
whole_among whole xs = if whole then xs else take (length xs - 1) xs

-- the sizes of an image's records
abbrev pub sizes_in : List ℕ → Sizes
sizes_in w = sizes (package_addresses (image w))

-- no record of words that stand at an address lacks words
abbrev pub are_whole_from : Sizes → ℕ → List ℕ → Bool
are_whole_from more at ws = missing_words more 0 at ws == 0

-- these records, but for a last one that lacks words
abbrev pub whole_from : Sizes → ℕ → List ℕ → List (ℕ × List ℕ)
whole_from more at ws = whole_among (are_whole_from more at ws) (records_from more 0 at ws)

-- the same of the heap from an address on, and what these records are
abbrev pub is_whole_from : List ℕ → ℕ → Bool
is_whole_from w at = are_whole_from (sizes_in w) at (drop at (image w))

abbrev pub items_from : List ℕ → ℕ → List (ℕ × Item)
items_from w at = map (item_entry (package_addresses (image w))) (whole_from (sizes_in w) at (drop at (image w)))

-- what stands in the heap that words are, by addresses: all but a last record that lacks words
abbrev pub standing_items : List ℕ → List (ℕ × Item)
standing_items w = whole_among (are_whole w) (heap_of w).items
