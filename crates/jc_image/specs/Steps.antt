-- Steps over the records of a heap's words.
use Rattle.std.specs.Prelude.{ℕ, ◌+◌, ◌≡◌, ◌<◌, ◌≤◌, Bool, true, false, List, length, map, take, drop, slice_index, slice_index_or}
use Rattle.jc_words.specs.Layout.{top_address, text_start}
use Rattle.jc_heap.specs.Walk.{records_from}
use Rattle.jc_heap.specs.Object.{Item}
use Rattle.jc_heap.specs.Image.{image, base, package_addresses, is_package, sizes, item, item_entry}
use Rattle.jc_heap.specs.Heap.{HeapState}
use Rattle.jc_heap.specs.WholeHeap.{IsReference}

-- the top lies between the table's begin and the words' end, and no package begins at or above it
pub record HasBounds (words : List ℕ) : Type 0 where
  pub based : base (image words) ≤ slice_index words top_address
  pub fits : slice_index words top_address ≤ length words
  pub packages : (a : ℕ) → slice_index words top_address ≤ a → is_package (package_addresses (image words)) a ≡ false

-- the items from an address on
unfoldable pub items_from : List ℕ → ℕ → List (ℕ × Item)
items_from words at = map (item_entry (package_addresses (image words))) (records_from (sizes (package_addresses (image words))) 0 at (drop at (image words)))

-- how many words the record at an address has
unfoldable pub size_from : List ℕ → ℕ → ℕ
size_from words at = sizes (package_addresses (image words)) at (drop at (image words)) + 1

-- a record begins at this address, and it ends where the table ends at the latest
pub record HasRecord (words : List ℕ) (at : ℕ) : Type 0 where
  pub low : text_start ≤ at
  pub inside : at < slice_index words top_address
  pub whole : at + size_from words at ≤ slice_index words top_address

-- the item of the record at an address
unfoldable pub item_from : List ℕ → ℕ → Item
item_from words at = item (package_addresses (image words)) at (take (size_from words at) (drop at (image words)))

-- each of the words that are marked is a reference
unfoldable pub AreReferences : HeapState → List Bool → Type 0
AreReferences h named = (r : ℕ) → slice_index_or named r false ≡ true → IsReference h r
