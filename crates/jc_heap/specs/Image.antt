-- Where an image keeps what.
use Rattle.std.specs.Prelude.{ℕ, ◌+◌, ◌-◌, ◌/◌, ◌%◌, ◌==◌, Bool, false, List, [], ◌∷◌, map, take, drop, slice_index, length, ◌≤◌, ◌≡◌, if◌then◌else◌, nat_lt}
use Rattle.std.specs.List.{list_any}
use Rattle.jc_words.specs.Layout.{top_address, packages_address, text_length_address, addresses_start, most_packages, text_start}
use Rattle.jc_words.specs.Layout.{journal_address, front_capacity}
use Rattle.jc_commit.specs.Image.{capacity_of}
use Rattle.jc_heap.specs.Walk.{Sizes, records_from, missing_words}
use Rattle.jc_heap.specs.Object.{Item, AnObject, APackage, object_of, payload}
use Rattle.jc_heap.specs.Packed.{bytes_of_packed}

-- the words below the top: the others have no meaning
abbrev pub image : List ℕ → List ℕ
image words = take (slice_index words top_address) words

-- the first word after the table text
abbrev pub base : List ℕ → ℕ
base image = text_start + (slice_index image text_length_address + 1) / 2

abbrev pub package_addresses : List ℕ → List ℕ
package_addresses image = take (slice_index image packages_address) (take most_packages (drop addresses_start image))

abbrev pub is_package : List ℕ → ℕ → Bool
is_package packages at = list_any (λ p. p == at) packages

-- how many words a record has after its first
abbrev pub sizes : List ℕ → Sizes
sizes packages at words = if is_package packages at then slice_index words 0 - 1 else 3 + payload (slice_index words 0) (slice_index words 3)

abbrev pub item : List ℕ → ℕ → List ℕ → Item
item packages at words = if is_package packages at then APackage words else AnObject (object_of words)

abbrev pub item_entry : List ℕ → ℕ × List ℕ → ℕ × Item
item_entry packages e = (e.0, item packages e.0 e.1)

-- the records of an image
abbrev pub records : List ℕ → List (ℕ × List ℕ)
records image = records_from (sizes (package_addresses image)) 0 (base image) (drop (base image) image)

-- how many words the last record of an image lacks: none, where the table is whole
unfoldable pub missing_words_of_image : List ℕ → ℕ
missing_words_of_image image = missing_words (sizes (package_addresses image)) 0 (base image) (drop (base image) image)

-- the words of the table text
abbrev pub text_words : List ℕ → List ℕ
text_words words = take ((slice_index words text_length_address + 1) / 2) (drop text_start words)

-- the table text
abbrev pub table_text : List ℕ → List ℕ
table_text words = bytes_of_packed (slice_index words text_length_address) (text_words words)

-- a byte of the table text
abbrev pub text_byte : List ℕ → ℕ → ℕ
text_byte words i = if i % 2 == 0 then slice_index words (text_start + i / 2) / 256 else slice_index words (text_start + i / 2) % 256

-- the words that say how many cells the objects of each event can have, and how many the APDU buffer has: 0 says as many as are usual
abbrev pub cells_address : ℕ
cells_address = 13

abbrev pub buffer_address : ℕ
buffer_address = 14

-- the words of the front that no change of the heap touches: one that nothing reads, those two, and the last, which nothing reads either
abbrev pub lasting_words : List ℕ → List ℕ
lasting_words words = map (slice_index words) (4 ∷ cells_address ∷ buffer_address ∷ 15 ∷ [])

-- how many old values the journal can keep, as an image says it that reaches up to the words that describe it
abbrev pub capacity_in : List ℕ → ℕ
capacity_in image = if nat_lt journal_address (length image) then capacity_of image else front_capacity

-- words as the heap lays them: the top lies between the table's begin and the words' end, where the heap ends, and the table ends there;
-- a record that is no package's and begins with no header lacks words, so there is none
pub record IsWellFormed (words : List ℕ) : Type 0 where
  pub based : base (image words) ≤ slice_index words top_address
  pub fits : slice_index words top_address ≤ length words
  pub whole : missing_words_of_image (image words) ≡ 0
  -- no package begins at or above the top
  pub packages : (a : ℕ) → slice_index words top_address ≤ a → is_package (package_addresses (image words)) a ≡ false
