-- Static images: the bytes of a package's static fields, two in a word of its record, the high one first.
use Rattle.std.specs.Prelude.{ℕ, ◌+◌, ◌-◌, ◌*◌, ◌/◌, ◌%◌, ◌==◌, nat_lt, length, slice_get, slice_index, Option, Some, None, if◌then◌else◌}
use Rattle.std.specs.Option.{option_map, option_and_then}
use Rattle.jc_heap.specs.declared.place.Place.{Place}
use Rattle.jc_heap.specs.declared.place.Place.TheVariants.{Static}
use Rattle.jc_heap.specs.Component.{record_of}
use Rattle.jc_heap.specs.Heap.{HeapState, is_allocated}
use Rattle.jc_heap.specs.Statics.{statics_of, IsStatic}
use Rattle.jc_instructions.specs.declared.static_images.ImageWord.{ImageWord}

-- the record of the package with this number, from 1; none, where there is none
abbrev pub package_record_or_none : HeapState → ℕ → Option ℕ
package_record_or_none h r = if is_allocated h r then Some r else None

unfoldable pub record_at : HeapState → ℕ → Option ℕ
record_at h number = if number == 0 then None else option_and_then (package_record_or_none h) (slice_get h.packages (number - 1))

-- the word this many words after an image's first; none past its end
abbrev pub word_behind : HeapState → ℕ → ℕ → ℕ → Option ImageWord
word_behind h r number begin = if nat_lt (begin + number) (length (record_of h r)) then Some (record { owner = r; offset = begin + number }) else None

abbrev pub word_in : HeapState → ℕ → ℕ → Option ImageWord
word_in h number r = option_and_then (word_behind h r number) (statics_of (record_of h r))

-- the word of a package's static image with this number, from 0; none, where there is none
unfoldable pub image_word : HeapState → ℕ → ℕ → Option ImageWord
image_word h package_number number = option_and_then (word_in h number) (record_at h package_number)

-- the word after it; none past the image's end
abbrev pub next_word : HeapState → ImageWord → Option ImageWord
next_word h w = if nat_lt (w.offset + 1) (length (record_of h w.owner)) then Some (record { owner = w.owner; offset = w.offset + 1 }) else None

-- what it holds
abbrev pub word_value : HeapState → ImageWord → ℕ
word_value h w = slice_index (record_of h w.owner) w.offset

-- its place
abbrev pub place_of : ImageWord → Place
place_of w = Static w.owner w.offset

-- the heap has it
abbrev pub IsImageWord : HeapState → ImageWord → Type 0
IsImageWord h w = IsStatic (record_of h w.owner) w.offset

-- a byte of a word: the high one at an even offset of the image
abbrev pub byte_of : ℕ → ℕ → ℕ
byte_of word offset = if offset % 2 == 0 then word / 256 else word % 256

-- a word with another byte there
abbrev pub with_byte : ℕ → ℕ → ℕ → ℕ
with_byte word offset byte = if offset % 2 == 0 then 256 * byte + word % 256 else 256 * (word / 256) + byte

-- the byte at an offset of a package's static image
unfoldable pub image_byte : HeapState → ℕ → ℕ → Option ℕ
image_byte h package_number offset = option_map (λ w. byte_of (word_value h w) offset) (image_word h package_number (offset / 2))

-- the word whose two bytes stand from an offset on, the high one first
unfoldable pub image_pair : HeapState → ℕ → ℕ → Option ℕ
image_pair h package_number offset =
    option_and_then (λ high. option_map (λ low. 256 * high + low) (image_byte h package_number (offset + 1))) (image_byte h package_number offset)
