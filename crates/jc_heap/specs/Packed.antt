-- Bytes as words: two in a word, the high one first.
use Rattle.std.specs.Prelude.{ℕ, ◌+◌, ◌*◌, ◌/◌, ◌%◌, ◌==◌, List, [], ◌∷◌, map, slice_index, if◌then◌else◌}
use Rattle.std.specs.List.{range_with_len}

-- bytes as words: two in a word, the high one first; an odd last byte has 0 beside it
abbrev pub packed_words : List ℕ → List ℕ
packed_words [] = []
packed_words (b ∷ []) = (256 * b) ∷ []
packed_words (b ∷ c ∷ bytes) = (256 * b + c) ∷ packed_words bytes

-- the byte of this index that a word holds: the high one of an even index, else the low one
abbrev pub byte_in : ℕ → ℕ → ℕ
byte_in word i = if i % 2 == 0 then word / 256 else word % 256

-- a byte of packed words
abbrev pub packed_byte : List ℕ → ℕ → ℕ
packed_byte words i = if i % 2 == 0 then slice_index words (i / 2) / 256 else slice_index words (i / 2) % 256

-- the first n bytes of packed words
unfoldable pub bytes_of_packed : ℕ → List ℕ → List ℕ
bytes_of_packed count words = map (packed_byte words) (range_with_len 0 count)

-- a word with the byte of this index set: the other one stays
abbrev pub with_byte : ℕ → ℕ → ℕ → ℕ
with_byte word i v = if i % 2 == 0 then 256 * v + word % 256 else word / 256 * 256 + v

-- the low byte of a cell
abbrev pub low_byte_of : List ℕ → ℕ → ℕ
low_byte_of cells i = slice_index cells i % 256

-- the low bytes of n cells from an index on
abbrev pub low_bytes : List ℕ → ℕ → ℕ → List ℕ
low_bytes cells i count = map (low_byte_of cells) (range_with_len i count)
