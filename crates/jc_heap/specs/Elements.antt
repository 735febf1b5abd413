-- Values for cells, and how they stand in words.
use Rattle.std.specs.Prelude.{ℕ, ◌+◌, ◌-◌, ◌*◌, ◌/◌, ◌%◌, ◌<◌, ◌≤◌, ◌==◌, ◌≡◌, List, [], ◌∷◌, ◌++◌, length, slice_index, slice_index_or, Option, Some, None, if◌then◌else◌}
use Rattle.jc_commit.specs.Runs.{run_words}
use Rattle.jc_heap.specs.declared.changes.Elements.{Elements}
use Rattle.jc_heap.specs.declared.changes.Elements.TheVariants.{Bytes, Words}
use Rattle.jc_heap.specs.declared.changes.Packing.{Packing}
use Rattle.jc_heap.specs.declared.changes.Packing.TheVariants.{Single, Double}
use Rattle.jc_heap.specs.Packed.{packed_words, byte_in, with_byte}
use Rattle.jc_heap.specs.Object.{is_packed}
use Rattle.jc_heap.specs.Heap.{heap_of, facts, cell_address}
use Rattle.jc_heap.specs.declared.place.Place.{Place}
use Rattle.jc_heap.specs.declared.place.Place.TheVariants.{Cell}
use Rattle.jc_heap.specs.Place.{cell_at}

-- the values, one after another
abbrev pub elements_of : Elements → List ℕ
elements_of (Bytes bytes) = bytes.now
elements_of (Words words) = words.now

-- a byte, where there is one
abbrev pub byte_or_none : Option ℕ → List ℕ
byte_or_none None = []
byte_or_none (Some byte) = byte ∷ []

-- the values, and the bytes that stay before and after them
abbrev pub bytes_with : Option ℕ → List ℕ → Option ℕ → List ℕ
bytes_with before values behind = byte_or_none before ++ (values ++ byte_or_none behind)

-- the words in which values stand
abbrev pub packing_words : Packing → List ℕ → List ℕ
packing_words Single values = values
packing_words (Double before behind) values = packed_words (bytes_with before values behind)

-- words of an image that the first one, the bytes of those between, and the last one say
pub record AreSaidBy (first : ℕ) (middle : List ℕ) (last : ℕ) (words : List (ℕ × ℕ)) : Type 0 where
  pub few : length words ≤ 65536
  pub first_word : 0 < length words → (slice_index_or words 0 (0, 0)).1 ≡ first
  pub bytes : 2 * (length words - 2) ≤ length middle
  pub middle_words : (k : ℕ) → 0 < k → k + 1 < length words
      → (slice_index_or words k (0, 0)).1 ≡ 256 * slice_index middle (2 * (k - 1)) + slice_index middle (2 * (k - 1) + 1)
  pub last_word : (k : ℕ) → k + 1 ≡ length words → (slice_index_or words k (0, 0)).1 ≡ last

-- values that may stand so: two in a word are bytes
abbrev pub FitPacking : Packing → List ℕ → Type 0
FitPacking Single values = Unit {0}
FitPacking (Double before behind) values = (k : ℕ) → k < length values → slice_index values k < 256

-- what a place's word says once the place holds a value: the other element of its word stays
abbrev pub word_for : List ℕ → Place → ℕ → ℕ
word_for words (Cell r i) v = if is_packed (facts (heap_of words) r) then with_byte (slice_index words (cell_address r (i / 2))) i v else v
word_for words _ v = v

-- the byte that stays before an index of a packed array, in the same word
abbrev pub byte_before : List ℕ → ℕ → ℕ → Option ℕ
byte_before words r i = if i % 2 == 0 then None else Some (byte_in (slice_index words (cell_address r (i / 2))) 0)

-- the byte that stays after the elements before an index, in the word of the last of them
abbrev pub byte_behind : List ℕ → ℕ → ℕ → Option ℕ
byte_behind words r end = if end % 2 == 0 then None else Some (byte_in (slice_index words (cell_address r (end / 2))) 1)

-- how n values stand in the words of an object's cells from an index on
abbrev pub packing_of : List ℕ → ℕ → ℕ → ℕ → Packing
packing_of words r i n = if is_packed (facts (heap_of words) r) then Double (byte_before words r i) (byte_behind words r (i + n)) else Single

-- the words of a run of cells from an index on, once they hold these values: bytes that share a word with one of them stay
abbrev pub run_for : List ℕ → ℕ → ℕ → List ℕ → List (ℕ × ℕ)
run_for words r i [] = []
run_for words r i (v ∷ vs) =
    run_words (cell_at (facts (heap_of words) r) r i) (packing_words (packing_of words r i (length (v ∷ vs))) (v ∷ vs))
