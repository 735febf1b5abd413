-- Values of cells.
use Rattle.std.specs.Prelude.{ℕ, ◌≡◌, ◌≤◌, ◌<◌, ◌⊎◌, ◌%◌, slice_index_or, Bool, true, false, List, [], ◌∷◌, map, drop, pos, nat_lt, if◌then◌else◌}
use Rattle.std.specs.Int.{w16, cast_signed, cast_unsigned}
use Rattle.jc_transient.specs.declared.cell.CellValue.{CellValue}
use Rattle.jc_transient.specs.declared.cell.CellValue.TheVariants.{Short, Reference}

-- the value of a cell once it is cleared
abbrev pub default_value : CellValue → CellValue
default_value (Short v) = Short (pos 0)
default_value (Reference r) = Reference 0

-- the value, or null where it refers to an object at or above the top
abbrev pub without_dead : ℕ → CellValue → CellValue
without_dead top (Short v) = Short v
without_dead top (Reference r) = Reference (if nat_lt r top then r else 0)

-- a word as a number: from 2^15 on it is 2^16 less; a byte is itself
abbrev pub number_of : ℕ → CellValue
number_of word = Short (cast_signed w16 word)

-- the low byte of a number, 0 for a reference
abbrev pub low_byte : CellValue → ℕ
low_byte (Short v) = cast_unsigned w16 v % 256
low_byte (Reference r) = 0

-- the cells from this place on are as a clearing leaves them
abbrev pub AreClearedFrom : ℕ → List CellValue → Type 0
AreClearedFrom place cells = map default_value (drop place cells) ≡ drop place cells

-- whether a cell holds the name of an object, or null
abbrev pub is_reference : CellValue → Bool
is_reference (Short v) = false
is_reference (Reference r) = true

-- the cells hold numbers alone
abbrev pub AreNumbers : List CellValue → Type 0
AreNumbers [] = Unit {0}
AreNumbers (cell ∷ cells) = (is_reference cell ≡ false) × AreNumbers cells

-- the cells from one place on and before another are zero
abbrev pub AreZeros : ℕ → ℕ → List CellValue → Type 0
AreZeros start end cells = (k : ℕ) → start ≤ k → k < end → slice_index_or cells k (Short (pos 0)) ≡ Short (pos 0)

-- a place lies from `start` on and before `end`, and not from one place on and before another
abbrev pub AreAmong : ℕ → ℕ → ℕ → ℕ → ℕ → Type 0
AreAmong start end from to k = (start ≤ k) × (k < end) × ((k < from) ⊎ (to ≤ k))
