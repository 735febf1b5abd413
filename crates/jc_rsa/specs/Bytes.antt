-- Places among bytes, and exclusive-or.
use Rattle.std.specs.Prelude.{◌≡◌, ◌≢◌, ◌≤◌, ◌<◌, ℕ, List, [], ◌∷◌, bit_xor, drop, length, slice_index}

-- from a place on no byte passes
abbrev pub HasNone : (ℕ → Type 0) → ℕ → List ℕ → Type 0
HasNone P start bytes = (i : ℕ) → start ≤ i → i < length bytes → ¬ (P (slice_index bytes i))

-- from a place on this is the place of the first byte that passes
pub record IsFirst (P : ℕ → Type 0) (start : ℕ) (bytes : List ℕ) (place : ℕ) : Type 0 where
  pub low : start ≤ place
  pub within : place < length bytes
  pub here : P (slice_index bytes place)
  pub before : (i : ℕ) → start ≤ i → i < place → ¬ (P (slice_index bytes i))

-- the byte is zero; the byte is another than this
abbrev pub IsZero : ℕ → Type 0
IsZero byte = byte ≡ 0

abbrev pub IsOther : ℕ → ℕ → Type 0
IsOther byte other = other ≢ byte

-- bytes, each exclusive-or the byte of a mask at its place
unfoldable pub xor : List ℕ → List ℕ → List ℕ
xor [] mask = []
xor (x ∷ xs) mask = bit_xor x (slice_index mask 0) ∷ xor xs (drop 1 mask)
