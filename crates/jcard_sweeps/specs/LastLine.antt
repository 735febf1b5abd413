-- The last line of a text.
use Rattle.std.specs.Prelude.{ℕ, ◌≡◌, ◌≢◌, ◌⊎◌, ◌-◌, ◌<◌, ◌≤◌, List, drop, take, length, slice_index}

-- the last line of a text, without its line feed
abbrev pub IsLastLine : List ℕ → List ℕ → Type 0
IsLastLine text line = (start : ℕ) × (start ≤ length text - 1) × (line ≡ take (length text - 1 - start) (drop start text))
    × ((i : ℕ) → start ≤ i → i < length text - 1 → slice_index text i ≢ 10) × ((start ≡ 0) ⊎ (slice_index text (start - 1) ≡ 10))
