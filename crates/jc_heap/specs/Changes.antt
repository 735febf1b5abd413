-- Words of a change.
use Rattle.std.specs.Prelude.{ℕ, ◌<◌, List, length, slice_index_or}

-- each address is one of a store
abbrev pub AreWords : List (ℕ × ℕ) → Type 0
AreWords words = (k : ℕ) → k < length words → (slice_index_or words k (0, 0)).0 < 65536
