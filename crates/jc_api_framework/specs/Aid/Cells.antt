-- The cells of an AID object.
use Rattle.std.specs.Prelude.{ℕ, ◌+◌, ◌*◌, ◌≡◌, ◌≤◌, ◌<◌, nat_le, ◌&&◌, Bool, Some, List, ◌∷◌, length, map, slice_index}
use Rattle.std.specs.List.{range_with_len}
use Rattle.jc_environment.specs.Aid.{aid_of_cells}

-- this many bytes are an AID
abbrev pub is_aid_length : ℕ → Bool
is_aid_length n = nat_le 5 n && nat_le n 16

-- two bytes of an AID, the first one high, with zeros after its last
abbrev pub aid_cell : List ℕ → ℕ → ℕ
aid_cell aid k = 256 * slice_index aid (2 * k) + slice_index aid (2 * k + 1)

-- its length, and its bytes two a cell
abbrev pub cells_of_aid : List ℕ → List ℕ
cells_of_aid aid = length aid ∷ map (aid_cell aid) (range_with_len 0 8)

-- the cells of an AID object hold the AID that was put into it
abbrev pub AreReadBack : Type 0
AreReadBack = (aid : List ℕ) → length aid ≤ 16 → ((i : ℕ) → i < length aid → slice_index aid i < 256) → aid_of_cells (cells_of_aid aid) ≡ Some aid
