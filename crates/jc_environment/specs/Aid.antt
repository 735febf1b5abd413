-- Applet identifiers (AIDs) as AID objects hold them.
use Rattle.std.specs.Prelude.{ℕ, ◌+◌, ◌/◌, ◌%◌, ◌==◌, nat_le, List, map, slice_index, Option, Some, None, if◌then◌else◌}
use Rattle.std.specs.List.{range_with_len}
use Rattle.jc_heap.specs.declared.object.Facts.{Facts}
use Rattle.jc_memory.specs.State.{MemoryState}
use Rattle.jc_memory.specs.Cells.{header_at, words_at}

-- a byte of the AID that an AID object's cells hold: after the first cell they stand two a cell, the first of two high
abbrev pub aid_byte : List ℕ → ℕ → ℕ
aid_byte cells i = if i % 2 == 0 then slice_index cells (1 + i / 2) / 256 else slice_index cells (1 + i / 2) % 256

-- the AID that such cells hold: the first one is its length, which is 16 at most
unfoldable pub aid_of_cells : List ℕ → Option (List ℕ)
aid_of_cells cells = if nat_le (slice_index cells 0) 16 then Some (map (aid_byte cells) (range_with_len 0 (slice_index cells 0))) else None

-- the AID of an object with such a header
abbrev pub aid_behind : MemoryState → ℕ → Option Facts → Option (List ℕ)
aid_behind s r None = None
aid_behind s r (Some f) = if f.length == 9 then aid_of_cells (words_at s r 0 9) else None

-- the AID of the AID object that a reference names
abbrev pub aid_at : MemoryState → ℕ → Option (List ℕ)
aid_at s r = aid_behind s r (header_at s r)
