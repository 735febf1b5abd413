-- The contents of memory, and how many cells its two areas have.
use Rattle.std.specs.Prelude.{ℕ, ◌≡◌, ◌≤◌, ◌+◌, ◌-◌, ◌==◌, Bool, false, List, ◌++◌, take, drop, length, min, pos, slice_index_or, if◌then◌else◌}
use Rattle.jc_transient.specs.declared.cell.CellValue.{CellValue}
use Rattle.jc_transient.specs.declared.cell.CellValue.TheVariants.{Short}
use Rattle.jc_transient.specs.declared.cell.ClearEvent.{ClearEvent}
use Rattle.jc_transient.specs.declared.cell.ClearEvent.TheVariants.{Reset, Deselect}
use Rattle.jc_transient.specs.declared.sizes.RamSizes.{RamSizes}

-- how many cells the objects of each event can have where nothing else is said, and at most
abbrev pub usual_cells : ℕ
usual_cells = 2048

abbrev pub most_cells : ℕ
most_cells = 16384

-- how many cells the APDU buffer has where nothing else is said, and at most
abbrev pub buffer_size : ℕ
buffer_size = 261

abbrev pub most_buffer : ℕ
most_buffer = 32767

-- what a word says of a size: 0 says as many as are usual
abbrev pub told_or : ℕ → ℕ → ℕ
told_or usual word = if word == 0 then usual else word

-- how many cells the objects of each event can have, by the word that says it
abbrev pub cells_told : ℕ → ℕ
cells_told word = told_or usual_cells word

-- how many cells the APDU buffer has, by the word that says it
abbrev pub buffer_told : ℕ → ℕ
buffer_told word = told_or buffer_size word

-- two words say sizes that a memory may have
pub record AreSizes (cells buffer : ℕ) : Type 0 where
  pub cells_least : usual_cells ≤ cells_told cells
  pub cells_most : cells_told cells ≤ most_cells
  pub buffer_least : buffer_size ≤ buffer_told buffer
  pub buffer_most : buffer_told buffer ≤ most_buffer

-- the sizes that they say: each area has the cells of its objects, and the first one also those by which the APDU buffer is longer than
-- usual; 65535 at most
unfoldable pub ram_sizes : ℕ → ℕ → RamSizes
ram_sizes cells buffer = record { reset = min (cells_told cells + (buffer_told buffer - buffer_size)) 65535; deselect = cells_told cells }

-- how many cells an event's area has
abbrev pub size_in : RamSizes → ClearEvent → ℕ
size_in sizes Reset = sizes.reset
size_in sizes Deselect = sizes.deselect

-- how many cells the two areas have; these cells; and for each address the flag of the object there
pub record RamState : Type 0 where
  pub sizes : RamSizes
  pub reset_cells : List CellValue
  pub deselect_cells : List CellValue
  pub flags : List Bool

-- how many cells an event's area has
abbrev pub area_size : RamState → ClearEvent → ℕ
area_size s event = size_in s.sizes event

-- how many flags there are: one for each address
abbrev pub flag_count : ℕ
flag_count = 65536

-- the areas and the flags have their sizes
pub record HasSizes (s : RamState) : Type 0 where
  pub reset_cells : length s.reset_cells ≡ s.sizes.reset
  pub deselect_cells : length s.deselect_cells ≡ s.sizes.deselect
  pub flags : length s.flags ≡ flag_count

-- the cells of an area
abbrev pub area : RamState → ClearEvent → List CellValue
area s Reset = s.reset_cells
area s Deselect = s.deselect_cells

-- other cells in an area
abbrev pub with_area : RamState → ClearEvent → List CellValue → RamState
with_area s Reset cells = record s { reset_cells = cells }
with_area s Deselect cells = record s { deselect_cells = cells }

-- the value of a cell
abbrev pub cell_at : RamState → ClearEvent → ℕ → CellValue
cell_at s event place = slice_index_or (area s event) place (Short (pos 0))

-- the flag of an object
abbrev pub flag_of : RamState → ℕ → Bool
flag_of s r = slice_index_or s.flags r false

-- each cell is zero and each flag is false
pub record IsCleared (s : RamState) : Type 0 where
  pub sizes : HasSizes s
  pub cells : (event : ClearEvent) (place : ℕ) → cell_at s event place ≡ Short (pos 0)
  pub flags : (r : ℕ) → flag_of s r ≡ false

-- these values stand in the cells from a place on, and the other cells stay
abbrev pub with_cells : List CellValue → ℕ → List CellValue → List CellValue
with_cells cells place values = take place cells ++ (values ++ drop (place + length values) cells)
