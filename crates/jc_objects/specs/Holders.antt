-- The cell that stands in a word of a heap.
use Rattle.std.specs.Prelude.{ℕ, ◌+◌, ◌-◌, ◌*◌, ◌&&◌, nat_le, nat_lt, is_none, Bool, List, [], ◌∷◌, Option, Some, None, if◌then◌else◌}
use Rattle.jc_heap.specs.Object.{Item, AnObject, APackage, header_size, is_packed}
use Rattle.jc_heap.specs.declared.object.Facts.{Facts}
use Rattle.jc_objects.specs.declared.holders.Holder.{Holder}

-- the cell that stands n words after a header, of two elements in a word the first
abbrev pub cell_behind : Facts → ℕ → ℕ
cell_behind f words = if is_packed f then 2 * words else words

-- a cell of the object with this header and address stands in the word at an address
abbrev pub is_holder : Facts → ℕ → ℕ → Bool
is_holder f r a = is_none f.event && (nat_le (r + header_size) a && nat_lt (cell_behind f (a - (r + header_size))) f.length)

-- that cell, if it does; a package has none
abbrev pub holder_at : ℕ × Item → ℕ → Option Holder
holder_at (r, AnObject o) a = if is_holder o.facts r a then Some (record { object = r; cell = cell_behind o.facts (a - (r + header_size)); facts = o.facts }) else None
holder_at (r, APackage ws) a = None

abbrev pub or_else : Option Holder → Option Holder → Option Holder
or_else (Some found) other = Some found
or_else None other = other

-- the cell that stands in the word at an address, of these
abbrev pub holder_in : List (ℕ × Item) → ℕ → Option Holder
holder_in [] a = None
holder_in (e ∷ es) a = or_else (holder_at e a) (holder_in es a)
