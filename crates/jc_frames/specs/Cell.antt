-- Cells, and the top of a stack of cells.
use Rattle.std.specs.Option.{option_map, option_and_then}
use Rattle.std.specs.Prelude.{ℕ, ℤ, nat_lt, if◌then◌else◌, List, [], ◌∷◌, Option, Some, None, Result, Ok, Err}
use Rattle.jc_frames.specs.declared.cell.Cell.{Cell}
use Rattle.jc_frames.specs.declared.cell.Cell.TheVariants.{Short, Reference, ReturnAddress}
use Rattle.jc_frames.specs.declared.outcome.CodeFault.{CodeFault}

-- ---- a cell by its kind

abbrev pub as_short : Cell → Option ℤ
as_short (Short x) = Some x
as_short (Reference r) = None
as_short (ReturnAddress a) = None

abbrev pub as_reference : Cell → Option ℕ
as_reference (Short x) = None
as_reference (Reference r) = Some r
as_reference (ReturnAddress a) = None

abbrev pub as_address : Cell → Option ℕ
as_address (Short x) = None
as_address (Reference r) = None
as_address (ReturnAddress a) = Some a

-- the cell, or null where it refers to an object at or above the top
abbrev pub without_dead : ℕ → Cell → Cell
without_dead top (Short x) = Short x
without_dead top (Reference r) = Reference (if nat_lt r top then r else 0)
without_dead top (ReturnAddress a) = ReturnAddress a

-- ---- the top of a stack and the cells below it; none where the stack is too low or a cell has another kind

abbrev pub cell_on : List Cell → Option (Cell × List Cell)
cell_on [] = None
cell_on (c ∷ rest) = Some (c, rest)

abbrev pub short_on : List Cell → Option (ℤ × List Cell)
short_on [] = None
short_on (Short x ∷ rest) = Some (x, rest)
short_on (Reference r ∷ rest) = None
short_on (ReturnAddress a ∷ rest) = None

abbrev pub reference_on : List Cell → Option (ℕ × List Cell)
reference_on [] = None
reference_on (Short x ∷ rest) = None
reference_on (Reference r ∷ rest) = Some (r, rest)
reference_on (ReturnAddress a ∷ rest) = None

-- what an astore takes: a reference or a return address
abbrev pub storable_on : List Cell → Option (Cell × List Cell)
storable_on [] = None
storable_on (Short x ∷ rest) = None
storable_on (Reference r ∷ rest) = Some (Reference r, rest)
storable_on (ReturnAddress a ∷ rest) = Some (ReturnAddress a, rest)

-- the two shorts on top, the lower one first
abbrev pub two_shorts_on : List Cell → Option (ℤ × ℤ × List Cell)
two_shorts_on cells = option_and_then (λ a. option_map (λ b. (b.0, a.0, b.1)) (short_on a.1)) (short_on cells)

-- the two references on top, the lower one first
abbrev pub two_references_on : List Cell → Option (ℕ × ℕ × List Cell)
two_references_on cells = option_and_then (λ a. option_map (λ b. (b.0, a.0, b.1)) (reference_on a.1)) (reference_on cells)

-- ---- what a call took

-- what a call found; none at a fault
abbrev pub result_or_none : {T : Type 0} → Result T CodeFault → Option T
result_or_none (Ok x) = Some x
result_or_none (Err e) = None

-- what was taken from the stack, and what is left there; none at a fault
abbrev pub popped : {T : Type 0} → Result T CodeFault → List Cell → Option (T × List Cell)
popped (Ok x) rest = Some (x, rest)
popped (Err e) rest = None

abbrev pub popped_two : {T U : Type 0} → Result (T × U) CodeFault → List Cell → Option (T × U × List Cell)
popped_two (Ok p) rest = Some (p.0, p.1, rest)
popped_two (Err e) rest = None
