-- References in cells, of each of which the same is so.
use Rattle.std.specs.Prelude.{ℕ}
use Rattle.jc_frames.specs.declared.cell.Cell.{Cell}
use Rattle.jc_frames.specs.declared.cell.Cell.TheVariants.{Short, Reference, ReturnAddress}

-- it is so of the reference in a cell, if there is one
abbrev pub CellRefersSo : (ℕ → Type 0) → Cell → Type 0
CellRefersSo L (Short v) = Unit {0}
CellRefersSo L (Reference r) = L r
CellRefersSo L (ReturnAddress a) = Unit {0}
