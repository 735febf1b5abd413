-- How far lines were reported.
use Rattle.std.specs.Prelude.{ℕ, zero, suc, ◌≡◌, true, false, List, [], ◌++◌, Result, Ok, Err}
use Rattle.jc_packages.specs.declared.fault.ReadFault.{ReadFault}
use Rattle.jc_packages.specs.declared.fault.ReadFault.TheVariants as image
use Rattle.jcard_dump.specs.InventoryLines.{Lines, line, then_lines}
use Rattle.jcard_dump.specs.declared.fault.ListFault.{ListFault}
use Rattle.jcard_dump.specs.declared.fault.ListFault.TheVariants.{Unreadable, NoMemory}

-- a text grew by lines, or by those before the first that cannot be read; or memory was refused
abbrev pub Lists : List ℕ → List ℕ → Lines → Result Unit ListFault → Type 0
Lists old new l (Ok done) = (l.readable ≡ true) × (new ≡ old ++ l.text)
Lists old new l (Err Unreadable) = (l.readable ≡ false) × (new ≡ old ++ l.text)
Lists old new l (Err NoMemory) = Unit {0}

-- what of an image is not read ends a listing so
abbrev pub list_fault : ReadFault → ListFault
list_fault image.Damaged = Unreadable
list_fault image.NoMemory = NoMemory

-- the lines of this many, by their numbers from 1 on
unfoldable pub each_line : (ℕ → Lines) → ℕ → Lines
each_line one zero = line []
each_line one (suc n) = then_lines (each_line one n) (one (suc n))
