-- The platform table of an image.
use Rattle.std.specs.Prelude.{ℕ, ◌+◌, ◌/◌, ◌≤◌, List, length, slice_index, Ok}
use Rattle.jc_words.specs.Layout.{text_length_address, text_start}
use Rattle.jc_heap.specs.Image.{table_text}
use Rattle.jc_platform.specs.Tokens.{Tokens}
use Rattle.jc_platform.specs.Table.{Reads}
use Rattle.jc_packages.specs.declared.fault.ReadFault.{ReadFault}
use Rattle.jc_packages.specs.declared.fault.ReadFault.TheVariants.{Damaged, NoMemory}

-- the words of the table text are there
abbrev pub HasText : List ℕ → Type 0
HasText w = text_start + (slice_index w text_length_address + 1) / 2 ≤ length w

-- the table text is there, and this is the table that it spells
abbrev pub HasTable : List ℕ → Tokens → Type 0
HasTable w t = HasText w × Reads (table_text w) (Ok t)

-- why no table is read: memory was refused, or there is none
abbrev pub IsNoTable : List ℕ → ReadFault → Type 0
IsNoTable w NoMemory = Unit {0}
IsNoTable w Damaged = (t : Tokens) → HasTable w t → ⊥
