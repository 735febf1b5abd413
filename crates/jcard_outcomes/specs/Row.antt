-- Rows, and the script of their lines.
use Rattle.std.specs.Prelude.{ℕ, List, [], ◌∷◌, ◌++◌, codes}
use Rattle.std.specs.String.{string_bytes}
use Rattle.jcard_outcomes.specs.declared.row.Row.{Row}

-- the line of a row, with a line feed
abbrev pub line_text : Row → List ℕ
line_text r = string_bytes r.command ++ codes "\n"

-- the lines of rows, in their order
unfoldable pub script_text : List Row → List ℕ
script_text [] = []
script_text (r ∷ rows) = line_text r ++ script_text rows
