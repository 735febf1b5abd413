-- The platform table that a file of rows names.
use Rattle.std.specs.Prelude.{ℕ, ◌≡◌, ◌≢◌, ◌⊎◌, List, ◌∷◌, ◌++◌, All, codes, None}
use Rattle.std.specs.String.{string_bytes}
use Rattle.jcard_test.specs.Lines.{Says}
use Rattle.jcard_test.specs.declared.line.Line.{Line}
use Rattle.jcard_test.specs.declared.line.Line.TheVariants.{Nothing, Row}
use Rattle.jcard_test.specs.declared.numbered_line.Numbered.{Numbered}
use Rattle.jcard_test.specs.declared.table_line.TableLine.{TableLine}

-- a line says nothing
abbrev pub SaysNothing : Numbered → Type 0
SaysNothing line = Says (string_bytes line.text) Nothing

-- what a line says names no table
abbrev pub NamesNone : Line → Type 0
NamesNone (Row command None) = (name : List ℕ) → command.now ≢ codes "table " ++ name
NamesNone other = Unit {0}

-- it names the file of one: `table FILE`
abbrev pub Names : List ℕ → Line → Type 0
Names name (Row command None) = command.now ≡ codes "table " ++ name
Names name other = ⊥

-- the first of these lines that says something names that table, and these stand after it
abbrev pub IsNamed : List Numbered → TableLine → Type 0
IsNamed lines t = (before : List Numbered) × (line : Numbered) × (said : Line) × (lines ≡ before ++ line ∷ t.rest.now) × All SaysNothing before
    × (t.number ≡ line.number) × Says (string_bytes line.text) said × Names t.name.now said

-- no line says something, or the first that does names none
abbrev pub IsUnnamed : List Numbered → Type 0
IsUnnamed lines = All SaysNothing lines ⊎ ((before after : List Numbered) × (line : Numbered) × (said : Line) × (lines ≡ before ++ line ∷ after)
    × All SaysNothing before × Says (string_bytes line.text) said × (said ≢ Nothing) × NamesNone said)
