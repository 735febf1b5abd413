-- The lines of a script, and which of them are commands.
use Rattle.std.specs.Prelude.{ℕ, ◌+◌, ◌-◌, ◌==◌, ◌||◌, Bool, false, List, [], ◌∷◌, ◌++◌, length, if◌then◌else◌, Option, Some, None, slice_get}
use Rattle.std.specs.Char.{is_ascii_hexdigit}
use Rattle.jcard_sweeps.specs.declared.script_lines.ScriptLine.{ScriptLine}

-- a line of a script: its number, counted from 1, what stands before it, and it, with the line feed that ends it
pub record Line : Type 0 where
  pub number : ℕ
  pub before : List ℕ
  pub text : List ℕ

-- lines, the first of which begins with one byte more
abbrev pub with_first : ℕ → List (List ℕ) → List (List ℕ)
with_first x [] = (x ∷ []) ∷ []
with_first x (line ∷ more) = (x ∷ line) ∷ more

-- the lines of a text, each with the line feed that ends it, which the last may lack
unfoldable pub whole_lines : List ℕ → List (List ℕ)
whole_lines [] = []
whole_lines (x ∷ xs) = if x == 10 then (x ∷ []) ∷ whole_lines xs else with_first x (whole_lines xs)

-- a line is a command: it begins with a digit or a space, as no other line does
abbrev pub is_command : List ℕ → Bool
is_command [] = false
is_command (x ∷ xs) = (x == 32) || is_ascii_hexdigit x

-- a byte of a line is a space, or belongs to its end
abbrev pub is_blank : ℕ → Bool
is_blank x = (x == 32) || (x == 10) || (x == 13)

-- the text of a command: its line without those
unfoldable pub command_text : List ℕ → List ℕ
command_text [] = []
command_text (x ∷ xs) = if is_blank x then command_text xs else x ∷ command_text xs

-- the commands among these lines, from the one with this number on, after this text
unfoldable pub commands_from : ℕ → List ℕ → List (List ℕ) → List Line
commands_from n before [] = []
commands_from n before (line ∷ more) = if is_command line
    then record { number = n; before = before; text = line } ∷ commands_from (n + 1) (before ++ line) more
    else commands_from (n + 1) (before ++ line) more

-- the commands of a script
abbrev pub commands_of : List ℕ → List Line
commands_of script = commands_from 1 [] (whole_lines script)

-- the line that is reported so
abbrev pub line_of : ScriptLine → Line
line_of l = record { number = l.number; before = l.before.now; text = l.line.now }

-- the first of these lines with this number
unfoldable pub first_numbered : ℕ → List ScriptLine → Option ScriptLine
first_numbered n [] = None
first_numbered n (line ∷ more) = if line.number == n then Some line else first_numbered n more

-- the command that is meant: the one with this number, or the last of all
abbrev pub chosen : Option ℕ → List ScriptLine → Option ScriptLine
chosen None all = slice_get all (length all - 1)
chosen (Some n) all = first_numbered n all
