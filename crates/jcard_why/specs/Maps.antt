-- Maps of methods: lines that name the methods of packages.
use Rattle.std.specs.Prelude.{ℕ, ◌==◌, Bool, false, if◌then◌else◌, List, [], ◌∷◌, codes, length, take, drop, Option, Some, None}
use Rattle.std.specs.List.{slice_split}
use Rattle.std.specs.Option.{option_or, option_and_then}
use Rattle.std.specs.Str.{bytes_eq}

-- what stands after a word with which a line begins
abbrev pub behind : List ℕ → List ℕ → Option (List ℕ)
behind word line = if bytes_eq (take (length word) line) word then Some (drop (length word) line) else None

-- the name in a line `OFFSET NAME`
abbrev pub named_by : List ℕ → List ℕ → Option (List ℕ)
named_by offset line = option_and_then (behind (codes " ")) (behind offset line)

-- whether lines are of the package with this AID, after one that names a package, or after one that names none
abbrev pub is_section : List ℕ → Bool → Option (List ℕ) → Bool
is_section aid before None = before
is_section aid before (Some other) = bytes_eq other aid

-- whether what follows a line is of the package: a line `package AID` begins what is of it
abbrev pub is_of : List ℕ → Bool → List ℕ → Bool
is_of aid before line = is_section aid before (behind (codes "package ") line)

-- the name of a method, by its package's AID and its offset, in lines of which the first is of the package or not
abbrev pub name_in : List ℕ → List ℕ → Bool → List (List ℕ) → Option (List ℕ)
name_in aid offset inside [] = None
name_in aid offset inside (line ∷ lines) = option_or (if inside then named_by offset line else None) (name_in aid offset (is_of aid inside line) lines)

-- the name that a map has of a method
abbrev pub name_at : List ℕ → List ℕ → List ℕ → Option (List ℕ)
name_at map aid offset = name_in aid offset false (slice_split (λ b. b == 10) map)
