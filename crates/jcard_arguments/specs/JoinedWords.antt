-- Words of a command line that belong together.
use Rattle.std.specs.Prelude.{ℕ, Bool, false, List, [], ◌∷◌, ◌++◌, ◌&&◌, codes, length, nat_lt, if◌then◌else◌, Option, Some, None}
use Rattle.std.specs.Str.{all_ascii_digits, bytes_eq}
use Rattle.clap.specs.Lexer.{strip_byte}

-- a text of digits, one or more
abbrev pub are_digits : Option (List ℕ) → Bool
are_digits (Some text) = nat_lt 0 (length text) && all_ascii_digits text
are_digits None = false

-- a hyphen and digits
abbrev pub is_last_count : List ℕ → Bool
is_last_count word = are_digits (strip_byte 45 word)

-- a word is `--lines`, and the word after it a hyphen and digits
abbrev pub takes_count : List ℕ → List (List ℕ) → Bool
takes_count word [] = false
takes_count word (next ∷ more) = bytes_eq word (codes "--lines") && is_last_count next

-- the words, where `--lines` and a hyphen with digits after it are one word; after `--` they stay as they are
unfoldable pub joined : List (List ℕ) → List (List ℕ)
joined [] = []
joined (word ∷ []) = word ∷ []
joined (word ∷ next ∷ more) = if bytes_eq word (codes "--") then word ∷ next ∷ more
    else (if takes_count word (next ∷ more) then (codes "--lines=" ++ next) ∷ joined more else word ∷ joined (next ∷ more))
