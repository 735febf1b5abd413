-- What is kept of a line for its words.
use Rattle.std.specs.Prelude.{ℕ, ◌≡◌, ◌+◌, ◌-◌, ◌*◌, ◌&&◌, nat_le, if◌then◌else◌, List, take, drop, Option, Some, None}
use Rattle.std.specs.Char.{is_ascii_digit}
use Rattle.std.specs.Str.{all_ascii_digits}
use Rattle.std.specs.Str.Parse.{digits_value}
use Rattle.jcard_script.specs.declared.word.Word.{Word}

-- what these bytes are as a decimal number of none or more digits, up to 65535
abbrev pub number_so_far : List ℕ → Option ℕ
number_so_far digits = if all_ascii_digits digits && nat_le (digits_value 10 digits) 65535 then Some (digits_value 10 digits) else None

-- a number with one more digit
abbrev pub next_number : Option ℕ → ℕ → Option ℕ
next_number None b = None
next_number (Some n) b = if is_ascii_digit b && nat_le (10 * n + (b - 48)) 65535 then Some (10 * n + (b - 48)) else None

-- the first 39 bytes of a line, one more than a word has, and the number that those after the first five are
abbrev pub IsWordOf : Word → List ℕ → Type 0
IsWordOf word line = (word.head.items ≡ take 39 line) × (word.number ≡ number_so_far (drop 5 line))
