-- Why a line of a script has no form.
use Rattle.std.specs.Prelude.{ℕ, ◌+◌, ◌==◌, ◌||◌, Bool, not, if◌then◌else◌, List, codes, position, slice_index, Option, Some, None, nat_eq}
use Rattle.std.specs.List.{starts_with}
use Rattle.hex.specs.Hex.{is_hex_digit}
use Rattle.jcard_script.specs.declared.refused_line.LineFault.{LineFault}
use Rattle.jcard_script.specs.declared.refused_line.LineFault.TheVariants.{NoDigit, CommentBehind, OddDigits, NoNumber, NoFault}

-- a hexadecimal digit or a space
abbrev pub is_of_command : ℕ → Bool
is_of_command b = b == 32 || is_hex_digit b

-- what is wrong at the first byte that no command has: a comment that begins there, or another byte
abbrev pub fault_at : List ℕ → Option ℕ → LineFault
fault_at line None = OddDigits
fault_at line (Some i) = if slice_index line i == 35 then CommentBehind (i + 1) else NoDigit (i + 1) (slice_index line i)

-- why a line has no form, where it has none
abbrev pub fault_of : List ℕ → LineFault
fault_of line = if starts_with nat_eq line (codes "stop ") then NoNumber
    else (if starts_with nat_eq line (codes "glitch ") then NoFault else fault_at line (position (λ b. not (is_of_command b)) line))
