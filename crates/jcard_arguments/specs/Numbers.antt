-- Numbers of a command line.
use Rattle.std.specs.Prelude.{ℕ, ◌&&◌, nat_lt, if◌then◌else◌, List, length, Option, Some, None, option_map}
use Rattle.std.specs.Option.{option_and_then}
use Rattle.std.specs.Str.{all_ascii_digits}
use Rattle.std.specs.Str.Parse.{digits_value}
use Rattle.clap.specs.Lexer.{strip_byte}
use Rattle.jcard_arguments.specs.declared.options.Lines.{Lines}
use Rattle.jcard_arguments.specs.declared.options.Lines.TheVariants.{First, Last}

-- the number that decimal digits spell, if it is below 2^32
abbrev pub number_of : List ℕ → Option ℕ
number_of text = if nat_lt 0 (length text) && all_ascii_digits text && nat_lt (digits_value 10 text) 4294967296 then Some (digits_value 10 text) else None

-- a number of instructions: a number, but not 0
abbrev pub budget_of : List ℕ → Option ℕ
budget_of text = option_and_then (λ n. if nat_lt 0 n then Some n else None) (number_of text)

-- what stands after a hyphen, if a text begins with one, and the text: the last n lines, or the first
abbrev pub lines_by : Option (List ℕ) → List ℕ → Option Lines
lines_by (Some digits) text = option_map Last (number_of digits)
lines_by None text = option_map First (number_of text)

abbrev pub lines_of : List ℕ → Option Lines
lines_of text = lines_by (strip_byte 45 text) text

-- the lines that an option asks for that may be given: none, some, or neither
abbrev pub lines_given : Option (List ℕ) → Option (Option Lines)
lines_given None = Some None
lines_given (Some text) = option_map Some (lines_of text)

-- a number of instructions that may be given
abbrev pub budget_given : Option (List ℕ) → Option (Option ℕ)
budget_given None = Some None
budget_given (Some text) = option_map Some (budget_of text)
