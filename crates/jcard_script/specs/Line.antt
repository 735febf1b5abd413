-- What is kept of a line while it comes, byte by byte.
use Rattle.std.specs.Prelude.{ℕ, ◌≡◌, ◌==◌, ◌-◌, ◌%◌, Bool, true, false, List, [], ◌∷◌, length, take, slice_index}
use Rattle.std.specs.List.{list_all}
use Rattle.hex.specs.Hex.{is_hex_digit}
use Rattle.jc_card.specs.Session.Requests.{Command, Reset as Resets, ArmFuse as ArmsFuse, PlanFault as PlansFault}
use Rattle.jcard_script.specs.Script.{Form, Skipped, Asks, Bad, form_of, plain_form_of, without_spaces}
use Rattle.jcard_script.specs.declared.line.Kind.{Kind}
use Rattle.jcard_script.specs.declared.line.Kind.TheVariants.{Empty, Comment, Digits, Nonsense}
use Rattle.jcard_script.specs.declared.line.LineRequest.{LineRequest}
use Rattle.jcard_script.specs.declared.line.LineRequest.TheVariants.{Nothing, Exchange, Reset, ArmFuse, PlanFault, Refused}

-- the line is neither empty nor a comment
abbrev pub IsPlain : List ℕ → Type 0
IsPlain [] = ⊥
IsPlain (first ∷ rest) = (first == 35) ≡ false

-- the line has digits and spaces alone, these are its first 131,090 digits, and their number is odd or not
abbrev pub HasDigits : List ℕ → Bool → List ℕ → Type 0
HasDigits digits odd line = (list_all is_hex_digit (without_spaces line) ≡ true) × (digits ≡ take 131090 (without_spaces line))
    × (odd ≡ (length (without_spaces line) % 2 == 1))

-- a line of this kind
abbrev pub IsLineOf : Kind → List ℕ → Bool → List ℕ → Type 0
IsLineOf Empty digits odd line = (line ≡ []) × HasDigits digits odd line
IsLineOf Comment digits odd line = (rest : List ℕ) × (line ≡ 35 ∷ rest)
IsLineOf Digits digits odd line = IsPlain line × HasDigits digits odd line
IsLineOf Nonsense digits odd line = IsPlain line × (list_all is_hex_digit (without_spaces line) ≡ false)

-- whether the last byte is a carriage return
abbrev pub ends_in_return : List ℕ → Bool
ends_in_return line = slice_index line (length line - 1) == 13

-- the form is a command, of which these are the first 65,545 bytes, more than any command has
abbrev pub IsCommandOf : List ℕ → Form → Type 0
IsCommandOf told form = (bytes : List ℕ) × (form ≡ Asks (Command bytes)) × (told ≡ take 65545 bytes)

-- what is asked for is a form
abbrev pub IsAsked : LineRequest → Form → Type 0
IsAsked Nothing form = form ≡ Skipped
IsAsked (Exchange command) form = IsCommandOf command.now form
IsAsked Reset form = form ≡ Asks Resets
IsAsked (ArmFuse k) form = form ≡ Asks (ArmsFuse k)
IsAsked (PlanFault fault) form = form ≡ Asks (PlansFault fault)
IsAsked Refused form = form ≡ Bad

-- what a line asks for
abbrev pub AsksFor : LineRequest → List ℕ → Type 0
AsksFor asked line = IsAsked asked (form_of line)

-- what a line asks for that is no word
abbrev pub PlainlyAsksFor : LineRequest → List ℕ → Type 0
PlainlyAsksFor asked line = IsAsked asked (plain_form_of line)
