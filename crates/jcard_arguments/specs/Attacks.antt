-- The values of the options of attacks.
use Rattle.std.specs.Prelude.{ℕ, ◌==◌, ◌||◌, ◌&&◌, ◌%◌, nat_le, nat_lt, Bool, true, false, List, codes, drop, length, slice_index, take, Option, Some, None, if◌then◌else◌}
use Rattle.std.specs.Char.{is_ascii_digit}
use Rattle.std.specs.List.{list_all}
use Rattle.std.specs.Option.{option_and_then}
use Rattle.std.specs.Str.{bytes_eq}
use Rattle.jcard_outcomes.specs.Models.{all_models, no_models}
use Rattle.jcard_outcomes.specs.declared.models.Models.{Models}
use Rattle.jcard_arguments.specs.Numbers.{number_of}

-- these models and the named one
abbrev pub with_model : Models → List ℕ → Option Models
with_model models name = if bytes_eq name (codes "skip") then Some (record models { skip = true })
    else (if bytes_eq name (codes "turn") then Some (record models { turn = true })
    else (if bytes_eq name (codes "zero") then Some (record models { zero = true }) else None))

-- these models, if there are any, and the named one
abbrev pub with_next : Option Models → List ℕ → Option Models
with_next None name = None
with_next (Some models) name = with_model models name

-- the models that a text of one, two or three names names, with commas between them; each name has four letters
abbrev pub models_of : List ℕ → Option Models
models_of text = if length text == 4 then with_model no_models text
    else (if length text == 9 && slice_index text 4 == 44 then with_next (with_model no_models (take 4 text)) (drop 5 text)
    else (if length text == 14 && (slice_index text 4 == 44 && slice_index text 9 == 44)
    then with_next (with_next (with_model no_models (take 4 text)) (take 4 (drop 5 text))) (drop 10 text) else None))

-- all of them, where none is named
abbrev pub models_given : Option (List ℕ) → Option Models
models_given None = Some all_models
models_given (Some text) = models_of text

-- a hexadecimal digit, in upper case
abbrev pub is_upper_digit : ℕ → Bool
is_upper_digit b = is_ascii_digit b || (nat_le 65 b && nat_le b 70)

abbrev pub are_upper_digits : List ℕ → Bool
are_upper_digits text = list_all is_upper_digit text

-- four hexadecimal digits or more, in upper case, and an even number of them
abbrev pub is_answer_end : List ℕ → Bool
is_answer_end text = if nat_lt (length text) 4 || length text % 2 == 1 then false else are_upper_digits text

-- the end of an answer that is named, or 9000
abbrev pub accepted_given : Option (List ℕ) → Option (List ℕ)
accepted_given None = Some (codes "9000")
accepted_given (Some text) = if is_answer_end text then Some text else None

-- a number of instructions within which a second fault comes: 1 to 64
abbrev pub within_of : List ℕ → Option ℕ
within_of text = option_and_then (λ n. if nat_lt 0 n && nat_le n 64 then Some n else None) (number_of text)

-- the one that is named, or 0, where no second fault comes
abbrev pub within_given : Option (List ℕ) → Option ℕ
within_given None = Some 0
within_given (Some text) = within_of text
