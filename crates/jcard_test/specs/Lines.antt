-- The lines of files of rows: what each says.
use Rattle.std.specs.Prelude.{ℕ, ◌≡◌, ◌≢◌, ◌<◌, ◌⊎◌, ◌++◌, List, [], Option, Some, None, codes, option_map, slice_index}
use Rattle.std.specs.Borrow.{Bor}
use Rattle.std.specs.Str.{trim_end, trim_start}
use Rattle.std.specs.Str.Parse.{IsNumeral, digits_value, without_leading_plus}
use Rattle.std.specs.Str.Pattern.{FindsChar, FindsText, SplitsAroundMatch}
use Rattle.jcard_test.specs.declared.line.Line.{Line}
use Rattle.jcard_test.specs.declared.line.Line.TheVariants.{Nothing, New, Include, For, End, Row}

-- the text up to the first of these marks, and what is after it; without the mark it is the whole text
abbrev pub IsPartedAt : List ℕ → List ℕ → List ℕ → Option (List ℕ) → Type 0
IsPartedAt mark text front None = FindsText mark text None × (front ≡ text)
IsPartedAt mark text front (Some back) = SplitsAroundMatch (FindsText mark) text front back

-- the same at the first space
abbrev pub IsSpacedAt : List ℕ → List ℕ → Option (List ℕ) → Type 0
IsSpacedAt text front None = FindsChar 32 text None × (front ≡ text)
IsSpacedAt text front (Some back) = SplitsAroundMatch (FindsChar 32) text front back

-- a line that does not begin with `#` (35) has this text before its first ` #`, without the white space at its end
abbrev pub HasText : List ℕ → List ℕ → Type 0
HasText line text = (slice_index line 0 ≢ 35) × (front : List ℕ) × (comment : Option (List ℕ)) × IsPartedAt (codes " #") line front comment
    × (text ≡ trim_end front)

-- decimal digits of a number of 16 bits, perhaps after a plus sign
abbrev pub IsNumber : List ℕ → ℕ → Type 0
IsNumber text n = IsNumeral 10 (without_leading_plus text) × (digits_value 10 (without_leading_plus text) ≡ n) × (n < 65536)

-- a loop whose number has this name, from one number to another
abbrev pub IsNumberedLoop : List ℕ → List ℕ → List ℕ → Line → Type 0
IsNumberedLoop word one other (For name first last) = (name.now ≡ word) × IsNumber one first × IsNumber other last
IsNumberedLoop word one other line = ⊥

-- what stands after `for `: the name of the number, which without one is `n`, the first number and the last
abbrev pub IsLoopLine : List ℕ → Line → Type 0
IsLoopLine words line = (word more : List ℕ) × IsSpacedAt words word (Some more)
    × (((one other : List ℕ) × IsSpacedAt more one (Some other) × IsNumberedLoop word one other line)
    ⊎ (IsSpacedAt more more None × IsNumberedLoop (codes "n") word more line))

-- a command, and what stands after the first ` = `
abbrev pub IsCommand : List ℕ → List ℕ → Option (List ℕ) → Type 0
IsCommand text command None = IsPartedAt (codes " = ") text command None
IsCommand text command (Some answer) = (front back : List ℕ) × IsPartedAt (codes " = ") text front (Some back) × (command ≡ trim_end front)
    × (answer ≡ trim_start back)

-- a text is no directive: neither one of its words nor a file to include
abbrev pub IsNoDirective : List ℕ → Type 0
IsNoDirective text = (text ≢ codes "new") × (text ≢ codes "end") × ((name : List ℕ) → text ≢ codes "include " ++ name)

-- a directive
abbrev pub IsDirective : List ℕ → Line → Type 0
IsDirective text New = text ≡ codes "new"
IsDirective text End = text ≡ codes "end"
IsDirective text (Include name) = text ≡ codes "include " ++ name.now
IsDirective text (For name first last) = (words : List ℕ) × (text ≡ codes "for " ++ words) × IsLoopLine words (For name first last)
IsDirective text other = ⊥

-- a row, which is no other line
abbrev pub IsRowLine : List ℕ → Line → Type 0
IsRowLine text (Row command answer) = IsCommand text command.now (option_map (λ (told : Bor (List ℕ)). told.now) answer)
IsRowLine text other = ⊥

-- what a line says
abbrev pub Says : List ℕ → Line → Type 0
Says line Nothing = (slice_index line 0 ≡ 35) ⊎ HasText line []
Says line (Row command answer) = (text : List ℕ) × HasText line text × (text ≢ []) × IsNoDirective text × IsRowLine text (Row command answer)
Says line directive = (text : List ℕ) × HasText line text × IsDirective text directive
