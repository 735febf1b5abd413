-- Rows beside the text that a script printed, of which each line answers a row.
use Rattle.std.specs.Prelude.{ℕ, ◌≡◌, ◌≢◌, ◌⊎◌, List, [], ◌∷◌, ◌++◌, length}
use Rattle.std.specs.List.{All}
use Rattle.std.specs.String.{string_bytes}
use Rattle.jcard_outcomes.specs.Answers.{FitsUnspaced}
use Rattle.jcard_outcomes.specs.declared.row.Row.{Row}

-- a text without a line feed (10)
abbrev pub IsLine : List ℕ → Type 0
IsLine text = All (λ c. c ≢ 10) text

-- the first line of this text is an answer that the row wants, and this follows it
abbrev pub IsAnswered : Row → List ℕ → List ℕ → Type 0
IsAnswered r text rest = (line : List ℕ) × IsLine line × (text ≡ line ++ 10 ∷ rest) × FitsUnspaced (string_bytes r.wanted) line

-- so do the first lines for these rows, one for each
unfoldable pub AreAnswered : List Row → List ℕ → List ℕ → Type 0
AreAnswered [] text rest = text ≡ rest
AreAnswered (r ∷ rows) text rest = (between : List ℕ) × IsAnswered r text between × AreAnswered rows between rest

-- the first line of this text is reported, and is no answer that the row wants, or no line feed ends it
abbrev pub IsUnlike : Row → List ℕ → List ℕ → Type 0
IsUnlike r text told = IsLine told × ((text ≡ told) ⊎ ((rest : List ℕ) × (text ≡ told ++ 10 ∷ rest) × (FitsUnspaced (string_bytes r.wanted) told → ⊥)))

-- the row after the first k is the first that is not answered as it says
abbrev pub IsFirstUnlike : List Row → List ℕ → ℕ → List ℕ → Type 0
IsFirstUnlike rows text k told = (before after : List Row) × (r : Row) × (rest : List ℕ) × (rows ≡ before ++ r ∷ after) × (length before ≡ k)
    × AreAnswered before text rest × IsUnlike r rest told
