-- Texts that are written in pieces.
use Rattle.std.specs.Prelude.{ℕ, ◌≡◌, ◌<◌, List, ◌++◌, length, Option}
use Rattle.std.specs.Io.KnownBytes.{Appends}

-- part is a beginning of the text, and not all of it
abbrev pub IsCutOf : List ℕ → List ℕ → Type 0
IsCutOf text part = (more : List ℕ) × (text ≡ part ++ more) × (0 < length more)

-- known bytes grow by a beginning of the text, and not by all of it
abbrev pub AppendsCut : Option (List ℕ) → Option (List ℕ) → List ℕ → Type 0
AppendsCut old new text = (part : List ℕ) × Appends old new part × IsCutOf text part
