-- Answers that are wanted of a card.
use Rattle.std.specs.Prelude.{ℕ, ◌≡◌, ◌≢◌, ◌≤◌, ◌==◌, ◌⊎◌, List, [], ◌∷◌, ◌++◌, if◌then◌else◌}
use Rattle.std.specs.List.{All}

-- a hexadecimal digit as a card prints them: 0 to 9 (48 to 57), A to F (65 to 70)
abbrev pub IsDigit : ℕ → Type 0
IsDigit c = ((48 ≤ c) × (c ≤ 57)) ⊎ ((65 ≤ c) × (c ≤ 70))

-- this answer is one that is wanted: the same text, where each `*` (42) of that stands for any number of digits
unfoldable pub Fits : List ℕ → List ℕ → Type 0
Fits [] told = told ≡ []
Fits (c ∷ wanted) told = ((digits rest : List ℕ) × (c ≡ 42) × (told ≡ digits ++ rest) × All IsDigit digits × Fits wanted rest)
    ⊎ ((rest : List ℕ) × (c ≢ 42) × (told ≡ c ∷ rest) × Fits wanted rest)

-- a text without its spaces (32)
unfoldable pub unspaced : List ℕ → List ℕ
unspaced [] = []
unspaced (x ∷ xs) = if x == 32 then unspaced xs else x ∷ unspaced xs

-- the same, where spaces do not count
abbrev pub FitsUnspaced : List ℕ → List ℕ → Type 0
FitsUnspaced wanted told = Fits (unspaced wanted) (unspaced told)
