-- Times in seconds.
use Rattle.std.specs.Prelude.{ℕ, ◌+◌, ◌/◌, ◌%◌, List, [], ◌∷◌, ◌++◌, codes, decimal}

-- the last six decimal digits of a number (48 is `0`)
abbrev pub micro_digits : ℕ → List ℕ
micro_digits n = (48 + n / 100000 % 10) ∷ (48 + n / 10000 % 10) ∷ (48 + n / 1000 % 10) ∷ (48 + n / 100 % 10) ∷ (48 + n / 10 % 10) ∷ (48 + n % 10) ∷ []

-- microseconds as seconds, with six digits after the point
abbrev pub seconds_text : ℕ → List ℕ
seconds_text n = decimal (n / 1000000) ++ codes "." ++ micro_digits n
