-- Where the parts of a list stand.
use Rattle.std.specs.Prelude.{◌≡◌, ℕ, List, Ok, Some, slice_get}
use Rattle.jc_cap.specs.Reading.{Field, many_at, list_or_empty, BeginsWithList}

-- The bytes begin with n parts.
abbrev pub IsList : {A : Type 0} → (List ℕ → Field A) → ℕ → List ℕ → Type 0
IsList read n bytes = BeginsWithList read n bytes (list_or_empty (many_at read n bytes))

-- The place begins with part i of the n with which the bytes begin.
abbrev pub IsAtPlace : {A : Type 0} → (List ℕ → Field A) → ℕ → ℕ → List ℕ → List ℕ → Type 0
IsAtPlace read i n bytes place = (x : _) × (rest : List ℕ) × (read place ≡ Ok (x, rest)) × (slice_get (list_or_empty (many_at read n bytes)) i ≡ Some x)
