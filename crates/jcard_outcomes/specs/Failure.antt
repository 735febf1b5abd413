-- What came of rows.
use Rattle.std.specs.Prelude.{ℕ, ◌≡◌, ◌+◌, List, min, slice_index_or, Option, Some, None}
use Rattle.std.specs.String.{string_bytes}
use Rattle.jcard_outcomes.specs.Comparison.{AreAnswered, IsFirstUnlike}
use Rattle.jcard_outcomes.specs.declared.tested.Failure.{Failure}
use Rattle.jcard_outcomes.specs.declared.row.Row.{Row}

-- a row failed after this many that hold, and this was reported in its place
pub record IsFailureAt (r : Row) (passed : ℕ) (told : List ℕ) (f : Failure) : Type 0 where
  pub behind : f.passed ≡ passed
  pub number : f.number ≡ r.number
  pub command : string_bytes f.command ≡ string_bytes r.command
  pub wanted : string_bytes f.wanted ≡ string_bytes r.wanted
  pub told_so : f.told.items ≡ told

-- this text answers each of these rows as it says
abbrev pub AllAnswered : List Row → List ℕ → Type 0
AllAnswered rows text = (rest : List ℕ) × AreAnswered rows text rest

-- this failure is of the first row that it does not, after this many more that hold; as far as 64 bits count
abbrev pub IsFirstFailure : List Row → List ℕ → ℕ → Failure → Type 0
IsFirstFailure rows text passed f = (k : ℕ) × (told : List ℕ) × (r : Row) × IsFirstUnlike rows text k told × (r ≡ slice_index_or rows k r)
    × IsFailureAt r (min (passed + k) 18446744073709551615) told f

-- one or the other
abbrev pub IsCompared : List Row → List ℕ → ℕ → Option Failure → Type 0
IsCompared rows text passed None = AllAnswered rows text
IsCompared rows text passed (Some f) = IsFirstFailure rows text passed f
