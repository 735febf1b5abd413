-- The text that says what came of files of rows.
use Rattle.std.specs.Prelude.{ℕ, ◌+◌, ◌==◌, Bool, true, false, List, [], ◌∷◌, ◌++◌, codes, decimal, length, min, count_by, if◌then◌else◌}
use Rattle.std.specs.String.{string_bytes}
use Rattle.jcard_outcomes.specs.declared.tested.Failure.{Failure}
use Rattle.jcard_outcomes.specs.declared.tested.Outcome.{Outcome}
use Rattle.jcard_outcomes.specs.declared.tested.Outcome.TheVariants.{NoRow, Held, Failed}
use Rattle.jcard_outcomes.specs.declared.tested.Tested.{Tested}

-- how many rows hold, up to the first that is not answered as it says
abbrev pub passed_in : Outcome → ℕ
passed_in NoRow = 0
passed_in (Held rows) = rows
passed_in (Failed failure) = failure.passed

-- whether there is such a row, or none at all
abbrev pub is_failed : Outcome → Bool
is_failed NoRow = true
is_failed (Held rows) = false
is_failed (Failed failure) = true

-- how many hold in all files
unfoldable pub passed_of : List Tested → ℕ
passed_of [] = 0
passed_of (t ∷ ts) = passed_in t.outcome + passed_of ts

-- how many files have such a row, or none at all
abbrev pub failed_of : List Tested → ℕ
failed_of ts = count_by (λ t. is_failed t.outcome) ts

-- this many rows hold
abbrev pub hold_text : Bool → List ℕ
hold_text true = codes " row holds\n"
hold_text false = codes " rows hold\n"

abbrev pub rows_text : ℕ → List ℕ
rows_text rows = decimal rows ++ hold_text (rows == 1)

abbrev pub holds_text : ℕ → List ℕ
holds_text rows = codes ": " ++ rows_text rows

-- a row
abbrev pub row_text : List ℕ → List ℕ → List ℕ
row_text command wanted = codes ": " ++ command ++ codes " = " ++ wanted

-- what was reported in place of what is wanted
abbrev pub told_text : List ℕ → List ℕ
told_text told = if length told == 0 then codes ", but is not answered\n" else codes ", but is " ++ told ++ codes "\n"

-- a row is not answered as it says
abbrev pub failure_text : Failure → List ℕ
failure_text f = codes " line " ++ decimal f.number ++ row_text (string_bytes f.command) (string_bytes f.wanted) ++ told_text f.told.items

abbrev pub outcome_text : Outcome → List ℕ
outcome_text NoRow = codes ": there is no row\n"
outcome_text (Held rows) = holds_text rows
outcome_text (Failed failure) = failure_text failure

-- the line of a file
abbrev pub tested_text : Tested → List ℕ
tested_text t = t.name.now ++ outcome_text t.outcome

-- those of all files
unfoldable pub lines_text : List Tested → List ℕ
lines_text [] = []
lines_text (t ∷ ts) = tested_text t ++ lines_text ts

-- how many rows passed, and how many failed
abbrev pub total_text : ℕ → ℕ → List ℕ
total_text passed failed = decimal passed ++ codes " passed, " ++ decimal failed ++ codes " failed\n"

-- all that is reported: the passed rows are counted up to 2^64 - 1
abbrev pub report_text : List Tested → List ℕ
report_text ts = lines_text ts ++ total_text (min (passed_of ts) 18446744073709551615) (failed_of ts)
