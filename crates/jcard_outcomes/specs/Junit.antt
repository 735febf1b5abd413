-- The report over files of rows that build servers read.
use Rattle.std.specs.Prelude.{ℕ, ◌==◌, ◌+◌, Bool, false, nat_lt, List, [], ◌∷◌, ◌++◌, codes, decimal, length, min, slice_index, if◌then◌else◌}
use Rattle.std.specs.String.{string_bytes}
use Rattle.jcard_texts.specs.Escapes.{escaped}
use Rattle.jcard_texts.specs.Seconds.{seconds_text}
use Rattle.jcard_outcomes.specs.declared.card_rows.CardRows.{CardRows}
use Rattle.jcard_outcomes.specs.declared.tested.Failure.{Failure}
use Rattle.jcard_outcomes.specs.declared.tested.Outcome.{Outcome}
use Rattle.jcard_outcomes.specs.declared.tested.Outcome.TheVariants.{NoRow, Held, Failed}
use Rattle.jcard_outcomes.specs.declared.tested.Tested.{Tested}
use Rattle.jcard_outcomes.specs.declared.row.Row.{Row}

-- what was reported in place of what is wanted
abbrev pub told_text : List ℕ → List ℕ
told_text told = if length told == 0 then codes ", but is not answered" else codes ", but is " ++ escaped told

-- the row that is not answered as it says
abbrev pub failure_text : Failure → List ℕ
failure_text f = codes "><failure message=\"line " ++ decimal f.number ++ codes ": " ++ escaped (string_bytes f.command) ++ codes " = "
    ++ escaped (string_bytes f.wanted) ++ told_text f.told.items ++ codes "\"/></testcase>\n"

-- what came of the row at this place: it is the first that is not answered as it says, or holds
abbrev pub verdict_text : Outcome → ℕ → List ℕ
verdict_text NoRow place = codes "/>\n"
verdict_text (Held rows) place = codes "/>\n"
verdict_text (Failed f) place = if place == f.passed then failure_text f else codes "/>\n"

-- a place is after the row that failed
abbrev pub is_behind : Outcome → ℕ → Bool
is_behind NoRow place = false
is_behind (Held rows) place = false
is_behind (Failed f) place = nat_lt f.passed place

-- the time at this place, or none
abbrev pub time_at : List ℕ → ℕ → ℕ
time_at times place = slice_index times place

-- the beginning of a test case of the file with this name
abbrev pub name_text : List ℕ → List ℕ
name_text name = codes "<testcase classname=\"" ++ escaped name ++ codes "\" name=\""

-- what the test case of a row is called
abbrev pub row_text : Row → List ℕ
row_text r = codes "line " ++ decimal r.number ++ codes ": " ++ escaped (string_bytes r.command)

-- the test case of the row at this place
abbrev pub row_case : Tested → ℕ → Row → List ℕ
row_case t place r = name_text t.name.now ++ row_text r ++ codes "\" time=\"" ++ seconds_text (time_at t.times.items place) ++ codes "\""
    ++ verdict_text t.outcome place

-- a row is a test case, if it does not stand after the one that failed
abbrev pub case_text : Tested → ℕ → Row → List ℕ
case_text t place r = if is_behind t.outcome place then [] else row_case t place r

-- so are these rows from the one at k on, of a card before which this many rows stand; places are counted up to 2^64 - 1
unfoldable pub rows_cases : Tested → ℕ → ℕ → List Row → List ℕ
rows_cases t first k [] = []
rows_cases t first k (r ∷ rows) = case_text t (min (first + k) 18446744073709551615) r ++ rows_cases t first (k + 1) rows

-- so are those of these cards
unfoldable pub cards_cases : Tested → ℕ → List CardRows → List ℕ
cards_cases t first [] = []
cards_cases t first (card ∷ cards) = rows_cases t first 0 card.rows.items
    ++ cards_cases t (min (first + length card.rows.items) 18446744073709551615) cards

-- a file without a row is one, which failed
abbrev pub no_row_text : List ℕ → List ℕ
no_row_text name = name_text name ++ codes "no row\" time=\"0.000000\"><failure message=\"there is no row\"/></testcase>\n"

abbrev pub outcome_cases : Tested → Outcome → List ℕ
outcome_cases t NoRow = no_row_text t.name.now
outcome_cases t (Held rows) = cards_cases t 0 t.cards.items
outcome_cases t (Failed f) = cards_cases t 0 t.cards.items

-- the test cases of a file
abbrev pub cases_text : Tested → List ℕ
cases_text t = outcome_cases t t.outcome

-- how many they are, counted up to 2^64 - 1, and how many failed
abbrev pub test_count : Outcome → ℕ
test_count NoRow = 1
test_count (Held rows) = rows
test_count (Failed f) = min (f.passed + 1) 18446744073709551615

abbrev pub failed_in : Outcome → ℕ
failed_in NoRow = 1
failed_in (Held rows) = 0
failed_in (Failed f) = 1

abbrev pub head_text : Tested → List ℕ
head_text t = codes "<testsuite name=\"" ++ escaped t.name.now ++ codes "\" tests=\"" ++ decimal (test_count t.outcome) ++ codes "\" failures=\""
    ++ decimal (failed_in t.outcome) ++ codes "\">\n"

-- a file is a test suite
abbrev pub suite_text : Tested → List ℕ
suite_text t = head_text t ++ cases_text t ++ codes "</testsuite>\n"

unfoldable pub suites_text : List Tested → List ℕ
suites_text [] = []
suites_text (t ∷ ts) = suite_text t ++ suites_text ts

-- all that is reported
abbrev pub junit_text : List Tested → List ℕ
junit_text ts = codes "<?xml version=\"1.0\" encoding=\"UTF-8\"?>\n<testsuites name=\"jcard\">\n" ++ suites_text ts ++ codes "</testsuites>\n"
