-- The text that says what cuts left.
use Rattle.std.specs.Prelude.{ℕ, ◌+◌, ◌-◌, ◌==◌, ◌||◌, ◌&&◌, not, max, Bool, true, false, List, [], ◌∷◌, ◌++◌, map, codes, decimal, drop, length, is_none, Option, Some, None, if◌then◌else◌}
use Rattle.std.specs.List.{starts_with}
use Rattle.std.specs.Str.{bytes_eq}
use Rattle.jcard_outcomes.specs.Recoveries.{first_difference, recoveries_text}
use Rattle.jcard_outcomes.specs.declared.recoveries.Depth.{Depth}
use Rattle.jcard_outcomes.specs.declared.recoveries.Depth.TheVariants.{Zero}
use Rattle.jcard_outcomes.specs.declared.heaps.Difference.{Difference}
use Rattle.jcard_outcomes.specs.declared.standing.Cut.{Cut}
use Rattle.jcard_outcomes.specs.declared.each.LineOutcome.{LineOutcome}
use Rattle.jcard_outcomes.specs.declared.each.LineOutcome.TheVariants.{Down, Swept}
use Rattle.jcard_outcomes.specs.declared.each.LineSweep.{LineSweep}
use Rattle.jcard_outcomes.specs.declared.report.Sweep.{Sweep}
use Rattle.jcard_outcomes.specs.declared.standing.Standing.{Standing}
use Rattle.jcard_outcomes.specs.declared.standing.Standing.TheVariants.{Before, BeforeButTries, After, AfterButTries, Answers, Changed, ChangedByCalls}

-- ---- rows

-- answers in one line: each with a space after it
abbrev pub in_line : List ℕ → List ℕ
in_line text = map (λ c. if c == 10 then 32 else c) text

-- a number after what it is
abbrev pub labelled : List ℕ → ℕ → List ℕ
labelled label n = label ++ decimal n

-- a word that has become another
abbrev pub changed_text : Difference → List ℕ
changed_text d = labelled (codes "changed: word ") d.address ++ labelled (codes " was ") d.before ++ labelled (codes " and is ") d.now

-- how a standing is reported
abbrev pub standing_text : Standing → List ℕ
standing_text Before = codes "as before"
standing_text BeforeButTries = codes "as before but for PIN tries"
standing_text After = codes "as after"
standing_text AfterButTries = codes "as after but for PIN tries"
standing_text Answers = codes "with other answers"
standing_text (Changed d) = changed_text d
standing_text (ChangedByCalls d) = changed_text d ++ codes " by non-atomic calls"

-- this many words
abbrev pub words_lost_text : ℕ → List ℕ
words_lost_text lost = decimal lost ++ codes " words lost"

-- how many words are lost, if any are
abbrev pub lost_text : ℕ → List ℕ
lost_text lost = if lost == 0 then [] else codes ", " ++ words_lost_text lost

-- what a row reports of a cut: the answers, how what is left stands, and what is lost
unfoldable pub outcome_text : Cut → List ℕ
outcome_text c = in_line c.answers.items ++ standing_text c.standing ++ lost_text c.lost

-- the numbers of the cuts of a row
abbrev pub numbers_text : ℕ → ℕ → List ℕ
numbers_text first last = if first == last then decimal first else decimal first ++ codes ".." ++ decimal last

-- what a row says after its numbers
abbrev pub ended : List ℕ → List ℕ
ended outcome = codes ": " ++ outcome ++ codes "\n"

-- the row of the cuts with these numbers, which left this
unfoldable pub row_text : ℕ → ℕ → List ℕ → List ℕ
row_text first last outcome = codes "cut after " ++ numbers_text first last ++ ended outcome

-- the rows from the one on that these cuts have begun; cuts that follow one another and left the same have one row
unfoldable pub rows_from : ℕ → ℕ → List ℕ → List Cut → List ℕ
rows_from first last outcome [] = row_text first last outcome
rows_from first last outcome (c ∷ more) = if bytes_eq outcome (outcome_text c) then rows_from first (last + 1) outcome more
    else row_text first last outcome ++ rows_from (last + 1) (last + 1) (outcome_text c) more

-- the rows of all cuts, which are counted from 0
abbrev pub rows_text : List Cut → List ℕ
rows_text [] = []
rows_text (c ∷ more) = rows_from 0 0 (outcome_text c) more

-- the row of the command that is not cut: its answer, and those after it
abbrev pub uncut_text : List ℕ → List ℕ → List ℕ
uncut_text answer answers = codes "no cut, answer " ++ answer ++ ended (in_line answers ++ codes "as after")

-- ---- the verdict

-- what was there before is left
abbrev pub is_before : Standing → Bool
is_before Before = true
is_before BeforeButTries = true
is_before other = false

-- what the command leaves is left
abbrev pub is_after : Standing → Bool
is_after After = true
is_after AfterButTries = true
is_after other = false

-- but for the tries of PINs
abbrev pub is_but_tries : Standing → Bool
is_but_tries BeforeButTries = true
is_but_tries AfterButTries = true
is_but_tries other = false

-- each word that is not as before was written by non-atomic calls
abbrev pub is_by_calls : Standing → Bool
is_by_calls (ChangedByCalls d) = true
is_by_calls other = false

-- how many cuts left what was before
unfoldable pub count_before : List Cut → ℕ
count_before [] = 0
count_before (c ∷ more) = if is_before c.standing then count_before more + 1 else count_before more

-- whether one left other tries
unfoldable pub any_but_tries : List Cut → Bool
any_but_tries [] = false
any_but_tries (c ∷ more) = is_but_tries c.standing || any_but_tries more

-- the first, counted from this many on, that left neither what was before nor what comes after
unfoldable pub first_broken : ℕ → List Cut → Option ℕ
first_broken k [] = None
first_broken k (c ∷ more) = if is_before c.standing || is_after c.standing then first_broken (k + 1) more else Some k

-- of the first of these that left neither, each word that is not as before was written by non-atomic calls
unfoldable pub broken_by_calls : List Cut → Bool
broken_by_calls [] = false
broken_by_calls (c ∷ more) = if is_before c.standing || is_after c.standing then broken_by_calls more else is_by_calls c.standing

-- the most words that one of them lost, or this many
unfoldable pub most_lost_from : ℕ → List Cut → ℕ
most_lost_from n [] = n
most_lost_from n (c ∷ more) = most_lost_from (max n c.lost) more

-- each cut left what was before or what comes after, and no recovery made a difference
abbrev pub are_whole : List Cut → Bool
are_whole cuts = is_none (first_broken 0 cuts) && is_none (first_difference 0 cuts)

-- how many cuts left which
abbrev pub shares_text : ℕ → ℕ → List ℕ
shares_text total before = if before == total then codes "each as before" else (if before == 0 then codes "each as after"
    else decimal before ++ codes " as before, the others as after")

-- the most words that one of them lost, if any did
abbrev pub most_lost_text : ℕ → List ℕ
most_lost_text most = if most == 0 then codes "\n" else codes ", at most " ++ words_lost_text most ++ codes "\n"

-- what is claimed, with or without the tries of PINs
abbrev pub claim_text : Bool → List ℕ
claim_text tries = codes "all or nothing" ++ (if tries then codes " but for PIN tries: " else codes ": ")

-- this many cuts
abbrev pub cuts_text : ℕ → List ℕ
cuts_text total = decimal total ++ (if total == 1 then codes " cut, " else codes " cuts, ")

-- all cuts left what was before or what comes after
abbrev pub whole_text : ℕ → ℕ → Bool → ℕ → List ℕ
whole_text total before tries lost = claim_text tries ++ cuts_text total ++ shares_text total before ++ most_lost_text lost

-- one of them left something else, by non-atomic calls or not
abbrev pub broken_told : Bool → ℕ → List ℕ
broken_told by_calls k = codes "NOT all or nothing: first at cut " ++ decimal k ++ (if by_calls then codes ", by non-atomic calls" else codes "")

abbrev pub broken_text : Bool → ℕ → List ℕ
broken_text by_calls k = broken_told by_calls k ++ codes "\n"

abbrev pub verdict_by : Option ℕ → List Cut → List ℕ
verdict_by (Some k) cuts = broken_text (broken_by_calls cuts) k
verdict_by None cuts = whole_text (length cuts) (count_before cuts) (any_but_tries cuts) (most_lost_from 0 cuts)

-- the status word of an answer, its last four digits
abbrev pub status_text : List ℕ → List ℕ
status_text answer = drop (length answer - 4) answer

-- a command with this answer was refused: its status word is neither 9000 nor 61xx
abbrev pub is_refused : List ℕ → Bool
is_refused answer = not (bytes_eq (status_text answer) (codes "9000") || starts_with (λ a b. a == b) (status_text answer) (codes "61"))

-- it was, and made no write that could be cut
abbrev pub is_refused_at_once : List ℕ → List Cut → Bool
is_refused_at_once answer cuts = (length cuts == 0) && is_refused answer

abbrev pub no_write_text : List ℕ → List ℕ
no_write_text answer = codes "no write: answered " ++ (answer ++ codes "\n")

-- the verdict over a command with this answer
abbrev pub verdict_text : List ℕ → List Cut → List ℕ
verdict_text answer cuts = if is_refused_at_once answer cuts then no_write_text answer else verdict_by (first_broken 0 cuts) cuts

-- all that is reported of the cuts of a command
abbrev pub report_text : Sweep → List ℕ
report_text s = rows_text s.cuts.items ++ uncut_text s.answer.items s.after.answers.items ++ verdict_text s.answer.items s.cuts.items
    ++ recoveries_text s.depth s.cuts.items

-- ---- the commands of a script

-- a command by the number of its line
abbrev pub line_command_text : ℕ → List ℕ → List ℕ
line_command_text n command = codes "line " ++ decimal n ++ codes ": " ++ command

-- it, and its answer, before what is reported of it
abbrev pub line_answer_text : ℕ → List ℕ → List ℕ → List ℕ
line_answer_text n command answer = line_command_text n command ++ codes " = " ++ answer ++ codes ": "

-- what is reported of recoveries after the cuts of a command in a line, if any were cut
abbrev pub line_recoveries_text : Depth → List ℕ → List Cut → List ℕ
line_recoveries_text Zero head cuts = []
line_recoveries_text depth head cuts = head ++ recoveries_text depth cuts

-- the rows of a command, where they are asked for
abbrev pub line_rows_text : Bool → Sweep → List ℕ
line_rows_text rows s = if rows then rows_text s.cuts.items ++ uncut_text s.answer.items s.after.answers.items else []

-- the verdict over a command in a line
abbrev pub swept_text : List ℕ → Sweep → List ℕ
swept_text head s = head ++ verdict_text s.answer.items s.cuts.items ++ line_recoveries_text s.depth head s.cuts.items

-- what is reported of a command in a line; one at which the card is down was not cut
abbrev pub line_outcome_text : Bool → ℕ → List ℕ → LineOutcome → List ℕ
line_outcome_text rows n command (Swept s) = line_rows_text rows s ++ swept_text (line_answer_text n command s.answer.items) s
line_outcome_text rows n command Down = line_command_text n command ++ codes ": the card is down at the command\n"

unfoldable pub line_verdict_text : Bool → LineSweep → List ℕ
line_verdict_text rows s = line_outcome_text rows s.number s.command.items s.outcome

-- the verdicts of all commands
unfoldable pub verdicts_text : Bool → List LineSweep → List ℕ
verdicts_text rows [] = []
verdicts_text rows (s ∷ more) = line_verdict_text rows s ++ verdicts_text rows more

-- a command in a line was all or nothing, or was not cut
abbrev pub is_whole_outcome : LineOutcome → Bool
is_whole_outcome (Swept s) = are_whole s.cuts.items
is_whole_outcome Down = true
