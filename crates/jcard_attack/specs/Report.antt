-- The text that says what faults came to.
use Rattle.std.specs.Prelude.{ℕ, ◌+◌, ◌==◌, ◌&&◌, Bool, true, false, List, [], ◌∷◌, ◌++◌, map, codes, decimal, is_some, length, Option, Some, None, option_map, if◌then◌else◌}
use Rattle.std.specs.List.{slice_index_or}
use Rattle.std.specs.Str.{bytes_eq}
use Rattle.jc_interp.specs.declared.attacks.FaultModel.{FaultModel}
use Rattle.jc_interp.specs.declared.attacks.FaultModel.TheVariants.{Skip, Turn, Zero}
use Rattle.jc_card.specs.declared.planned_fault.PlannedFault.{PlannedFault}
use Rattle.jc_card.specs.declared.planned_fault.SecondFault.{SecondFault}
use Rattle.jcard_outcomes.specs.Report.{ended, in_line, standing_text}
use Rattle.jcard_attack.specs.declared.outcomes.AttackSweep.{AttackSweep}
use Rattle.jcard_attack.specs.declared.outcomes.Outcome.{Outcome}
use Rattle.jcard_attack.specs.declared.outcomes.Outcome.TheVariants.{Undisturbed, Silent, Accepted, Other, BrokenOff, Refused, Cut}
use Rattle.jcard_attack.specs.declared.outcomes.Struck.{Struck}
use Rattle.jcard_attack.specs.declared.rows.Row.{Row}
use Rattle.jcard_attack.specs.declared.fault_text.FaultTexts.{FaultTexts}
use Rattle.jcard_attack.specs.declared.fault_text.ToldFault.{ToldFault}

-- ---- rows

-- what a fault made of the command, in words
abbrev pub kind_text : Outcome → List ℕ
kind_text Undisturbed = codes "as without a fault"
kind_text Silent = codes "CHANGED IN SILENCE"
kind_text Accepted = codes "ACCEPTED"
kind_text Other = codes "another answer"
kind_text BrokenOff = codes "broken off"
kind_text Refused = codes "refused"
kind_text Cut = codes "cut"

-- the answer, the answers of the probe, and how the heap and they stand
abbrev pub told_of : Struck → List ℕ
told_of s = codes ", answer " ++ s.answer.items ++ codes ": " ++ (in_line s.answers.items ++ standing_text s.standing)

-- it changed nothing
abbrev pub is_undisturbed : Outcome → Bool
is_undisturbed Undisturbed = true
is_undisturbed _ = false

-- what a row says of a fault: all of it, where it made a difference
unfoldable pub outcome_text : Struck → List ℕ
outcome_text s = if is_undisturbed s.outcome then kind_text s.outcome else kind_text s.outcome ++ told_of s

-- the name of a model
abbrev pub model_name : FaultModel → List ℕ
model_name Skip = codes "skip"
model_name Turn = codes "turn"
model_name Zero = codes "zero"

-- the instructions of faults that came to this are reported
abbrev pub is_told_in_full : Outcome → Bool
is_told_in_full Accepted = true
is_told_in_full Silent = true
is_told_in_full _ = false

-- the second fault of a kind, where it has one
abbrev pub second_end : Option SecondFault → List ℕ
second_end None = []
second_end (Some second) = codes ", then " ++ model_name second.model ++ codes " " ++ decimal second.number ++ codes " later"

-- a fault in words: its model, the number of its instruction, the second fault, what came of it, and what is reported of the instruction
pub record FaultTold : Type 0 where
  pub model : List ℕ
  pub number : List ℕ
  pub second : List ℕ
  pub told : List ℕ
  pub place : List ℕ

-- what is reported of the instruction of a fault, among what is reported of all of them, where the fault is one that somebody should look at
abbrev pub place_of : List (List ℕ) → Struck → List ℕ
place_of instructions s = if is_told_in_full s.outcome then slice_index_or instructions s.fault.instruction [] else []

-- a fault of a command of whose instructions this is reported, in words
abbrev pub fault_told : List (List ℕ) → Struck → FaultTold
fault_told instructions s = record {
  model = model_name s.fault.model;
  number = decimal s.fault.instruction;
  second = second_end s.fault.second;
  told = outcome_text s;
  place = place_of instructions s;
}

-- those words
abbrev pub told_in : FaultTexts → FaultTold
told_in t = record { model = t.model.now; number = t.number.items; second = t.second.items; told = t.told.items; place = t.place.now }

abbrev pub told_by : ToldFault → FaultTold
told_by t = record { model = t.model.now; number = t.number.now; second = t.second.now; told = t.told.now; place = t.place.now }

-- the line of the instruction with this number, if anything is reported of it
abbrev pub place_text : List ℕ → List ℕ → List ℕ
place_text number [] = []
place_text number (x ∷ xs) = codes "  " ++ number ++ codes " " ++ (x ∷ xs) ++ codes "\n"

-- a row: faults of one kind that came to the same, the numbers of the first and the last of them, and the lines of their instructions
pub record FaultRow : Type 0 where
  pub model : List ℕ
  pub first : List ℕ
  pub last : List ℕ
  pub second : List ℕ
  pub told : List ℕ
  pub places : List ℕ

abbrev pub row_by : Row → FaultRow
row_by r = record { model = r.model.items; first = r.first.items; last = r.last.items; second = r.second.items; told = r.told.items; places = r.places.items }

-- the row of one fault
abbrev pub new_row : FaultTold → FaultRow
new_row f = record { model = f.model; first = f.number; last = f.number; second = f.second; told = f.told; places = place_text f.number f.place }

-- a row with one fault more
abbrev pub longer_row : FaultRow → FaultTold → FaultRow
longer_row r f = record r { last = f.number; places = r.places ++ place_text f.number f.place }

-- a fault is of the kind of those in a row, and came to the same
abbrev pub is_alike : FaultRow → FaultTold → Bool
is_alike r f = bytes_eq r.model f.model && (bytes_eq r.second f.second && bytes_eq r.told f.told)

-- the number of a row's fault, or of its first and its last one
abbrev pub row_numbers : List ℕ → List ℕ → List ℕ
row_numbers first last = if bytes_eq first last then first else first ++ codes ".." ++ last

-- which faults a row is about, what they came to, and the lines of their instructions
abbrev pub row_text : FaultRow → List ℕ
row_text r = r.model ++ codes " " ++ row_numbers r.first r.last ++ r.second ++ ended r.told ++ r.places

abbrev pub open_text : Option FaultRow → List ℕ
open_text None = []
open_text (Some row) = row_text row

-- the rows from the open one on, if there is one, which these faults may belong to
unfoldable pub rows_after : Option FaultRow → List FaultTold → List ℕ
rows_after row [] = open_text row
rows_after None (f ∷ more) = rows_after (Some (new_row f)) more
rows_after (Some row) (f ∷ more) = if is_alike row f then rows_after (Some (longer_row row f)) more else row_text row ++ rows_after (Some (new_row f)) more

-- the rows of all faults; those of one kind that follow one another and came to the same have one row
abbrev pub rows_text : List FaultTold → List ℕ
rows_text faults = rows_after None faults

-- the row of the command without a fault: its answer, and those of the probe
abbrev pub undisturbed_text : List ℕ → List ℕ → List ℕ
undisturbed_text answer answers = codes "no fault, answer " ++ answer ++ codes ": " ++ (in_line answers ++ codes "as after\n")

-- ---- the verdict

-- an outcome is the one of the two that a verdict counts
abbrev pub is_outcome : Outcome → Outcome → Bool
is_outcome Accepted Accepted = true
is_outcome Silent Silent = true
is_outcome wanted outcome = false

-- the first fault that came to this
unfoldable pub first_of : Outcome → List Struck → Option PlannedFault
first_of outcome [] = None
first_of outcome (s ∷ more) = if is_outcome outcome s.outcome then Some s.fault else first_of outcome more

-- how many did
unfoldable pub count_of : Outcome → List Struck → ℕ
count_of outcome [] = 0
count_of outcome (s ∷ more) = if is_outcome outcome s.outcome then count_of outcome more + 1 else count_of outcome more

-- a fault was accepted
abbrev pub any_accepted : List Struck → Bool
any_accepted strikes = is_some (first_of Accepted strikes)

-- a fault by its model and its instruction, and the second one, where there is one
abbrev pub fault_name : PlannedFault → List ℕ
fault_name fault = model_name fault.model ++ codes " " ++ decimal fault.instruction ++ second_end fault.second

-- this many faults
abbrev pub faults_text : ℕ → List ℕ
faults_text count = decimal count ++ (if count == 1 then codes " fault" else codes " faults")

-- how many of these faults were accepted, and the first of them by its name, if one was
abbrev pub accepted_line : ℕ → ℕ → Option (List ℕ) → List ℕ
accepted_line all count None = codes "none accepted: " ++ faults_text all
accepted_line all count (Some name) = codes "ACCEPTED: " ++ decimal count ++ codes " of " ++ (faults_text all ++ codes ", first " ++ name)

-- how many changed something in silence, and the first of them by its name, if one did
abbrev pub silence_line : ℕ → Option (List ℕ) → List ℕ
silence_line count None = []
silence_line count (Some name) = codes ", " ++ decimal count ++ codes " changed in silence, first " ++ name

-- whether one was accepted, and the first
abbrev pub accepted_text : Option PlannedFault → List Struck → List ℕ
accepted_text first strikes = accepted_line (length strikes) (count_of Accepted strikes) (option_map fault_name first)

-- whether one changed in silence, and the first
abbrev pub silence_text : Option PlannedFault → List Struck → List ℕ
silence_text first strikes = silence_line (count_of Silent strikes) (option_map fault_name first)

abbrev pub verdict_text : List Struck → List ℕ
verdict_text strikes = accepted_text (first_of Accepted strikes) strikes ++ silence_text (first_of Silent strikes) strikes ++ codes "\n"

-- what is reported of each instruction of a command
abbrev pub instruction_lines : AttackSweep → List (List ℕ)
instruction_lines s = map (λ line. line.items) s.instructions.items

-- the rows of the faults of a command, and that of the command without one
abbrev pub told_rows : AttackSweep → List ℕ
told_rows s = rows_text (map (fault_told (instruction_lines s)) s.strikes.items)
    ++ undisturbed_text s.undisturbed.answer.items s.undisturbed.left.answers.items

-- all that is reported of them
abbrev pub report_text : AttackSweep → List ℕ
report_text s = told_rows s ++ verdict_text s.strikes.items
