-- The lines of parts of the faults of a command, and what all of them are joined to.
use Rattle.std.specs.Prelude.{ℕ, zero, suc, ◌≡◌, ◌≤◌, Bool, false, is_some, List, [], ◌∷◌, ◌++◌, All, map, filter, codes, decimal, length, replicate, slice_get, take, Option, Some, None, option_map}
use Rattle.std.specs.Borrow.{Bor}
use Rattle.std.specs.List.{flat_map}
use Rattle.std.specs.Str.{bytes_eq}
use Rattle.jcard_outcomes.specs.Part.{has}
use Rattle.jcard_outcomes.specs.Report.{in_line}
use Rattle.jcard_outcomes.specs.declared.join_fault.JoinFault.{JoinFault}
use Rattle.jcard_outcomes.specs.declared.join_fault.JoinFault.TheVariants.{BadLine, NoMemory}
use Rattle.jcard_outcomes.specs.declared.part.Share.{Share}
use Rattle.jcard_attack.specs.Report.{FaultTold, accepted_line, any_accepted, fault_told, instruction_lines, report_text, rows_text, silence_line, told_by, undisturbed_text}
use Rattle.jcard_sweeps.specs.Shares.{share_in}
use Rattle.jcard_attack.specs.declared.join.JoinedAttack.{JoinedAttack}
use Rattle.jcard_attack.specs.declared.join.ReadLines.{ReadLines}
use Rattle.jcard_attack.specs.declared.outcomes.AttackSweep.{AttackSweep}

-- ---- one line

-- the line of a fault: its words, with tabs between them
abbrev pub fault_line : FaultTold → List ℕ
fault_line f = f.model ++ 9 ∷ (f.number ++ 9 ∷ (f.second ++ 9 ∷ (f.told ++ 9 ∷ f.place)))

-- this is the line of a fault in whose words there is no tab
pub record IsFaultLine (f : FaultTold) (line : List ℕ) : Type 0 where
  pub is : line ≡ fault_line f
  pub model : has 9 f.model ≡ false
  pub number : has 9 f.number ≡ false
  pub second : has 9 f.second ≡ false
  pub told : has 9 f.told ≡ false
  pub place : has 9 f.place ≡ false

-- what a line of a part states: a fault, or at the end of the part the command without one
pub data PartLine : Type 0 where
  AFault : FaultTold → PartLine
  AnEnd : List ℕ → PartLine

-- a line states this; that of the command without a fault has no tab
abbrev pub States : PartLine → List ℕ → Type 0
States (AFault f) line = IsFaultLine f line
States (AnEnd undisturbed) line = (line ≡ undisturbed) × (has 9 line ≡ false)

-- ---- lines

-- the lines of faults
abbrev pub fault_lines : List FaultTold → List ℕ
fault_lines faults = flat_map (λ f. fault_line f ++ 10 ∷ []) faults

-- a text begins with lines that state these, and then comes the rest
unfoldable pub AreLinesTo : List PartLine → List ℕ → List ℕ → Type 0
AreLinesTo [] text rest = text ≡ rest
AreLinesTo (l ∷ lines) text rest = (line more : List ℕ) × (text ≡ line ++ 10 ∷ more) × (has 10 line ≡ false) × States l line × AreLinesTo lines more rest

-- the faults that lines state
abbrev pub faults_in : List PartLine → List FaultTold
faults_in [] = []
faults_in (AFault f ∷ lines) = f ∷ faults_in lines
faults_in (AnEnd undisturbed ∷ lines) = faults_in lines

-- what they state of the command without a fault
abbrev pub ends_in : List PartLine → List (List ℕ)
ends_in [] = []
ends_in (AFault f ∷ lines) = ends_in lines
ends_in (AnEnd undisturbed ∷ lines) = undisturbed ∷ ends_in lines

-- a text is of these lines of n parts, each of which states this of the command without a fault
abbrev pub AreOfParts : ℕ → List ℕ → List PartLine → List ℕ → Type 0
AreOfParts n text lines undisturbed = AreLinesTo lines text [] × (ends_in lines ≡ replicate n undisturbed)

-- ---- the report

-- what came of a fault begins with these words
abbrev pub tells : List ℕ → FaultTold → Bool
tells words f = bytes_eq (take (length words) f.told) words

-- the faults of which that is so
abbrev pub told_as : List ℕ → List FaultTold → List FaultTold
told_as words faults = filter (tells words) faults

abbrev pub told_accepted : List FaultTold → List FaultTold
told_accepted faults = told_as (codes "ACCEPTED") faults

abbrev pub told_silent : List FaultTold → List FaultTold
told_silent faults = told_as (codes "CHANGED IN SILENCE") faults

-- a fault by its name
abbrev pub name_told : FaultTold → List ℕ
name_told f = f.model ++ codes " " ++ f.number ++ f.second

-- the name of the first of these
abbrev pub first_name : List FaultTold → Option (List ℕ)
first_name faults = option_map name_told (slice_get faults 0)

-- how many of these faults were accepted, and the first of them
abbrev pub accepted_told : List FaultTold → List ℕ
accepted_told faults = accepted_line (length faults) (length (told_accepted faults)) (first_name (told_accepted faults))

-- how many changed something in silence, and the first of them
abbrev pub silence_told : List FaultTold → List ℕ
silence_told faults = silence_line (length (told_silent faults)) (first_name (told_silent faults))

-- the verdict over faults in words
abbrev pub verdict_told : List FaultTold → List ℕ
verdict_told faults = accepted_told faults ++ silence_told faults ++ codes "\n"

-- the report of these faults, with this of the command without one
abbrev pub joined_text : List FaultTold → List ℕ → List ℕ
joined_text faults undisturbed = rows_text faults ++ undisturbed ++ codes "\n" ++ verdict_told faults

-- that is the report, and says whether a fault was accepted
abbrev pub IsReportOf : List FaultTold → List ℕ → JoinedAttack → Type 0
IsReportOf faults undisturbed j = (j.text.items ≡ joined_text faults undisturbed) × (j.is_accepted ≡ is_some (slice_get (told_accepted faults) 0))

-- the lines of n parts were joined to the report
abbrev pub IsJoined : ℕ → List ℕ → JoinedAttack → Type 0
IsJoined n text j = (lines : List PartLine) × (undisturbed : List ℕ) × AreOfParts n text lines undisturbed × IsReportOf (faults_in lines) undisturbed j

-- why not: memory was refused; or the text is not of the lines of n parts, and at least this many ends of parts were read
abbrev pub IsUnjoined : ℕ → List ℕ → JoinFault → Type 0
IsUnjoined n text NoMemory = Unit {0}
IsUnjoined n text (BadLine k) = ((lines : List PartLine) (undisturbed : List ℕ) → AreOfParts n text lines undisturbed → ⊥)
    × ((lines : List PartLine) × (rest : List ℕ) × AreLinesTo lines text rest × (k ≤ length (ends_in lines)))
IsUnjoined n text other = ⊥

-- ---- lines that were read

-- the faults that were read
abbrev pub faults_read : ReadLines → List FaultTold
faults_read r = map told_by r.faults.items

-- the ends of parts that were read
abbrev pub ends_read : ReadLines → List (List ℕ)
ends_read r = map (λ (t : Bor (List ℕ)). t.now) r.ends.items

-- a text begins with lines of which this was read, and then comes the rest
abbrev pub AreReadTo : List ℕ → List ℕ → ReadLines → Type 0
AreReadTo text rest r = (lines : List PartLine) × AreLinesTo lines text rest × (faults_read r ≡ faults_in lines) × (ends_read r ≡ ends_in lines)

-- one line more was read, which states this
abbrev pub IsMore : ReadLines → ReadLines → List ℕ → Type 0
IsMore old new line = (l : PartLine) × States l line × (faults_read new ≡ faults_read old ++ faults_in (l ∷ [])) × (ends_read new ≡ ends_read old ++ ends_in (l ∷ []))

-- it states nothing; or memory was refused
abbrev pub IsNoMore : ReadLines → List ℕ → JoinFault → Type 0
IsNoMore old line NoMemory = Unit {0}
IsNoMore old line (BadLine k) = ((l : PartLine) → States l line → ⊥) × (k ≤ length (ends_read old))
IsNoMore old line other = ⊥

-- why a text is not read as lines: memory was refused; or it is not of lines
abbrev pub AreNoLines : List ℕ → JoinFault → Type 0
AreNoLines text NoMemory = Unit {0}
AreNoLines text (BadLine k) = ((lines : List PartLine) → AreLinesTo lines text [] → ⊥)
    × ((lines : List PartLine) × (rest : List ℕ) × AreLinesTo lines text rest × (k ≤ length (ends_in lines)))
AreNoLines text other = ⊥

-- what was read of n parts is this report
abbrev pub IsReport : ℕ → ReadLines → JoinedAttack → Type 0
IsReport n r j = (undisturbed : List ℕ) × (ends_read r ≡ replicate n undisturbed) × IsReportOf (faults_read r) undisturbed j

-- what was read has not the same end n times: one is lacking, or one more than n, or another; or memory was refused
abbrev pub IsNoReport : ℕ → ReadLines → JoinFault → Type 0
IsNoReport n r NoMemory = Unit {0}
IsNoReport n r (BadLine k) = ((undisturbed : List ℕ) → ends_read r ≡ replicate n undisturbed → ⊥) × (k ≤ length (ends_read r))
IsNoReport n r other = ⊥

-- ---- the parts of a sweep

-- the faults of a sweep, in words
abbrev pub faults_told : AttackSweep → List FaultTold
faults_told s = map (fault_told (instruction_lines s)) s.strikes.items

-- what a part says: its faults, and the command without one
abbrev pub part_text : AttackSweep → List ℕ
part_text s = fault_lines (faults_told s) ++ undisturbed_text s.undisturbed.answer.items s.undisturbed.left.answers.items

-- what part k of n of this sweep says, k counted from 0
abbrev pub share_text : AttackSweep → ℕ → ℕ → List ℕ
share_text s n k = fault_lines (share_in (record { first = k; step = n }) (faults_told s))
    ++ undisturbed_text s.undisturbed.answer.items s.undisturbed.left.answers.items

-- what the first k of n parts say
unfoldable pub shares_text : AttackSweep → ℕ → ℕ → List ℕ
shares_text s n zero = []
shares_text s n (suc k) = shares_text s n k ++ share_text s n k

-- a line of no fault states this
abbrev pub undisturbed_line : AttackSweep → List ℕ
undisturbed_line s = codes "no fault, answer " ++ s.undisturbed.answer.items ++ codes ": " ++ (in_line s.undisturbed.left.answers.items ++ codes "as after")

-- a sweep can be written in lines: there are no tabs and no line feeds in its words
pub record IsTellable (s : AttackSweep) : Type 0 where
  pub faults : All (λ f. IsFaultLine f (fault_line f) × (has 10 (fault_line f) ≡ false)) (faults_told s)
  pub undisturbed : has 9 (undisturbed_line s) ≡ false
  pub ended : has 10 (undisturbed_line s) ≡ false
