-- The file of the report for build servers.
use Rattle.std.specs.Prelude.{ℕ, ◌≡◌, ◌==◌, if◌then◌else◌, ◌⊎◌, List, [], ◌∷◌, Option, Some, None, Result, Ok, Err}
use Rattle.jcard_files.specs.FileDeeds.{FileDeed, WritesText}
use Rattle.jcard_files.specs.Images.{IsUnwritten}
use Rattle.jcard_files.specs.Operand.{IsNoOperand}
use Rattle.jcard_files.specs.declared.fault.Fault.{Fault}
use Rattle.jcard_files.specs.declared.fault.Fault.TheVariants.{NoMemory, RowsFailed}
use Rattle.jcard_files.specs.declared.operand.Operand.{Operand}
use Rattle.jcard_outcomes.specs.Junit.{junit_text}
use Rattle.jcard_outcomes.specs.RowReport.{failed_of}
use Rattle.jcard_outcomes.specs.declared.tested.Tested.{Tested}

-- these bytes were written to the file with this name, which is none of these; or they could not be
abbrev pub IsWritten : List Operand → List ℕ → List ℕ → Result Unit Fault → List FileDeed → Type 0
IsWritten operands name bytes (Ok done) deeds = IsNoOperand name operands × (deeds ≡ WritesText name bytes (Ok tt) ∷ [])
IsWritten operands name bytes (Err fault) deeds = IsUnwritten name fault × (deeds ≡ WritesText name bytes (Err fault) ∷ [])

-- the file was emptied, if one is named, and is none of these; or it could not be
abbrev pub IsBegun : List Operand → Option (List ℕ) → Result Unit Fault → List FileDeed → Type 0
IsBegun operands None begun deeds = (begun ≡ Ok tt) × (deeds ≡ [])
IsBegun operands (Some name) begun deeds = IsWritten operands name [] begun deeds

-- the report over these was written to the file with this name, which is none of those; or memory was refused for it, and no file was asked for;
-- or it could not be written
abbrev pub IsReportWritten : List Operand → List ℕ → List Tested → Result Unit Fault → List FileDeed → Type 0
IsReportWritten operands name ts (Ok done) deeds = IsNoOperand name operands × (deeds ≡ WritesText name (junit_text ts) (Ok tt) ∷ [])
IsReportWritten operands name ts (Err fault) deeds = ((fault ≡ NoMemory) × (deeds ≡ []))
    ⊎ (IsUnwritten name fault × (deeds ≡ WritesText name (junit_text ts) (Err fault) ∷ []))

-- how the command ends over these: as rows that failed demand, exactly where one did
abbrev pub verdict : List Tested → Result Unit Fault
verdict ts = if failed_of ts == 0 then Ok tt else Err RowsFailed

-- the end of something that was done, and then of more
abbrev pub ended_by : Result Unit Fault → Result Unit Fault → Result Unit Fault
ended_by (Ok done) more = more
ended_by (Err fault) more = Err fault

-- the report was written, if a file is named for it, and the command ends by the verdict over these; or it could not be written
abbrev pub IsKept : List Operand → Option (List ℕ) → List Tested → Result Unit Fault → List FileDeed → Type 0
IsKept operands None ts ended deeds = (ended ≡ verdict ts) × (deeds ≡ [])
IsKept operands (Some name) ts ended deeds = (written : Result Unit Fault) × IsReportWritten operands name ts written deeds
    × (ended ≡ ended_by written (verdict ts))
