-- `jcard run` with options: which files are read and written beside it, and whether its answers are the ones that are expected.
use Rattle.std.specs.Prelude.{ℕ, Bool, true, ◌≡◌, ◌⊎◌, List, [], ◌∷◌, map, Result, Ok, Err, Option, Some, None}
use Rattle.jcard_files.specs.FileDeeds.{FileDeed, WritesText}
use Rattle.jcard_files.specs.Images.{IsUnwritten}
use Rattle.jcard_files.specs.Operand.{IsNoOperand}
use Rattle.jcard_files.specs.Reading.{IsScriptRead, IsUnread}
use Rattle.jcard_files.specs.declared.operand.Operand.{Operand}
use Rattle.jcard_files.specs.declared.fault.FileKind.{FileKind}
use Rattle.jcard_files.specs.declared.fault.FileKind.TheVariants as kind
use Rattle.jcard_files.specs.declared.fault.Fault.{Fault}
use Rattle.jcard_files.specs.declared.fault.Fault.TheVariants.{NoMemory, NothingExpected, OtherAnswer}

-- the map with this name was read, if there is one
abbrev pub AreNamesRead : Option (List ℕ) → List FileDeed → Type 0
AreNamesRead None deeds = deeds ≡ []
AreNamesRead (Some map) deeds = (names : List ℕ) × IsScriptRead map names deeds

-- it was not
abbrev pub AreNamesUnread : Option (List ℕ) → Fault → List FileDeed → Type 0
AreNamesUnread None fault deeds = ⊥
AreNamesUnread (Some map) fault deeds = IsUnread map fault deeds

-- the fault says that an answer is another one than a comment expects, or that no comment expects one
abbrev pub IsUnexpected : Fault → Type 0
IsUnexpected (OtherAnswer line) = Unit {0}
IsUnexpected NothingExpected = Unit {0}
IsUnexpected other = ⊥

-- the end of a run with the first end, and answers compared or not: the same; or, where they were compared and the run came to its end,
-- one of these faults
abbrev pub IsCompared : Bool → Result Unit Fault → Result Unit Fault → Type 0
IsCompared compared ran ended = (ended ≡ ran) ⊎ ((compared ≡ true) × (ran ≡ Ok tt) × ((fault : Fault) × (ended ≡ Err fault) × IsUnexpected fault))

-- what a map is to a run, if there is one; else the script once more
abbrev pub map_operand : List ℕ → Option (List ℕ) → List ℕ × FileKind
map_operand script None = (script, kind.Script)
map_operand script (Some map) = (map, kind.Map)

-- the files that a run reads
abbrev pub AreOperands : List ℕ → List ℕ → Option (List ℕ) → List Operand → Type 0
AreOperands image script names operands =
    map (λ (o : Operand). (o.name.now, o.kind)) operands ≡ (image, kind.Image) ∷ (script, kind.Script) ∷ map_operand script names ∷ []

-- the file with this name, which is none of these, was emptied; or it could not be
abbrev pub IsEmptied : List Operand → List ℕ → Result Unit Fault → List FileDeed → Type 0
IsEmptied operands file (Ok done) deeds = IsNoOperand file operands × (deeds ≡ WritesText file [] (Ok tt) ∷ [])
IsEmptied operands file (Err fault) deeds = IsUnwritten file fault × (deeds ≡ WritesText file [] (Err fault) ∷ [])

-- the file of a cover was, if one is named
abbrev pub IsCoverBegun : List Operand → Option (List ℕ) → Result Unit Fault → List FileDeed → Type 0
IsCoverBegun operands None ended deeds = (ended ≡ Ok tt) × (deeds ≡ [])
IsCoverBegun operands (Some file) ended deeds = IsEmptied operands file ended deeds

-- a cover was written to the file with this name, which is none of these; or memory was refused for it, and no file was asked for; or it could
-- not be written
abbrev pub IsCoverWritten : List Operand → List ℕ → Result Unit Fault → List FileDeed → Type 0
IsCoverWritten operands file (Ok done) deeds = IsNoOperand file operands × ((cover : List ℕ) × (deeds ≡ WritesText file cover (Ok tt) ∷ []))
IsCoverWritten operands file (Err fault) deeds = ((fault ≡ NoMemory) × (deeds ≡ []))
    ⊎ (IsUnwritten file fault × ((cover : List ℕ) × (deeds ≡ WritesText file cover (Err fault) ∷ [])))

-- the end of a run after which something was done: its fault, or that of what was done
abbrev pub ended_by : Result Unit Fault → Result Unit Fault → Result Unit Fault
ended_by (Ok done) written = written
ended_by (Err fault) written = Err fault

-- after a run with the first end a cover was written, if a file is named for it, and the second is the end of both
abbrev pub IsCovered : List Operand → Option (List ℕ) → Result Unit Fault → Result Unit Fault → List FileDeed → Type 0
IsCovered operands None ran ended deeds = (ended ≡ ran) × (deeds ≡ [])
IsCovered operands (Some file) ran ended deeds = (written : Result Unit Fault) × IsCoverWritten operands file written deeds × (ended ≡ ended_by ran written)
