-- The platform table of cards for which none is named.
use Rattle.std.specs.Prelude.{ℕ, ◌≡◌, List, [], ◌∷◌, Option, Some, None}
use Rattle.jc_platform.specs.Packing.{IsKept}
use Rattle.jcard_files.specs.FileDeeds.{FileDeed}
use Rattle.jcard_files.specs.Reading.{IsRead, IsUnread}
use Rattle.jcard_files.specs.declared.fault.Fault.{Fault}
use Rattle.jcard_files.specs.declared.fault.Fault.TheVariants.{NoMemory}
use Rattle.jcard_files.specs.declared.usual_table.TheConstants.{USUAL_TABLE}

-- an image keeps these bytes of its platform table: the text of the file that is named; without a name what is kept of the usual table, for which no
-- file is read
abbrev pub IsPlatform : Option (List ℕ) → List ℕ → List FileDeed → Type 0
IsPlatform (Some table) kept deeds = IsRead table kept deeds
IsPlatform None kept deeds = IsKept USUAL_TABLE.now kept × (deeds ≡ [])

-- the file was not read, or there was no memory for what is kept of the usual table
abbrev pub IsNoPlatform : Option (List ℕ) → Fault → List FileDeed → Type 0
IsNoPlatform (Some table) fault deeds = IsUnread table fault deeds
IsNoPlatform None fault deeds = (fault ≡ NoMemory) × (deeds ≡ [])
