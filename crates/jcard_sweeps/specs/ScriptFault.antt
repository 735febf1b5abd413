-- What is reported where a script was not carried out to its end.
use Rattle.std.specs.Prelude.{ℕ, ◌≡◌, List, Result, Ok, Err}
use Rattle.std.specs.Borrow.{Bor}
use Rattle.jcard_script.specs.declared.script.ScriptFault.{ScriptFault}
use Rattle.jcard_script.specs.declared.script.ScriptFault.TheVariants.{ReadFailed, WriteFailed as NotWritten, BadLine as BadScriptLine, TooLong}
use Rattle.jcard_script.specs.declared.script.ScriptFault.TheVariants.{PowerFault as NotPoweredUp}
use Rattle.jc_card.specs.declared.power_up.PowerFault.{PowerFault}
use Rattle.jc_card.specs.declared.power_up.PowerFault.TheVariants as power
use Rattle.jcard_files.specs.declared.fault.Damage.TheVariants.{Magic, Version, Size, Log, Table, Package}
use Rattle.jcard_files.specs.declared.fault.Fault.{Fault}
use Rattle.jcard_files.specs.declared.fault.Fault.TheVariants.{NoMemory, BadTable, CannotRead}
use Rattle.jcard_files.specs.declared.fault.Fault.TheVariants.{CannotWrite, BadImage, BadCommand, ScriptTooLong, WriteFailed}

-- how a run over the image with this name ended where the card did not power up
abbrev pub IsUnpowered : List ℕ → PowerFault → Fault → Type 0
IsUnpowered image power.BadMagic fault = fault ≡ BadImage Magic
IsUnpowered image power.BadVersion fault = fault ≡ BadImage Version
IsUnpowered image power.BadSize fault = fault ≡ BadImage Size
IsUnpowered image power.BadLog fault = fault ≡ BadImage Log
IsUnpowered image power.BadTable fault = fault ≡ BadImage Table
IsUnpowered image power.BadPackage fault = fault ≡ BadImage Package
IsUnpowered image power.NoMemory fault = fault ≡ NoMemory
IsUnpowered image power.StoreDown fault = (path : Bor (List ℕ)) × (fault ≡ CannotWrite path) × (path.now ≡ image)

-- what is reported where the script in the file of the second name was not carried out to its end over the image of the first
abbrev pub IsScriptFault : List ℕ → List ℕ → ScriptFault → Fault → Type 0
IsScriptFault image script (BadScriptLine n) fault = fault ≡ BadCommand n
IsScriptFault image script TooLong fault = fault ≡ ScriptTooLong
IsScriptFault image script NotWritten fault = fault ≡ WriteFailed
IsScriptFault image script ReadFailed fault = (path : Bor (List ℕ)) × (fault ≡ CannotRead path) × (path.now ≡ script)
IsScriptFault image script (NotPoweredUp cause) fault = IsUnpowered image cause fault

-- how that ended
abbrev pub IsOutcomeOf : List ℕ → List ℕ → Result Unit ScriptFault → Result Unit Fault → Type 0
IsOutcomeOf image script (Ok done) result = result ≡ Ok done
IsOutcomeOf image script (Err cause) result = (fault : Fault) × (result ≡ Err fault) × IsScriptFault image script cause fault
