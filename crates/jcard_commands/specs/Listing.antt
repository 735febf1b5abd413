-- Listings and sweeps, of cuts or of faults, with the names of a map in them where one is given.
use Rattle.std.specs.Prelude.{ℕ, ◌≡◌, ◌⊎◌, List, [], ◌++◌, Result, Err, Option, Some, None}
use Rattle.std.specs.Option.{unwrap_or}
use Rattle.jc_card.specs.Dispatching.{usual_budget}
use Rattle.jcard_arguments.specs.CommandLine.{AttackAsked, TearAsked, attack_asked_by, tear_asked_by}
use Rattle.jcard_files.specs.declared.fault.Fault.{Fault}
use Rattle.jcard_files.specs.declared.fault.Fault.TheVariants.{NoMemory, WriteFailed}
use Rattle.jcard_files.specs.FileDeeds.{FileDeed}
use Rattle.jcard_files.specs.Reading.{IsScriptRead, IsUnread}
use Rattle.jcard_dump.specs.Comparison.{IsComparison}
use Rattle.jcard_dump.specs.Dump.{IsObjectsDump}
use Rattle.jcard_texts.specs.Texts.{IsCutOf}
use Rattle.jcard_attack.specs.AttackAsked as sweeps
use Rattle.jcard_attack.specs.ImageSweep.{IsAttack}
use Rattle.jcard_sweeps.specs.SweepAsked.{SweepAsked}
use Rattle.jcard_tear.specs.ImageSweep.{IsTear}
use Rattle.jcard_files.specs.Effects.{Says, Tells}
use Rattle.jcard_why.specs.NamedText.{HasNames}
use Rattle.jcard_commands.specs.declared.listing.Listed.{Listed}
use Rattle.jcard_commands.specs.declared.listing.Listed.TheVariants.{Objects, Compared, Torn, Attacked}

-- what words ask of a sweep over the script with this name
abbrev pub sweep_asked : List ℕ → TearAsked → SweepAsked
sweep_asked script asked = record {
  script = script;
  probe = asked.probe;
  line = asked.line;
  each = asked.each;
  behind = record { depth = asked.depth; objects = asked.objects; instructions = unwrap_or asked.instructions usual_budget };
  part = asked.part;
}

-- a sweep over the words of an image
abbrev pub IsTearWith : List ℕ → List ℕ → TearAsked → Tells
IsTearWith image script asked = IsTear image (sweep_asked script asked)

-- what words ask of an attack on the script with this name; the names of a map change nothing else
pub record IsAskedOf (script : List ℕ) (words : AttackAsked) (asked : sweeps.AttackAsked) : Type 0 where
  pub script_is : asked.script ≡ script
  pub probe : asked.probe ≡ words.probe
  pub line : asked.line ≡ words.line
  pub each : asked.each ≡ words.each
  pub part : asked.part ≡ words.part
  pub models : asked.sought.models ≡ words.models
  pub within : asked.sought.within ≡ words.within
  pub accepted : asked.sought.accepted.now ≡ words.accepted
  pub objects : asked.sought.objects ≡ words.objects
  pub instructions : asked.instructions ≡ unwrap_or words.instructions usual_budget

-- an attack over the words of an image
abbrev pub IsAttackWith : List ℕ → List ℕ → AttackAsked → Tells
IsAttackWith image script words ended text deeds = (asked : sweeps.AttackAsked) × IsAskedOf script words asked × IsAttack image asked ended text deeds

-- this was listed, without names
abbrev pub IsListed : Listed → Tells
IsListed (Objects image shown) = IsObjectsDump image.now shown
IsListed (Compared image other shown) = IsComparison image.now other.now shown
IsListed (Torn image script options) = IsTearWith image.now script.now (tear_asked_by options)
IsListed (Attacked image script options) = IsAttackWith image.now script.now (attack_asked_by options)

-- the end of what was written into memory, where a write fails as memory is refused
abbrev pub in_memory : Result Unit Fault → Result Unit Fault
in_memory (Err WriteFailed) = Err NoMemory
in_memory told = told

-- a text was written that was written into memory to the first end: whole, or a beginning of it where a write failed
abbrev pub IsWritten : List ℕ → Result Unit Fault → Says
IsWritten whole told ended text = ((ended ≡ in_memory told) × (text ≡ whole)) ⊎ ((ended ≡ Err WriteFailed) × IsCutOf whole text)

-- a text that was written into memory to the first end was written with names in it; or memory was refused, and nothing was written
abbrev pub IsNamed : List ℕ → Result Unit Fault → Says
IsNamed plain told ended text = ((ended ≡ Err NoMemory) × (text ≡ [])) ⊎ ((whole : List ℕ) × HasNames plain whole × IsWritten whole told ended text)

-- what this says was reported; or, where a map is named, the map was not read, and nothing else was done; or it was read, and names were put into what
-- this says
abbrev pub IsToldBy : Option (List ℕ) → Tells → Tells
IsToldBy None tells ended text deeds = tells ended text deeds
IsToldBy (Some map) tells ended text deeds = ((fault : Fault) × (ended ≡ Err fault) × (text ≡ []) × IsUnread map fault deeds)
    ⊎ ((names plain : List ℕ) × (reads others : List FileDeed) × (told : Result Unit Fault) × IsScriptRead map names reads
    × tells told plain others × IsNamed plain told ended text × (deeds ≡ reads ++ others))
