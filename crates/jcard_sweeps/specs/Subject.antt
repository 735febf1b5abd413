-- What commands of a script are swept over.
use Rattle.std.specs.Prelude.{ℕ, ◌≡◌, ◌⊎◌, map, List, [], ◌∷◌, Option, Some, None, Ok, Err}
use Rattle.jcard_files.specs.Effects.{FindsThen, ReadsThen, Tells}
use Rattle.jcard_files.specs.FileDeeds.{FileDeed, ClosesImage, ReadsImage, untouched}
use Rattle.jcard_files.specs.Images.{IsNotOpened}
use Rattle.jcard_files.specs.Reading.{IsScriptRead, IsUnread}
use Rattle.jcard_files.specs.declared.fault.Fault.{Fault}
use Rattle.jcard_files.specs.declared.fault.Fault.TheVariants.{NoMemory}
use Rattle.jcard_sweeps.specs.Faults.{told_run_fault}
use Rattle.jcard_sweeps.specs.ReportedFaults.{IsTearFault}
use Rattle.jcard_sweeps.specs.Runs.{IsCarriedThrough, IsRunFault}
use Rattle.jcard_sweeps.specs.ScriptLines.{commands_of, line_of}
use Rattle.jcard_sweeps.specs.declared.runs.RunFault.{RunFault}
use Rattle.jcard_sweeps.specs.declared.subject.Subject.{Subject}

-- ---- files

-- the image with this name was opened to read it alone, and closed with no write asked for
abbrev pub IsImageRead : List ℕ → List ℕ → List FileDeed → Type 0
IsImageRead image w deeds = deeds ≡ ReadsImage image (Ok w) ∷ ClosesImage image (untouched w) ∷ []

-- it could not be opened; or memory was refused for its words
abbrev pub IsImageUnread : List ℕ → Fault → List FileDeed → Type 0
IsImageUnread image fault deeds = (IsNotOpened image fault × (deeds ≡ ReadsImage image (Err fault) ∷ []))
    ⊎ ((w : List ℕ) × (fault ≡ NoMemory) × IsImageRead image w deeds)

-- these lines were read, if a probe was named
abbrev pub IsProbeRead : Option (List ℕ) → Option (List ℕ) → List FileDeed → Type 0
IsProbeRead None given deeds = (given ≡ None) × (deeds ≡ [])
IsProbeRead (Some name) given deeds = (text : List ℕ) × (given ≡ Some text) × IsScriptRead name text deeds

-- they could not be read
abbrev pub IsProbeUnread : Option (List ℕ) → Fault → List FileDeed → Type 0
IsProbeUnread None fault deeds = ⊥
IsProbeUnread (Some name) fault deeds = IsUnread name fault deeds

-- ---- scripts

-- a script over these words, of which these are the commands; the image has this name
abbrev pub IsSubject : List ℕ → List ℕ → List ℕ → Subject → Type 0
IsSubject image w script subject = (subject.names.image.now ≡ image) × (subject.words.now ≡ w) × (subject.script.now ≡ script)
    × (map line_of subject.commands.now ≡ commands_of script)

-- the script was carried out to its end over the words, with at most this many instructions a command
abbrev pub IsCarried : ℕ → Subject → Type 0
IsCarried budget subject = IsCarriedThrough budget subject.words.now subject.script.now

-- it was not, and that is reported
abbrev pub IsUncarried : ℕ → Subject → Fault → Type 0
IsUncarried budget subject fault = (cause : RunFault) × IsRunFault budget subject.words.now subject.script.now cause
    × IsTearFault subject.names.image.now (told_run_fault cause) fault

-- the whole script was carried out over the words, with at most this many instructions a command, and then it went on so with it
abbrev pub CarriedThen : ℕ → (Subject → Tells) → Subject → Tells
CarriedThen budget next subject = FindsThen (λ (done : Unit {0}). IsCarried budget subject) (IsUncarried budget subject) (λ done. next subject)

-- the same of this script over these words of the image with this name
abbrev pub CarriesOver : List ℕ → List ℕ → List ℕ → ℕ → (Subject → Tells) → Tells
CarriesOver image w text budget next = FindsThen (IsSubject image w text) (λ fault. fault ≡ NoMemory) (CarriedThen budget next)

-- the same of the script and the image with these names, which were read
abbrev pub CarriesThen : List ℕ → List ℕ → ℕ → (Subject → Tells) → Tells
CarriesThen image script budget next =
    ReadsThen (IsImageRead image) (IsImageUnread image) (λ w.
    ReadsThen (IsScriptRead script) (IsUnread script) (λ text. CarriesOver image w text budget next))
