-- What is written to a stream, and what is done with files for it.
use Rattle.std.specs.Prelude.{ℕ, ◌≡◌, ◌⊎◌, List, [], ◌++◌, MatchResult, Option, Result, Err}
use Rattle.std.specs.Io.KnownBytes.{Appends}
use Rattle.jc_words.specs.Count.{failures_after}
use Rattle.jcard_files.specs.Fault.{is_unwritten}
use Rattle.jcard_files.specs.FileDeeds.{FileDeed}
use Rattle.jcard_files.specs.declared.fault.Fault.{Fault}

-- what is said of an end and of the text that was written
abbrev pub Says : Type 1
Says = Result Unit Fault → List ℕ → Type 0

-- what is said of an end, of the text that was written, and of what was done with files
abbrev pub Tells : Type 1
Tells = Result Unit Fault → List ℕ → List FileDeed → Type 0

-- a stream with these known bytes and this count of failed writes was written to, to this end, as is said
abbrev pub Writes : {W : Type 0} → (W → Option (List ℕ)) → (W → ℕ) → W → W → Result Unit Fault → Says → Type 0
Writes contents failures old new ended says = ((text : List ℕ) × Appends (contents old) (contents new) text × says ended text)
    × (failures new ≡ failures_after (failures old) (is_unwritten ended))

-- the same, and what was done with the files of a disk, as is said
abbrev pub Does : {D W : Type 0} → (D → List FileDeed → D → Type 0) → (W → Option (List ℕ)) → (W → ℕ) → D → D → W → W → Result Unit Fault → Tells → Type 0
Does does contents failures before after old new ended tells = ((text : List ℕ) × (deeds : List FileDeed) × Appends (contents old) (contents new) text
    × tells ended text deeds × does before deeds after) × (failures new ≡ failures_after (failures old) (is_unwritten ended))

-- with no stream: what was done with the files of a disk, to this end, as is said
abbrev pub UsesFiles : {D A : Type 0} → (D → List FileDeed → D → Type 0) → D → D → A → (A → List FileDeed → Type 0) → Type 0
UsesFiles does before after ended says = (deeds : List FileDeed) × does before deeds after × says ended deeds

-- files were read so, or were not
abbrev pub ReadsFiles : {D A : Type 0} → (D → List FileDeed → D → Type 0) → D → D → Result A Fault → (A → List FileDeed → Type 0)
    → (Fault → List FileDeed → Type 0) → Type 0
ReadsFiles does before after result IsRead IsUnread = (deeds : List FileDeed) × does before deeds after
    × MatchResult result (λ read. IsRead read deeds) (λ fault. IsUnread fault deeds)

-- ---- one step after another

-- files were read, and then it went on so with what was read; or they were not read, which is reported, and nothing was written
abbrev pub ReadsThen : {A : Type 0} → (A → List FileDeed → Type 0) → (Fault → List FileDeed → Type 0) → (A → Tells) → Tells
ReadsThen {A} IsRead IsUnread next ended text deeds = ((fault : Fault) × (ended ≡ Err fault) × (text ≡ []) × IsUnread fault deeds)
    ⊎ ((read : A) × (opened more : List FileDeed) × IsRead read opened × (deeds ≡ opened ++ more) × next read ended text more)

-- something was found with no file, and then it went on so with that; or it was not found, which is reported, and nothing was written
abbrev pub FindsThen : {A : Type 0} → (A → Type 0) → (Fault → Type 0) → (A → Tells) → Tells
FindsThen {A} Is IsNot next ended text deeds = ((fault : Fault) × (ended ≡ Err fault) × (text ≡ []) × (deeds ≡ []) × IsNot fault)
    ⊎ ((found : A) × Is found × next found ended text deeds)

-- no file was used for that
abbrev pub WithNoFile : Says → Tells
WithNoFile says ended text deeds = says ended text × (deeds ≡ [])
