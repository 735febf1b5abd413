-- Texts that are read from files.
use Rattle.std.specs.Prelude.{ℕ, ◌≡◌, ◌⊎◌, List, [], ◌∷◌, take, Option, IfSome, Ok, Err}
use Rattle.std.specs.declared.io.ErrorKind.{ErrorKind}
use Rattle.std.specs.declared.io.ErrorKind.TheVariants.{OutOfMemory}
use Rattle.jcard_files.specs.FileDeeds.{FileDeed, ReadsText}
use Rattle.jcard_files.specs.Images.{IsNotRead, IsUnopened}
use Rattle.jcard_files.specs.declared.fault.Fault.{Fault}
use Rattle.jcard_files.specs.declared.fault.Fault.TheVariants.{NoMemory}

-- a platform table of this text was read from what is known of a file
abbrev pub IsTextOf : List ℕ → Option (List ℕ) → Type 0
IsTextOf text known = IfSome known (λ bytes. text ≡ take 16385 bytes)

-- no platform table was read from the file with this name: it could not be opened, or not be read
abbrev pub IsUnread : List ℕ → Fault → List FileDeed → Type 0
IsUnread table fault deeds = (IsUnopened table fault × (deeds ≡ ReadsText table (Err fault) ∷ []))
    ⊎ (IsNotRead table fault × ((known : Option (List ℕ)) × (deeds ≡ ReadsText table (Ok known) ∷ [])))

-- this text was read from the file with this name
abbrev pub IsRead : List ℕ → List ℕ → List FileDeed → Type 0
IsRead table text deeds = (known : Option (List ℕ)) × IsTextOf text known × (deeds ≡ ReadsText table (Ok known) ∷ [])

-- this text was read from the script with this name, up to one byte more than is carried out
abbrev pub IsScriptRead : List ℕ → List ℕ → List FileDeed → Type 0
IsScriptRead name text deeds = (known : Option (List ℕ)) × IfSome known (λ bytes. text ≡ take 16777217 bytes)
    × (deeds ≡ ReadsText name (Ok known) ∷ [])

-- what is reported where reading the file with this name ended by an error of this kind: want of memory as such
abbrev pub IsUnreadFault : List ℕ → ErrorKind → Fault → Type 0
IsUnreadFault name OutOfMemory fault = fault ≡ NoMemory
IsUnreadFault name kind fault = IsUnopened name fault
