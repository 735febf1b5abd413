-- The files that `jcard test` reads, and is not to write over.
use Rattle.std.specs.Prelude.{ℕ, ◌≡◌, List, [], ◌∷◌, ◌++◌, All, Contains, flat_map, map, option_map, MatchResult, Option, Some, None, Result, Ok}
use Rattle.std.specs.Borrow.{Bor}
use Rattle.std.specs.String.{string_bytes}
use Rattle.jcard_files.specs.FileDeeds.{FileDeed, ReadsText, WritesText}
use Rattle.jcard_files.specs.declared.fault.Fault.{Fault}
use Rattle.jcard_files.specs.declared.operand.Operand.{Operand}
use Rattle.jcard_test.specs.declared.sources.Source.{Source}

-- a text was asked for
abbrev pub IsReading : FileDeed → Type 0
IsReading (ReadsText path told) = Unit {0}
IsReading other = ⊥

-- the path of the text that was asked for, where one was
abbrev pub path_read : FileDeed → List (List ℕ)
path_read (ReadsText path told) = path ∷ []
path_read other = []

-- the paths of all texts that were asked for, in their order
abbrev pub paths_read : List FileDeed → List (List ℕ)
paths_read deeds = flat_map path_read deeds

-- the paths of files that were noted
abbrev pub paths_of : List Source → List (List ℕ)
paths_of sources = map (λ (s : Source). string_bytes s.path) sources

-- texts were asked for and nothing else was done, and the path of each was noted after those that were before
abbrev pub AreNoted : List Source → List Source → List FileDeed → Type 0
AreNoted before after deeds = All IsReading deeds × (paths_of after ≡ paths_of before ++ paths_read deeds)

-- files were read so, or were not, and each was noted before it was read
abbrev pub ReadsNoted : {D A : Type 0} → (D → List FileDeed → D → Type 0) → D → D → List Source → List Source → Result A Fault
    → (A → List FileDeed → Type 0) → (Fault → List FileDeed → Type 0) → Type 0
ReadsNoted does before after old new result IsRead IsUnread = (deeds : List FileDeed) × does before deeds after × AreNoted old new deeds
    × MatchResult result (λ read. IsRead read deeds) (λ fault. IsUnread fault deeds)

-- the files that the words of a command name: those with these names, and its platform table, if it names one
abbrev pub files_named : List (List ℕ) → Option (List ℕ) → List (List ℕ)
files_named names None = names
files_named names (Some table) = names ++ table ∷ []

-- the names of files that a report is not to replace
abbrev pub names_in : List Operand → List (List ℕ)
names_in operands = map (λ (o : Operand). o.name.now) operands

-- names, from the words of a command
abbrev pub names_of : List (Bor (List ℕ)) → List (List ℕ)
names_of words = map (λ (name : Bor (List ℕ)). name.now) words

-- a name, if a command has one
abbrev pub name_of : Option (Bor (List ℕ)) → Option (List ℕ)
name_of word = option_map (λ (name : Bor (List ℕ)). name.now) word

-- these are the files that the words of a command name, and those of these paths, which were read besides
abbrev pub AreSpared : List (List ℕ) → Option (List ℕ) → List (List ℕ) → List Operand → Type 0
AreSpared names table paths operands = names_in operands ≡ files_named names table ++ paths

-- the path of the file that was written, where one was
abbrev pub path_written : FileDeed → List (List ℕ)
path_written (WritesText path bytes (Ok done)) = path ∷ []
path_written other = []

-- the paths of all files that were written
abbrev pub paths_written : List FileDeed → List (List ℕ)
paths_written deeds = flat_map path_written deeds

-- no file was written whose text was asked for
abbrev pub SparesTexts : List FileDeed → Type 0
SparesTexts deeds = (path : List ℕ) → Contains (paths_read deeds) path → Contains (paths_written deeds) path → ⊥
