-- The texts in files that state parts of a sweep.
use Rattle.std.specs.Prelude.{ℕ, ◌≡◌, List, [], ◌∷◌, ◌++◌}
use Rattle.std.specs.Borrow.{Bor}
use Rattle.std.specs.List.{slice_index_or}
use Rattle.jcard_files.specs.FileDeeds.{FileDeed}
use Rattle.jcard_files.specs.Reading.{IsUnread, IsScriptRead}
use Rattle.jcard_files.specs.declared.fault.Fault.{Fault}
use Rattle.jcard_files.specs.declared.fault.Fault.TheVariants.{NoMemory, OtherPart}
use Rattle.jcard_outcomes.specs.declared.sweep_head.HeadFault.{HeadFault}
use Rattle.jcard_outcomes.specs.declared.sweep_head.HeadFault.TheVariants as heading

-- these texts were read from the files with these names, in their order
abbrev pub AreRead : List (List ℕ) → List (List ℕ) → List FileDeed → Type 0
AreRead [] [] deeds = deeds ≡ []
AreRead (name ∷ names) (text ∷ texts) deeds = (opened more : List FileDeed) × IsScriptRead name text opened × (deeds ≡ opened ++ more)
    × AreRead names texts more
AreRead names texts deeds = ⊥

-- the files were read up to one that could not be
abbrev pub AreUnread : List (List ℕ) → Fault → List FileDeed → Type 0
AreUnread names fault deeds = (before rest texts : List (List ℕ)) × (name : List ℕ) × (opened more : List FileDeed) × (names ≡ before ++ name ∷ rest)
    × AreRead before texts opened × IsUnread name fault more × (deeds ≡ opened ++ more)

-- only the first files were read
abbrev pub AreFirstRead : List (List ℕ) → List FileDeed → Type 0
AreFirstRead names deeds = (first rest texts : List (List ℕ)) × (names ≡ first ++ rest) × AreRead first texts deeds

-- the text of one of the files with these names is of another sweep than that of the first: the file is reported; or memory was refused
abbrev pub IsOtherTold : List (List ℕ) → HeadFault → Fault → Type 0
IsOtherTold names heading.NoMemory fault = fault ≡ NoMemory
IsOtherTold names (heading.OtherSweep j) fault = (path : Bor (List ℕ)) × (fault ≡ OtherPart path) × (path.now ≡ slice_index_or names j [])
