-- `jcard try`: what is read, what is done with it, and what is reported.
use Rattle.std.specs.Prelude.{ℕ, ◌≡◌, ◌⊎◌, List, [], ◌∷◌, ◌++◌, codes, Ok, Err, Option}
use Rattle.jc_words.specs.Store.{FuseStoreValue}
use Rattle.jc_image.specs.declared.laying.ImageRoom.{ImageRoom}
use Rattle.jc_platform.specs.Table.{Reads}
use Rattle.jc_platform.specs.declared.fault.TableFault.TheVariants.{BadTable as BadLine}
use Rattle.jc_card.specs.Formatting.{IsTooSmall}
use Rattle.jcard_files.specs.Effects.{Tells}
use Rattle.jcard_files.specs.FileDeeds.{FileDeed, ReadsText, fresh_store}
use Rattle.jcard_files.specs.Images.{IsUnopened}
use Rattle.jcard_files.specs.declared.extent.Extent.{Extent}
use Rattle.jcard_files.specs.ImageSize.{IsExtent, IsNoExtent}
use Rattle.jcard_files.specs.NewImage.{IsNewImageOf, IsTable}
use Rattle.jcard_files.specs.UsualTable.{IsNoPlatform, IsPlatform}
use Rattle.jcard_files.specs.declared.fault.Fault.{Fault}
use Rattle.jcard_files.specs.declared.fault.Fault.TheVariants.{NoMemory, BadTable, ImageTooSmall}
use Rattle.jcard_commands.specs.ScriptRun.{IsCarriedOut}

-- the script in the file with this name was tried, with this budget, on a new card of n words and this room with the platform table of this text: its
-- file, the only one, was not opened, or memory was refused; or the table and the objects of the runtime environment do not fit, and nothing was
-- written; or it was carried out to this end over the words of a new image, and this text was written
abbrev pub IsTriedOn : ℕ → List ℕ → ℕ → ImageRoom → List ℕ → Tells
IsTriedOn budget script n room table ended text deeds =
    ((fault : Fault) × (ended ≡ Err fault) × IsUnopened script fault × (text ≡ []) × (deeds ≡ ReadsText script (Err fault) ∷ []))
    ⊎ ((known left : Option (List ℕ)) × (deeds ≡ ReadsText script (Ok known) ∷ []) × (((ended ≡ Err NoMemory) × (text ≡ []))
    ⊎ ((ended ≡ Err ImageTooSmall) × IsTooSmall n room table × (text ≡ []))
    ⊎ ((w : List ℕ) × (after : FuseStoreValue) × IsNewImageOf n room table w
    × IsCarriedOut budget (codes "memory") script known left (fresh_store w) after ended text)))

-- a script was tried, on a card of the extent that these texts say: no image has it, and no file was asked for; or after that the table was not read,
-- or it is none, and no other file was asked for; or the script was tried, and its file was the only other
abbrev pub IsTrial : ℕ → List ℕ → List ℕ → List ℕ → Option (List ℕ) → Option (List ℕ) → Option (List ℕ) → Tells
IsTrial budget script words journal cells buffer table ended text deeds =
    ((fault : Fault) × (ended ≡ Err fault) × IsNoExtent words journal cells buffer fault × (text ≡ []) × (deeds ≡ []))
    ⊎ ((extent : Extent) × IsExtent words journal cells buffer extent × (((fault : Fault) × (ended ≡ Err fault) × (text ≡ []) × IsNoPlatform table fault deeds)
    ⊎ ((platform : List ℕ) × (line : ℕ) × (ended ≡ Err (BadTable line)) × IsPlatform table platform deeds × Reads platform (Err (BadLine line)) × (text ≡ []))
    ⊎ ((platform : List ℕ) × (reads more : List FileDeed) × IsPlatform table platform reads × IsTable platform
    × IsTriedOn budget script extent.count extent.room platform ended text more × (deeds ≡ reads ++ more))))
