-- What is reported of two images that are compared.
use Rattle.std.specs.Prelude.{ℕ, ◌≡◌, ◌⊎◌, ◌*◌, ◌∷◌, ◌++◌, List, [], length, Ok, Err}
use Rattle.jc_words.specs.File.{IsImageSize}
use Rattle.jc_words.specs.declared.image.ImageFault.{ImageFault}
use Rattle.jc_card.specs.PowerUp.{HasHead, PowerUpRefuses, fault_of}
use Rattle.jcard_texts.specs.Texts.{IsCutOf}
use Rattle.jcard_files.specs.Effects.{Says, Tells}
use Rattle.jcard_files.specs.declared.fault.Fault.{Fault}
use Rattle.jcard_files.specs.declared.fault.Fault.TheVariants.{BadImage, NoMemory, WriteFailed}
use Rattle.jcard_files.specs.FileDeeds.{FileDeed, ClosesImage, ReadsImage, untouched}
use Rattle.jcard_files.specs.Images.{IsNotOpened}
use Rattle.jcard_dump.specs.Inventory.{damage_of}
use Rattle.jcard_dump.specs.InventoryLines.{Lines}
use Rattle.jcard_dump.specs.Differences.{AreDifferences}
use Rattle.jcard_dump.specs.Pairs.{unread_text}
use Rattle.jcard_dump.specs.Dump.{AreLinesTold}
use Rattle.jcard_dump.specs.declared.pairs.Side.{Side}
use Rattle.jcard_dump.specs.declared.pairs.Side.TheVariants.{One, Other}
use Rattle.jcard_dump.specs.declared.shown.Shown.{Shown}

-- it was reported that an image cannot be read because of a fault of its first words, or the beginning of this where a write failed
abbrev pub IsRefusalTold : Side → ImageFault → Says
IsRefusalTold side fault (Err (BadImage damage)) text = (damage ≡ damage_of fault) × (text ≡ unread_text side)
IsRefusalTold side fault (Err WriteFailed) text = IsCutOf (unread_text side) text
IsRefusalTold side fault (Err other) text = ⊥
IsRefusalTold side fault (Ok done) text = ⊥

-- the words are no image's, and this was reported
abbrev pub IsNoImageTold : Side → List ℕ → Says
IsNoImageTold side w ended text = (fault : ImageFault) × PowerUpRefuses (fault_of fault) w × IsRefusalTold side fault ended text

-- how the differences were reported; or memory was refused for them, and nothing was reported
abbrev pub AreLinesOfBoth : List ℕ → List ℕ → Shown → Says
AreLinesOfBoth w v shown ended text = ((l : Lines) × AreDifferences w v shown l × AreLinesTold l ended text)
    ⊎ ((ended ≡ Err NoMemory) × (text ≡ []))

-- what is reported of these words, which are an image's, and of those of the other image: these are none, or what is not the same
abbrev pub AreToldBeside : List ℕ → List ℕ → Shown → Says
AreToldBeside w v shown ended text = IsNoImageTold Other v ended text ⊎ (HasHead v × AreLinesOfBoth w v shown ended text)

-- the same of any words
abbrev pub AreDifferencesTold : List ℕ → List ℕ → Shown → Says
AreDifferencesTold w v shown ended text = IsNoImageTold One w ended text ⊎ (HasHead w × AreToldBeside w v shown ended text)

-- the image with this name could not be opened to read it alone beside these words, and nothing was written; or its words were compared with them,
-- and it was closed with no write asked for
abbrev pub IsBesideTold : List ℕ → List ℕ → Shown → Tells
IsBesideTold w other shown ended text deeds =
    ((fault : Fault) × (ended ≡ Err fault) × IsNotOpened other fault × (text ≡ []) × (deeds ≡ ReadsImage other (Err fault) ∷ []))
    ⊎ ((v : List ℕ) × IsImageSize (2 * length v) × AreDifferencesTold w v shown ended text
    × (deeds ≡ ReadsImage other (Ok v) ∷ ClosesImage other (untouched v) ∷ []))

-- the image of the first name could not be opened to read it alone, and nothing was written; or its words were compared with the image of
-- the other name, and it was closed with no write asked for
abbrev pub IsComparison : List ℕ → List ℕ → Shown → Tells
IsComparison image other shown ended text deeds =
    ((fault : Fault) × (ended ≡ Err fault) × IsNotOpened image fault × (text ≡ []) × (deeds ≡ ReadsImage image (Err fault) ∷ []))
    ⊎ ((w : List ℕ) × (within : List FileDeed) × IsImageSize (2 * length w) × IsBesideTold w other shown ended text within
    × (deeds ≡ ReadsImage image (Ok w) ∷ (within ++ ClosesImage image (untouched w) ∷ [])))
