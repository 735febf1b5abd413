-- What is reported of an image and of its objects.
use Rattle.std.specs.Prelude.{ℕ, ◌≡◌, ◌⊎◌, ◌*◌, ◌∷◌, ◌++◌, true, false, Bool, List, [], length, Result, Ok, Err, if◌then◌else◌}
use Rattle.jc_words.specs.File.{IsImageSize}
use Rattle.jcard_texts.specs.Texts.{IsCutOf}
use Rattle.jcard_files.specs.Effects.{Says, Tells}
use Rattle.jcard_files.specs.declared.fault.Damage.TheVariants.{Package}
use Rattle.jcard_files.specs.declared.fault.Fault.{Fault}
use Rattle.jcard_files.specs.declared.fault.Fault.TheVariants.{BadImage, NoMemory, WriteFailed}
use Rattle.jcard_files.specs.FileDeeds.{ClosesImage, ReadsImage, untouched}
use Rattle.jcard_files.specs.Images.{IsNotOpened}
use Rattle.jcard_dump.specs.Inventory.{IsTold, dump_text}
use Rattle.jcard_dump.specs.InventoryLines.{Lines}
use Rattle.jcard_dump.specs.Listing.{IsListing}
use Rattle.jcard_dump.specs.declared.shown.Shown.{Shown}

-- how a listing ends whose lines were all written, and that could be read to its end or not
abbrev pub end_of : Bool → Result Unit Fault
end_of readable = if readable then Ok tt else Err (BadImage Package)

-- how lines were reported: all, or the beginning of them where a write failed, or those up to one that cannot be read
abbrev pub AreLinesTold : Lines → Says
AreLinesTold l (Ok done) text = (l.readable ≡ true) × (text ≡ l.text)
AreLinesTold l (Err WriteFailed) text = IsCutOf l.text text
AreLinesTold l (Err (BadImage damage)) text = (l.readable ≡ false) × (damage ≡ Package) × (text ≡ l.text)
AreLinesTold l (Err other) text = ⊥

-- how a listing was reported; or memory was refused for it, and nothing was reported
abbrev pub IsListingTold : List ℕ → Shown → Says
IsListingTold w shown ended text = ((l : Lines) × IsListing w shown l × AreLinesTold l ended text)
    ⊎ ((ended ≡ Err NoMemory) × (text ≡ []))

-- what is reported of these words: their packages and applets, as far as they read, and then a listing
abbrev pub AreObjectsTold : List ℕ → Shown → Says
AreObjectsTold w shown ended text = ((fault : Fault) × (ended ≡ Err fault) × IsTold w ended text)
    ⊎ ((behind : List ℕ) × IsTold w (Ok tt) (dump_text w).text × IsListingTold w shown ended behind × (text ≡ (dump_text w).text ++ behind))

-- the image with this name could not be opened to read it alone, and nothing was written; or its words were reported, and it was closed
-- with no write asked for
abbrev pub IsObjectsDump : List ℕ → Shown → Tells
IsObjectsDump image shown ended text deeds =
    ((fault : Fault) × (ended ≡ Err fault) × IsNotOpened image fault × (text ≡ []) × (deeds ≡ ReadsImage image (Err fault) ∷ []))
    ⊎ ((w : List ℕ) × IsImageSize (2 * length w) × AreObjectsTold w shown ended text
    × (deeds ≡ ReadsImage image (Ok w) ∷ ClosesImage image (untouched w) ∷ []))
