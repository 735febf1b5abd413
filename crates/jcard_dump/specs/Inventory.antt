-- What is reported of an image.
use Rattle.std.specs.Prelude.{ℕ, ◌≡◌, ◌⊎◌, ◌*◌, true, false, List, [], ◌∷◌, ◌++◌, codes, length, Ok, Err}
use Rattle.jc_words.specs.File.{IsImageSize}
use Rattle.jc_words.specs.declared.image.ImageFault.{ImageFault}
use Rattle.jc_card.specs.Inventory.{inventory_of}
use Rattle.jc_card.specs.PowerUp.{HasHead, PowerUpRefuses, fault_of}
use Rattle.jc_card.specs.declared.inventory.Inventory.{Inventory}
use Rattle.jcard_texts.specs.Texts.{IsCutOf}
use Rattle.jcard_files.specs.Effects.{Says, Tells}
use Rattle.jcard_files.specs.FileDeeds.{ClosesImage, ReadsImage, untouched}
use Rattle.jcard_files.specs.Images.{IsNotOpened}
use Rattle.jcard_dump.specs.InventoryLines.{Lines, count_line, journal_line, line, listing_of, then_lines}
use Rattle.jcard_dump.specs.declared.inventory_lines.ListingFault.{ListingFault}
use Rattle.jcard_dump.specs.declared.inventory_lines.ListingFault.TheVariants.{Unreadable, NotWritten}
use Rattle.jcard_files.specs.declared.fault.Damage.{Damage}
use Rattle.jcard_files.specs.declared.fault.Damage.TheVariants.{Magic, Package, Size, Version}
use Rattle.jcard_files.specs.declared.fault.Fault.{Fault}
use Rattle.jcard_files.specs.declared.fault.Fault.TheVariants.{BadImage, WriteFailed}
use Rattle.jc_words.specs.declared.image.ImageFault.TheVariants.{BadMagic, BadVersion, BadSize}

-- the damage that a fault of the first words is
abbrev pub damage_of : ImageFault → Damage
damage_of BadMagic = Magic
damage_of BadVersion = Version
damage_of BadSize = Size

-- the lines of the numbers of words and of entries
abbrev pub sizes_of : Inventory → List ℕ
sizes_of found = count_line (codes "words ") found.words ++ journal_line found.journal found.capacity

-- the four lines of an inventory
abbrev pub lines_of : Inventory → List ℕ
lines_of found = sizes_of found ++ (count_line (codes "packages ") found.packages ++ count_line (codes "applets ") found.applets)

-- jcard dump IMAGE: an inventory, then the packages and the applets
abbrev pub dump_text : List ℕ → Lines
dump_text w = then_lines (line (lines_of (inventory_of w))) (listing_of w)

-- what is reported where not all lines were written
abbrev pub told_listing_fault : ListingFault → Fault
told_listing_fault NotWritten = WriteFailed
told_listing_fault Unreadable = BadImage Package

-- the words are no image's, and nothing was reported; or all was reported up to a line that cannot be read
abbrev pub IsDamaged : List ℕ → Damage → List ℕ → Type 0
IsDamaged w damage text = ((text ≡ []) × ((fault : ImageFault) × PowerUpRefuses (fault_of fault) w × (damage ≡ damage_of fault)))
    ⊎ (HasHead w × (damage ≡ Package) × ((dump_text w).readable ≡ false) × (text ≡ (dump_text w).text))

-- of these words all was reported, or the beginning of it where a write failed; or they are damaged
abbrev pub IsTold : List ℕ → Says
IsTold w (Ok done) text = HasHead w × ((dump_text w).readable ≡ true) × (text ≡ (dump_text w).text)
IsTold w (Err WriteFailed) text = HasHead w × IsCutOf (dump_text w).text text
IsTold w (Err (BadImage damage)) text = IsDamaged w damage text
IsTold w (Err other) text = ⊥

-- the image with this name could not be opened to read it alone, and nothing was written; or its words were reported, and it was closed
-- with no write asked for
abbrev pub IsDump : List ℕ → Tells
IsDump image ended text deeds =
    ((fault : Fault) × (ended ≡ Err fault) × IsNotOpened image fault × (text ≡ []) × (deeds ≡ ReadsImage image (Err fault) ∷ []))
    ⊎ ((w : List ℕ) × IsImageSize (2 * length w) × IsTold w ended text × (deeds ≡ ReadsImage image (Ok w) ∷ ClosesImage image (untouched w) ∷ []))
