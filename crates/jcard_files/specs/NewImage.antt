-- Making an image.
use Rattle.std.specs.Prelude.{ℕ, ◌≡◌, ◌≢◌, ◌⊎◌, true, false, List, [], ◌∷◌, ◌++◌, length, replicate, slice_index, Option, Result, Ok, Err}
use Rattle.std.specs.Borrow.{Bor}
use Rattle.jc_words.specs.Layout.{magic, magic_address}
use Rattle.jc_words.specs.Store.{MemStoreValue, StoreValue}
use Rattle.jc_commit.specs.Image.{recovered_of}
use Rattle.jc_heap.specs.Heap.{heap_of}
use Rattle.jc_image.specs.declared.laying.ImageRoom.{ImageRoom}
use Rattle.jc_platform.specs.Tokens.{Tokens}
use Rattle.jc_platform.specs.Table.{Reads}
use Rattle.jc_platform.specs.declared.fault.TableFault.TheVariants.{BadTable as BadLine}
use Rattle.jc_card.specs.Formatting.{IsTooSmall}
use Rattle.jc_card.specs.ProductImages.{IsMade, new_card_heap}
use Rattle.jc_card.specs.declared.formatting.FormatFault.{FormatFault}
use Rattle.jc_card.specs.declared.formatting.FormatFault.TheVariants as format
use Rattle.jcard_files.specs.FileDeeds.{FileDeed, ClosesImage, MakesImage, untouched}
use Rattle.jcard_files.specs.Images.{IsNotMade}
use Rattle.jcard_files.specs.declared.fault.Fault.{Fault}
use Rattle.jcard_files.specs.declared.fault.Fault.TheVariants.{NoMemory, BadJournal, BadTransient, BadWords, BadTable, ImageTooSmall, CannotWrite}
use Rattle.jcard_files.specs.declared.extent.Extent.{Extent}
use Rattle.jcard_files.specs.ImageSize.{IsExtent, IsNoExtent}
use Rattle.jcard_files.specs.UsualTable.{IsNoPlatform, IsPlatform}

-- the text of a platform table
abbrev pub IsTable : List ℕ → Type 0
IsTable text = (t : Tokens) × Reads text (Ok t)

-- these are n words of a new image with this room, with the platform table of this text
pub record IsNewImageOf (n : ℕ) (room : ImageRoom) (text w : List ℕ) : Type 0 where
  pub size : length w ≡ n
  pub made : IsMade w
  pub heap : (t : Tokens) × Reads text (Ok t) × (heap_of (recovered_of w) ≡ new_card_heap n room text t)

-- a store in memory holds a new image with this room, and no write of it counts yet; or the table and the objects of the runtime environment do not
-- fit
abbrev pub IsLaidInMemory : ℕ → ImageRoom → List ℕ → Result MemStoreValue Fault → Type 0
IsLaidInMemory n room text (Ok store) = IsNewImageOf n room text store.words × (store.passed ≡ 0)
IsLaidInMemory n room text (Err ImageTooSmall) = IsTooSmall n room text
IsLaidInMemory n room text (Err other) = ⊥

-- so it is; or memory was refused for the words
abbrev pub IsNewImageInMemory : ℕ → ImageRoom → List ℕ → Result MemStoreValue Fault → Type 0
IsNewImageInMemory n room text (Ok store) = IsLaidInMemory n room text (Ok store)
IsNewImageInMemory n room text (Err NoMemory) = Unit {0}
IsNewImageInMemory n room text (Err fault) = IsLaidInMemory n room text (Err fault)

-- what is reported where the image with this name was not made of its file's words
abbrev pub IsFormatFault : List ℕ → FormatFault → Fault → Type 0
IsFormatFault image format.StoreDown fault = (path : Bor (List ℕ)) × (fault ≡ CannotWrite path) × (path.now ≡ image)
IsFormatFault image format.BadSize fault = fault ≡ BadWords
IsFormatFault image format.BadCapacity fault = fault ≡ BadJournal
IsFormatFault image format.BadCells fault = fault ≡ BadTransient
IsFormatFault image (format.BadTable line) fault = fault ≡ BadTable line
IsFormatFault image format.TooSmall fault = fault ≡ ImageTooSmall

-- how a store of n zero words ended as the image with this name, with this room, from this table's text: it is a new image, and
-- refused no write; or it refused one, and has no magic word; or the table and the objects of the runtime environment do not fit, and
-- no write was asked for
abbrev pub IsLaid : List ℕ → ℕ → ImageRoom → List ℕ → Result Unit Fault → StoreValue → Type 0
IsLaid image n room text (Ok done) store = IsNewImageOf n room text store.words × (store.down ≡ false) × (store.refused ≡ 0)
IsLaid image n room text (Err (CannotWrite path)) store = (path.now ≡ image) × (store.down ≡ true) × (store.refused ≡ 1)
    × ((store.words ≡ replicate n 0) ⊎ (slice_index store.words magic_address ≢ magic))
IsLaid image n room text (Err ImageTooSmall) store = IsTooSmall n room text × (store ≡ untouched (replicate n 0))
IsLaid image n room text (Err other) store = ⊥

-- how the making of an image with this name, of this extent, ended, from this text, and what was done with files: it is no table, and no file was
-- asked for; or the file was not made; or it was, and was closed as it ended
abbrev pub IsMadeFrom : List ℕ → Extent → List ℕ → Result Unit Fault → List FileDeed → Type 0
IsMadeFrom image extent text ended deeds =
    ((line : ℕ) × (ended ≡ Err (BadTable line)) × Reads text (Err (BadLine line)) × (deeds ≡ []))
    ⊎ ((fault : Fault) × (ended ≡ Err fault) × IsTable text × IsNotMade image fault × (deeds ≡ MakesImage image extent.count (Err fault) ∷ []))
    ⊎ ((store : StoreValue) × IsTable text × IsLaid image extent.count extent.room text ended store
    × (deeds ≡ MakesImage image extent.count (Ok tt) ∷ ClosesImage image store ∷ []))

-- the image with this name was made, of the extent that these texts say, from the platform table that is named last, or the usual one; or no image has
-- this extent, and no file was asked for; or after that the table was not read, and no other file was asked for
abbrev pub IsNew : List ℕ → List ℕ → List ℕ → Option (List ℕ) → Option (List ℕ) → Option (List ℕ) → Result Unit Fault → List FileDeed → Type 0
IsNew image words journal cells buffer table ended deeds =
    ((fault : Fault) × (ended ≡ Err fault) × IsNoExtent words journal cells buffer fault × (deeds ≡ []))
    ⊎ ((extent : Extent) × IsExtent words journal cells buffer extent × (((fault : Fault) × (ended ≡ Err fault) × IsNoPlatform table fault deeds)
    ⊎ ((text : List ℕ) × (reads then : List FileDeed) × IsPlatform table text reads × IsMadeFrom image extent text ended then
    × (deeds ≡ reads ++ then))))
