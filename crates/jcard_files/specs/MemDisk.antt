-- A disk in memory: what stands in its files, and what is done with them.
use Rattle.std.specs.Prelude.{ℕ, ◌≡◌, ◌==◌, ◌*◌, List, [], ◌∷◌, ◌++◌, flat_map, length, position, replicate, slice_get, slice_set, if◌then◌else◌}
use Rattle.std.specs.Prelude.{Option, Some, None, MatchOption, Result, Ok, Err}
use Rattle.std.specs.Str.{bytes_eq}
use Rattle.std.specs.String.{string_bytes}
use Rattle.std.proofs.Common.{subst}
use Rattle.byteorder.specs.Endian.{big_bytes}
use Rattle.jc_words.specs.Count.{saturating_count}
use Rattle.jc_words.specs.File.{AreWordsOf}
use Rattle.jc_words.specs.Store.{StoreValue}
use Rattle.jcard_files.specs.declared.fault.Fault.{Fault}
use Rattle.jcard_files.specs.FileDeeds.{FileDeed, ClosesImage, MakesImage, OpensImage, ReadsImage, ReadsText, WritesText}
use Rattle.jcard_files.specs.declared.text_file.TextFile.{TextFile}
use Rattle.jcard_files.specs.declared.text_file.WrittenText.{WrittenText}

-- an image, by its name: its bytes, and how many words were written to it since it was made
pub record ImageFileValue : Type 0 where
  pub name : List ℕ
  pub bytes : List ℕ
  pub writes : ℕ

-- a disk in memory: texts that stand, images, and texts that were written, in the order in which they were
pub record MemDiskValue : Type 0 where
  pub texts : List TextFile
  pub images : List ImageFileValue
  pub written : List WrittenText

-- where the first text with this name stands
abbrev pub text_place : List ℕ → List TextFile → Option ℕ
text_place name texts = position (λ text. bytes_eq text.name.now name) texts

-- where the first image with this name stands
abbrev pub image_place : List ℕ → List ImageFileValue → Option ℕ
image_place name images = position (λ image. bytes_eq image.name name) images

-- an image of n zero words
abbrev pub zero_image : List ℕ → ℕ → ImageFileValue
zero_image name n = record { name = name; bytes = replicate (2 * n) 0; writes = 0 }

-- the images with one that takes the place of another, or comes after all
abbrev pub images_with : ImageFileValue → Option ℕ → List ImageFileValue → List ImageFileValue
images_with image (Some i) images = slice_set images i image
images_with image None images = images ++ image ∷ []

-- an image when a store of as many words was closed: these stand in it now, and the writes count
abbrev pub image_after : StoreValue → ImageFileValue → ImageFileValue
image_after store image = if length image.bytes == 2 * length store.words
    then record { name = image.name; bytes = flat_map (big_bytes 2) store.words; writes = saturating_count image.writes store.passed }
    else image

-- the words of the image with this name were given; or there is none, it has no image's size, or there was no memory
abbrev pub IsTold : List ℕ → Result (List ℕ) Fault → MemDiskValue → Type 0
IsTold name (Err fault) disk = Unit {0}
IsTold name (Ok words) disk = (i : ℕ) × (image : ImageFileValue) × (image_place name disk.images ≡ Some i) × (slice_get disk.images i ≡ Some image)
    × AreWordsOf image.bytes words

-- the bytes of the text with this name were given, or there is none
abbrev pub IsGiven : List ℕ → Result (Option (List ℕ)) Fault → MemDiskValue → Type 0
IsGiven name (Err fault) disk = text_place name disk.texts ≡ None
IsGiven name (Ok known) disk = (i : ℕ) × (text : TextFile) × (text_place name disk.texts ≡ Some i) × (slice_get disk.texts i ≡ Some text)
    × (known ≡ Some text.bytes.now)

-- the image with this name was closed so; where there is none, nothing changed
abbrev pub IsClosed : List ℕ → StoreValue → MemDiskValue → MemDiskValue → Type 0
IsClosed name store old new = MatchOption (image_place name old.images) (new ≡ old) (λ i. (image : ImageFileValue) × (slice_get old.images i ≡ Some image)
    × (new ≡ record old { images = slice_set old.images i (image_after store image) }))

-- the text of these bytes was written, and stands after those that were before
abbrev pub IsWritten : List ℕ → List ℕ → MemDiskValue → MemDiskValue → Type 0
IsWritten name bytes old new = (text : WrittenText) × (string_bytes text.name ≡ name) × (text.bytes.items ≡ bytes)
    × (new ≡ record old { written = old.written ++ text ∷ [] })

-- this was done
abbrev pub IsDeed : FileDeed → MemDiskValue → MemDiskValue → Type 0
IsDeed (OpensImage name told) old new = IsTold name told old × (new ≡ old)
IsDeed (ReadsImage name told) old new = IsTold name told old × (new ≡ old)
IsDeed (MakesImage name n (Ok made)) old new = new ≡ record old { images = images_with (zero_image name n) (image_place name old.images) old.images }
IsDeed (MakesImage name n (Err fault)) old new = new ≡ old
IsDeed (ClosesImage name store) old new = IsClosed name store old new
IsDeed (ReadsText name told) old new = IsGiven name told old × (new ≡ old)
IsDeed (WritesText name bytes (Ok done)) old new = (image_place name old.images ≡ None) × IsWritten name bytes old new
IsDeed (WritesText name bytes (Err fault)) old new = new ≡ old

-- exactly these things were done, in this order
abbrev pub AreDeeds : List FileDeed → MemDiskValue → MemDiskValue → Type 0
AreDeeds [] old new = new ≡ old
AreDeeds (deed ∷ deeds) old new = (between : MemDiskValue) × IsDeed deed old between × AreDeeds deeds between new

-- some things are done, and then others
pub deeds_then : (deeds more : List FileDeed) (first between last : MemDiskValue) → AreDeeds deeds first between → AreDeeds more between last
    → AreDeeds (deeds ++ more) first last
deeds_then [] more first between last done rest = subst (λ d. AreDeeds more d last) done rest
deeds_then (deed ∷ deeds) more first between last done rest = (done.0, done.1, deeds_then deeds more done.0 between last done.2 rest)
