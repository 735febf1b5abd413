-- Images in files.
use Rattle.std.specs.Prelude.{ℕ, ◌≡◌, ◌⊎◌, List, Option, Result, Ok, Err}
use Rattle.std.specs.Io.KnownBytes.{Appends}
use Rattle.std.specs.Borrow.{Bor}
use Rattle.jc_words.specs.File.{IsCreated, IsOpened, IsReplaced}
use Rattle.jc_words.specs.Store.{FileStoreValue}
use Rattle.jc_words.specs.declared.file.FileOpenFault.{FileOpenFault}
use Rattle.jc_words.specs.declared.file.FileOpenFault.TheVariants as opening
use Rattle.jc_words.specs.declared.file.FileCreateFault.{FileCreateFault}
use Rattle.jc_words.specs.declared.file.FileCreateFault.TheVariants as making
use Rattle.jc_words.specs.declared.file.FileLockFault.{FileLockFault}
use Rattle.jc_words.specs.declared.file.FileLockFault.TheVariants as holding
use Rattle.jc_words.specs.declared.file.Unopened.{Unopened}
use Rattle.jc_words.specs.declared.lock.Lock.{Lock}
use Rattle.jc_words.specs.declared.lock.LockFault.{LockFault}
use Rattle.jc_words.specs.declared.lock.LockFault.TheVariants as locking
use Rattle.jc_words.specs.declared.opening.NotOpened.{NotOpened}
use Rattle.jc_words.specs.declared.word_file.FileFailed.{FileFailed}
use Rattle.jc_words.specs.declared.word_file.StdFile.{StdFile}
use Rattle.jcard_files.specs.declared.fault.Damage.TheVariants.{Size}
use Rattle.jcard_files.specs.declared.fault.FileKind.TheVariants.{Image}
use Rattle.jcard_files.specs.declared.fault.Fault.{Fault}
use Rattle.jcard_files.specs.declared.fault.Fault.TheVariants.{NoMemory, CannotRead, CannotOpenToWrite, CannotWrite, NotReplaced, BadImage, ImageInUse}
use Rattle.jc_words.specs.declared.replacing.ReplaceFault.{ReplaceFault}
use Rattle.jc_words.specs.declared.replacing.ReplaceFault.TheVariants as replacing
use Rattle.jc_words.specs.declared.word_file.FileReadFault.TheVariants as reading

-- why a file with this name was not read
abbrev pub IsNotRead : List ℕ → Fault → Type 0
IsNotRead name (CannotRead path) = path.now ≡ name
IsNotRead name NoMemory = Unit {0}
IsNotRead name other = ⊥

-- a file with this name could not be opened or read
abbrev pub IsUnopened : List ℕ → Fault → Type 0
IsUnopened name fault = (path : Bor (List ℕ)) × (fault ≡ CannotRead path) × (path.now ≡ name)

-- why the image with this name was not opened to read it alone; its file can have no image's size, and another can have it open
abbrev pub IsNotOpened : List ℕ → Fault → Type 0
IsNotOpened name (BadImage Size) = Unit {0}
IsNotOpened name ImageInUse = Unit {0}
IsNotOpened name fault = IsNotRead name fault

-- why it was not opened to change it
abbrev pub IsNotOpenedToWrite : List ℕ → Fault → Type 0
IsNotOpenedToWrite name (CannotOpenToWrite path) = path.now ≡ name
IsNotOpenedToWrite name fault = IsNotOpened name fault

-- why a file with this name was not made
abbrev pub IsNotMade : List ℕ → Fault → Type 0
IsNotMade name (CannotWrite path) = path.now ≡ name
IsNotMade name ImageInUse = Unit {0}
IsNotMade name NoMemory = Unit {0}
IsNotMade name other = ⊥

-- why a text with this name was not written: it is another file of the command, or holds an image; or another has it open
abbrev pub IsUnwritten : List ℕ → Fault → Type 0
IsUnwritten name (CannotWrite path) = path.now ≡ name
IsUnwritten name NoMemory = Unit {0}
IsUnwritten name ImageInUse = Unit {0}
IsUnwritten name (NotReplaced path kind) = path.now ≡ name
IsUnwritten name other = ⊥

-- ---- causes

-- the file with this name could not be written
abbrev pub IsNotWritten : List ℕ → Fault → Type 0
IsNotWritten name fault = (path : Bor (List ℕ)) × (fault ≡ CannotWrite path) × (path.now ≡ name)

-- what is reported where the image with this name was not opened to change it
abbrev pub IsOpenFault : List ℕ → FileOpenFault → Fault → Type 0
IsOpenFault name opening.CannotOpen fault = (path : Bor (List ℕ)) × (fault ≡ CannotOpenToWrite path) × (path.now ≡ name)
IsOpenFault name opening.InUse fault = fault ≡ ImageInUse
IsOpenFault name opening.CannotRead fault = IsUnopened name fault
IsOpenFault name opening.BadSize fault = fault ≡ BadImage Size
IsOpenFault name opening.NoMemory fault = fault ≡ NoMemory

-- what is reported where it was not opened to read it alone
abbrev pub IsReadFault : List ℕ → FileOpenFault → Fault → Type 0
IsReadFault name opening.CannotOpen fault = IsUnopened name fault
IsReadFault name cause fault = IsOpenFault name cause fault

-- what is reported where a file with this name was not opened and locked to write it
abbrev pub IsHeldFault : List ℕ → FileLockFault → Fault → Type 0
IsHeldFault name (holding.NotLocked locking.InUse) fault = fault ≡ ImageInUse
IsHeldFault name (holding.NotLocked locking.CannotLock) fault = IsNotWritten name fault
IsHeldFault name holding.NotOpened fault = IsNotWritten name fault

-- what is reported where it was not made
abbrev pub IsCreateFault : List ℕ → FileCreateFault → Fault → Type 0
IsCreateFault name (making.NotHeld cause) fault = IsHeldFault name cause fault
IsCreateFault name making.NotWritten fault = IsNotWritten name fault

-- what is reported where it was not opened to write it anew
abbrev pub IsReplaceFault : List ℕ → ReplaceFault → Fault → Type 0
IsReplaceFault name (replacing.NotHeld cause) fault = IsHeldFault name cause fault
IsReplaceFault name (replacing.NotRead reading.NoMemory) fault = fault ≡ NoMemory
IsReplaceFault name (replacing.NotRead reading.CannotRead) fault = IsNotWritten name fault
IsReplaceFault name replacing.IsImage fault = (path : Bor (List ℕ)) × (fault ≡ NotReplaced path Image) × (path.now ≡ name)
IsReplaceFault name replacing.NotEmptied fault = IsNotWritten name fault

-- these bytes were written to a file, as far as it says that, or they were not
abbrev pub IsFilled : {F : Type 0} → List ℕ → (F → Option (List ℕ)) → List ℕ → F → Result Unit Fault → Type 0
IsFilled {F = F} name contents bytes file (Ok done) = (made : F) × Appends (contents file) (contents made) bytes
IsFilled name contents bytes file (Err fault) = IsNotWritten name fault

-- how the writing anew of a text with this name ended: its file was opened so, and these bytes were to be written; or it was not, and that is reported
abbrev pub IsWrittenAnew : {F : Type 0} → List ℕ → (Result F NotOpened → Type 0) → (F → Lock → Result Unit LockFault → Type 0)
    → (F → Option (List ℕ)) → (F → Result Unit FileFailed → F → Type 0) → (F → Option (List ℕ)) → List ℕ → Result Unit Fault → Type 0
IsWrittenAnew {F = F} name opens gives unread empties contents bytes ended = ((file : F) × IsReplaced opens gives unread empties (Ok file)
    × IsFilled name contents bytes file ended)
    ⊎ ((cause : ReplaceFault) × (fault : Fault) × IsReplaced opens gives unread empties (Err cause) × IsReplaceFault name cause fault × (ended ≡ Err fault))

-- the file of an image was opened as a store, and where it was not, that is reported so
abbrev pub IsOpenedAs : {F : Type 0} → (FileOpenFault → Fault → Type 0) → (Result F NotOpened → Type 0) → (F → Lock → Result Unit LockFault → Type 0)
    → (F → Option (List ℕ)) → Lock → Result (FileStoreValue (StdFile F)) Fault → Type 0
IsOpenedAs tells opens gives unread lock (Ok store) = IsOpened opens gives unread lock (Ok store)
IsOpenedAs {F = F} tells opens gives unread lock (Err fault) = (unopened : Unopened (StdFile F)) × IsOpened opens gives unread lock (Err unopened)
    × tells unopened.fault fault

-- the file of an image was made, and where it was not, that is reported so
abbrev pub IsCreatedAs : {F : Type 0} → (FileCreateFault → Fault → Type 0) → (Result F NotOpened → Type 0) → (F → Lock → Result Unit LockFault → Type 0)
    → (F → Result Unit FileFailed → F → Type 0) → (F → Option (List ℕ)) → (F → Result Unit FileFailed → F → Type 0) → ℕ
    → Result (FileStoreValue (StdFile F)) Fault → Type 0
IsCreatedAs tells opens gives empties contents flushes n (Ok store) = IsCreated opens gives empties contents flushes n (Ok store)
IsCreatedAs tells opens gives empties contents flushes n (Err fault) =
    (cause : FileCreateFault) × IsCreated opens gives empties contents flushes n (Err cause) × tells cause fault
