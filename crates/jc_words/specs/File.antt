-- Words in the bytes of a file.
use Rattle.std.specs.Prelude.{◌≡◌, ℕ, ◌<◌, ◌≤◌, ◌+◌, ◌*◌, ◌/◌, ◌%◌, ◌⊎◌, List, [], ◌∷◌, length, take, slice_index, slice_set, replicate, Option, IfSome, None, Some}
use Rattle.std.specs.Prelude.{MatchResult, Result, Ok, Err, false}
use Rattle.std.specs.Io.KnownBytes.{Appends}
use Rattle.jc_words.specs.Count.{saturating_count}
use Rattle.jc_words.specs.Store.{FileStoreValue}
use Rattle.jc_words.specs.declared.word_file.FileReadFault.{FileReadFault}
use Rattle.jc_words.specs.declared.word_file.FileReadFault.TheVariants.{CannotRead as ReadFails, NoMemory as NoBytes}
use Rattle.jc_words.specs.declared.file.FileOpenFault.{FileOpenFault}
use Rattle.jc_words.specs.declared.file.FileOpenFault.TheVariants.{CannotOpen, InUse, CannotRead, BadSize, NoMemory}
use Rattle.jc_words.specs.declared.file.FileCreateFault.{FileCreateFault}
use Rattle.jc_words.specs.declared.file.FileCreateFault.TheVariants.{NotHeld, NotWritten}
use Rattle.jc_words.specs.declared.file.FileLockFault.{FileLockFault}
use Rattle.jc_words.specs.declared.file.FileLockFault.TheVariants.{NotOpened, NotLocked}
use Rattle.jc_words.specs.declared.file.Unopened.{Unopened}
use Rattle.jc_words.specs.declared.lock.Lock.{Lock}
use Rattle.jc_words.specs.declared.lock.Lock.TheVariants.{Exclusive}
use Rattle.jc_words.specs.declared.lock.LockFault.{LockFault}
use Rattle.jc_words.specs.declared.lock.LockFault.TheVariants.{InUse as LockedByAnother, CannotLock}
use Rattle.jc_words.specs.declared.opening.NotOpened.{NotOpened as OpenFailed}
use Rattle.jc_words.specs.declared.word_file.FileFailed.{FileFailed}
use Rattle.jc_words.specs.declared.word_file.StdFile.{StdFile}
use Rattle.jc_words.specs.declared.replacing.ReplaceFault.{ReplaceFault}
use Rattle.jc_words.specs.declared.replacing.ReplaceFault.TheVariants.{NotHeld as HeldByNone, NotRead, IsImage, NotEmptied}

-- each word is two bytes, the high one first
pub record AreWordsOf (bytes words : List ℕ) : Type 0 where
  pub size : length bytes ≡ 2 * length words
  pub each : (i : ℕ) → i < length words → slice_index words i ≡ 256 * slice_index bytes (2 * i) + slice_index bytes (2 * i + 1)

-- a file of n bytes can hold an image: 4,096 to 65,535 words of two bytes
pub record IsImageSize (n : ℕ) : Type 0 where
  pub even : n % 2 ≡ 0
  pub low : 8192 ≤ n
  pub high : n ≤ 131070

-- no more bytes of a file are read: one more than the largest image has
abbrev pub most_bytes : ℕ
most_bytes = 131071

-- the bytes with word i set
abbrev pub with_word : ℕ → ℕ → List ℕ → List ℕ
with_word i v bytes = slice_set (slice_set bytes (2 * i) (v / 256)) (2 * i + 1) (v % 256)

-- as many bytes, and those beside word i are the same
pub record SameBeside (i : ℕ) (old new : List ℕ) : Type 0 where
  pub size : length new ≡ length old
  pub each : (k : ℕ) → (k < 2 * i ⊎ 2 * i + 1 < k) → slice_index new k ≡ slice_index old k

-- word i was written to known bytes that have it, and no other byte changed; where that failed, word i may have
abbrev pub PutsWord : {E : Type 0} → ℕ → ℕ → Result Unit E → Option (List ℕ) → Option (List ℕ) → Type 0
PutsWord i v result old new = IfSome old (λ bytes. 2 * i + 1 < length bytes
    → MatchResult result (λ _. new ≡ Some (with_word i v bytes)) (λ _. (left : List ℕ) × (new ≡ Some left) × SameBeside i bytes left))

-- why a file was not read, what a reading gives before and after that, and how many of its calls have failed: a call failed; or there
-- was no memory for what would be read, and it was left alone
abbrev pub RefusesReading : FileReadFault → Option (List ℕ) → Option (List ℕ) → ℕ → ℕ → Type 0
RefusesReading ReadFails unread left before after = after ≡ saturating_count before 1
RefusesReading NoBytes unread left before after = (left ≡ unread) × (after ≡ before)

-- a new store over a file: its words are those of the bytes that a reading gives, and the file is as it was
pub record IsOver {F : Type 0} (unread bytes : F → Option (List ℕ)) (failures : F → ℕ) (file : F) (store : FileStoreValue F) : Type 0 where
  pub words : IfSome (unread file) (λ known. AreWordsOf known store.words)
  pub size : IsImageSize (2 * length store.words)
  pub kept : bytes store.file ≡ bytes file
  pub none_failed : failures store.file ≡ failures file
  pub fresh : store ≡ record { file = store.file; words = store.words; held = None; down = false; passed = 0; refused = 0; faults = 0 }

-- the bytes, where they are known, are not as many as an image has
abbrev pub IsOfBadSize : Option (List ℕ) → Type 0
IsOfBadSize unread = IfSome unread (λ known. IsImageSize (length known) → ⊥)

-- the bytes, where they are known, are as many as an image has
abbrev pub IsOfGoodSize : Option (List ℕ) → Type 0
IsOfGoodSize unread = IfSome unread (λ known. IsImageSize (length known))

-- why a file is no store, what a reading gives before and after that, and how many of its calls have failed: a call failed; or none
-- did, and the size is bad; or none did, and there was no memory, be it for what would be read or for the words of an image
abbrev pub RefusesFile : FileOpenFault → Option (List ℕ) → Option (List ℕ) → ℕ → ℕ → Type 0
RefusesFile CannotOpen unread left before after = ⊥
RefusesFile InUse unread left before after = ⊥
RefusesFile CannotRead unread left before after = after ≡ saturating_count before 1
RefusesFile BadSize unread left before after = IsOfBadSize unread × (after ≡ before)
RefusesFile NoMemory unread left before after = ((left ≡ unread) ⊎ IsOfGoodSize unread) × (after ≡ before)

-- how the opening and locking of a file ended: it is the one that was opened, and it was locked so; or none was opened; or one was, and
-- it was not locked for this cause
abbrev pub IsLocked : {F : Type 0} → (Result F OpenFailed → Type 0) → (F → Lock → Result Unit LockFault → Type 0) → Lock
    → Result F FileLockFault → Type 0
IsLocked opens gives lock (Ok file) = opens (Ok file) × gives file lock (Ok tt)
IsLocked opens gives lock (Err NotOpened) = opens (Err (record {}))
IsLocked {F = F} opens gives lock (Err (NotLocked fault)) = (file : F) × opens (Ok file) × gives file lock (Err fault)

-- the same as the fault of the opening of a store
abbrev pub open_fault_of : FileLockFault → FileOpenFault
open_fault_of NotOpened = CannotOpen
open_fault_of (NotLocked LockedByAnother) = InUse
open_fault_of (NotLocked CannotLock) = CannotOpen

-- a locked file was refused so, and is given back
abbrev pub IsGivenBack : {F : Type 0} → (F → Option (List ℕ)) → F → FileOpenFault → Option (StdFile F) → Type 0
IsGivenBack unread file fault (Some left) = RefusesFile fault (unread file) (unread left.inner) 0 left.failures
IsGivenBack unread file fault None = ⊥

-- how the opening of a store over a locked file ended: it was read; or it was refused
abbrev pub IsStoreOver : {F : Type 0} → (F → Option (List ℕ)) → F → Result (FileStoreValue (StdFile F)) (Unopened (StdFile F)) → Type 0
IsStoreOver unread file (Ok store) =
    IsOver (λ f. unread f.inner) (λ f. None) (λ f. f.failures) (record { inner = file; failures = 0 }) store
IsStoreOver unread file (Err unopened) = IsGivenBack unread file unopened.fault unopened.file

-- how the opening of a store ended: a file was opened and locked so, and then read; or it was refused, and is given back; or none was
-- opened and locked, and the fault is that of it
abbrev pub IsOpened : {F : Type 0} → (Result F OpenFailed → Type 0) → (F → Lock → Result Unit LockFault → Type 0) → (F → Option (List ℕ)) → Lock
    → Result (FileStoreValue (StdFile F)) (Unopened (StdFile F)) → Type 0
IsOpened {F = F} opens gives unread lock result = ((file : F) × IsLocked opens gives lock (Ok file) × IsStoreOver unread file result)
    ⊎ ((cause : FileLockFault) × IsLocked opens gives lock (Err cause) × (result ≡ Err (record { fault = open_fault_of cause; file = None })))

-- how the writing anew of a file ended: it was emptied, then these bytes were written, as far as it says that, and then it was flushed;
-- or it was to be emptied
abbrev pub IsRewritten : {F : Type 0} → (F → Result Unit FileFailed → F → Type 0) → (F → Option (List ℕ)) → (F → Result Unit FileFailed → F → Type 0)
    → List ℕ → F → Result F FileFailed → Type 0
IsRewritten {F = F} empties contents flushes bytes file (Ok made) = (empty written : F) × empties file (Ok tt) empty
    × Appends (contents empty) (contents written) bytes × flushes written (Ok tt) made
IsRewritten {F = F} empties contents flushes bytes file (Err failed) = (answer : Result Unit FileFailed) × (left : F) × empties file answer left

-- how the making of a file of these bytes ended: it was opened and locked, and then written anew, or could not be; or none was opened and
-- locked
abbrev pub IsMadeOf : {F : Type 0} → (Result F OpenFailed → Type 0) → (F → Lock → Result Unit LockFault → Type 0)
    → (F → Result Unit FileFailed → F → Type 0) → (F → Option (List ℕ)) → (F → Result Unit FileFailed → F → Type 0) → List ℕ
    → Result F FileCreateFault → Type 0
IsMadeOf {F = F} opens gives empties contents flushes bytes (Ok made) = (file : F) × IsLocked opens gives Exclusive (Ok file)
    × IsRewritten empties contents flushes bytes file (Ok made)
IsMadeOf {F = F} opens gives empties contents flushes bytes (Err NotWritten) = (file : F) × IsLocked opens gives Exclusive (Ok file)
    × IsRewritten empties contents flushes bytes file (Err (record {}))
IsMadeOf opens gives empties contents flushes bytes (Err (NotHeld cause)) = IsLocked opens gives Exclusive (Err cause)

-- how the making of a file of n zero words ended: it was made of the bytes of n zero words, or not made
abbrev pub IsCreated : {F : Type 0} → (Result F OpenFailed → Type 0) → (F → Lock → Result Unit LockFault → Type 0)
    → (F → Result Unit FileFailed → F → Type 0) → (F → Option (List ℕ)) → (F → Result Unit FileFailed → F → Type 0) → ℕ
    → Result (FileStoreValue (StdFile F)) FileCreateFault → Type 0
IsCreated opens gives empties contents flushes n (Ok store) =
    (store ≡ record { file = record { inner = store.file.inner; failures = 0 }; words = replicate n 0; held = None; down = false; passed = 0; refused = 0; faults = 0 })
    × IsMadeOf opens gives empties contents flushes (replicate (2 * n) 0) (Ok store.file.inner)
IsCreated opens gives empties contents flushes n (Err fault) = IsMadeOf opens gives empties contents flushes (replicate (2 * n) 0) (Err fault)

-- ---- files that are written anew

-- the bytes with which each image begins: the magic word, and the high byte of a version. No text has the third
abbrev pub image_head : List ℕ
image_head = 0x4A ∷ 0x43 ∷ 0 ∷ []

-- these bytes begin as an image's
abbrev pub BeginsAsImage : List ℕ → Type 0
BeginsAsImage bytes = take 3 bytes ≡ image_head

-- how the emptying of a locked file ended: it did not begin as an image and was emptied, or was to be; or it did, and was left
abbrev pub IsEmptied : {F : Type 0} → (F → Option (List ℕ)) → (F → Result Unit FileFailed → F → Type 0) → F → Result F ReplaceFault → Type 0
IsEmptied {F = F} unread empties file (Ok empty) = IfSome (unread file) (λ known. BeginsAsImage known → ⊥) × (read : F) × empties read (Ok tt) empty
IsEmptied {F = F} unread empties file (Err NotEmptied) = IfSome (unread file) (λ known. BeginsAsImage known → ⊥)
    × (read left : F) × empties read (Err (record {})) left
IsEmptied unread empties file (Err IsImage) = IfSome (unread file) BeginsAsImage
IsEmptied unread empties file (Err (NotRead fault)) = Unit {0}
IsEmptied unread empties file (Err (HeldByNone cause)) = ⊥

-- how the opening of a file to write it anew ended: one was opened and locked so that no other has it, and then emptied or refused; or
-- none was opened and locked
abbrev pub IsReplaced : {F : Type 0} → (Result F OpenFailed → Type 0) → (F → Lock → Result Unit LockFault → Type 0) → (F → Option (List ℕ))
    → (F → Result Unit FileFailed → F → Type 0) → Result F ReplaceFault → Type 0
IsReplaced opens gives unread empties (Err (HeldByNone cause)) = IsLocked opens gives Exclusive (Err cause)
IsReplaced {F = F} opens gives unread empties result = (file : F) × IsLocked opens gives Exclusive (Ok file) × IsEmptied unread empties file result
