-- Images that are whole, and the heap and the platform of one.
use Rattle.std.specs.Prelude.{ℕ, ◌≡◌, ◌≤◌, ◌<◌, false, List, Ok, length}
use Rattle.jc_words.specs.Layout.{text_start}
use Rattle.jc_commit.specs.Image.{IsGoodLog, recovered_of}
use Rattle.jc_commit.specs.Migration.{migrated}
use Rattle.jc_commit.specs.State.{State}
use Rattle.jc_heap.specs.Heap.{heap_of}
use Rattle.jc_heap.specs.Image.{IsWellFormed, table_text}
use Rattle.jc_heap.specs.WholeHeap.{IsConsistent}
use Rattle.jc_platform.specs.Table.{Reads}
use Rattle.jc_platform.specs.Tokens.{Tokens}
use Rattle.jc_packages.specs.declared.fault.ReadFault.{ReadFault}
use Rattle.jc_packages.specs.declared.fault.ReadFault.TheVariants.{NoMemory, Damaged}
use Rattle.jc_objects.specs.declared.image_objects.ImageObjects.{ImageObjects}

-- recovered words are records up to the top, which stand for a whole heap, and their table text is this platform's
pub record IsWhole (w : List ℕ) (t : Tokens) : Type 0 where
  pub formed : IsWellFormed w
  pub consistent : IsConsistent (heap_of w)
  pub table : Reads (table_text w) (Ok t)

-- these are the words of an image with this platform: its log is good, and it is whole once it is recovered
pub record IsImage (words : List ℕ) (t : Tokens) : Type 0 where
  pub good : IsGoodLog words
  pub whole : IsWhole (recovered_of words) t

-- the words of an image as they stand, those that a completed recovery leaves, perhaps migrated, and the platform of its table text
pub record AreObjectsOf (words : List ℕ) (o : ImageObjects) : Type 0 where
  pub stored : o.store.words ≡ words
  pub long : text_start ≤ length words
  pub image : IsImage words o.platform
  pub heap : heap_of o.recovered.plain ≡ heap_of (recovered_of words)
  pub formed : IsWellFormed o.recovered.plain

-- why words have no such objects: memory was refused, or they are no image
abbrev pub IsNoImage : List ℕ → ReadFault → Type 0
IsNoImage words NoMemory = Unit {0}
IsNoImage words Damaged = (t : Tokens) → IsImage words t → ⊥

-- nor of recovered words: memory was refused, or they are not whole
abbrev pub IsNotWhole : List ℕ → ReadFault → Type 0
IsNotWhole w NoMemory = Unit {0}
IsNotWhole w Damaged = (t : Tokens) → IsWhole w t → ⊥

-- an image of these words was recovered, and perhaps migrated
pub record IsOpenedImage (words : List ℕ) (image : State) : Type 0 where
  pub good : IsGoodLog words
  pub small : length words < 65536
  pub plain : image.plain ≡ migrated 3 (recovered_of words)
  pub up : image.down ≡ false

-- or the log of the words is bad
abbrev pub IsNotOpened : List ℕ → ReadFault → Type 0
IsNotOpened words NoMemory = ⊥
IsNotOpened words Damaged = IsGoodLog words → ⊥
