-- What comes of making an image: the image, or why there is none and what is left of the store.
use Rattle.std.specs.Prelude.{ℕ, ◌≡◌, ◌≢◌, ◌<◌, ◌≤◌, ◌+◌, ◌⊎◌, Bool, true, false, List, Result, Ok, Err, length, slice_index, take}
use Rattle.jc_words.specs.Refusals.{Refusals, refused_once}
use Rattle.jc_words.specs.Layout.{front_length, magic_address, magic, least_size}
use Rattle.jc_words.specs.Image.{IsCapacity, heap_end}
use Rattle.jc_commit.specs.Image.{recovered_of}
use Rattle.jc_heap.specs.Heap.{heap_of}
use Rattle.jc_transient.specs.State.{AreSizes}
use Rattle.jc_image.specs.declared.laying.ImageRoom.{ImageRoom}
use Rattle.jc_image.specs.Laying.{first_free}
use Rattle.jc_environment.specs.Objects.{fixed_size}
use Rattle.jc_platform.specs.Tokens.{Tokens}
use Rattle.jc_platform.specs.Table.{Reads}
use Rattle.jc_platform.specs.declared.fault.TableFault.TheVariants.{BadTable as BadLine}
use Rattle.jc_card.specs.ProductImages.{IsMade, new_card_heap, new_front}
use Rattle.jc_card.specs.declared.formatting.FormatFault.{FormatFault}
use Rattle.jc_card.specs.declared.formatting.FormatFault.TheVariants.{StoreDown, BadSize, BadCapacity, BadCells, BadTable, TooSmall}

-- an image can have n words and this room, this text is this table, and it and the objects of the runtime environment fit below the
-- heap's end
pub record FitsImage (n : ℕ) (room : ImageRoom) (text : List ℕ) (t : Tokens) : Type 0 where
  pub enough : least_size ≤ n
  pub entries : IsCapacity room.capacity
  pub sizes : AreSizes room.cells room.buffer
  pub reads : Reads text (Ok t)
  pub space : first_free (length text) + fixed_size t ≤ heap_end n room.capacity

-- this text is a table, and the two and the objects of the runtime environment do not fit below the heap's end
abbrev pub IsTooSmall : ℕ → ImageRoom → List ℕ → Type 0
IsTooSmall n room text = (t : Tokens) × Reads text (Ok t) × (heap_end n room.capacity < first_free (length text) + fixed_size t)

-- why no image of n words is made, with this room, from this text, each cause before the next; a store refuses a write where there is
-- no other cause
abbrev pub FormatRefuses : FormatFault → ℕ → ImageRoom → List ℕ → Type 0
FormatRefuses BadSize n room text = n < least_size
FormatRefuses BadCapacity n room text = (least_size ≤ n) × (IsCapacity room.capacity → ⊥)
FormatRefuses BadCells n room text = (least_size ≤ n) × IsCapacity room.capacity × (AreSizes room.cells room.buffer → ⊥)
FormatRefuses (BadTable line) n room text = (least_size ≤ n) × IsCapacity room.capacity × AreSizes room.cells room.buffer
    × Reads text (Err (BadLine line))
FormatRefuses TooSmall n room text = (least_size ≤ n) × IsCapacity room.capacity × AreSizes room.cells room.buffer × IsTooSmall n room text
FormatRefuses StoreDown n room text = (t : Tokens) × FitsImage n room text t

-- the store is up, has refused no write, and holds a new image, made of the old one's words with this room, text and table
pub record HoldsNewImage {S : Type 0} (words : S → List ℕ) (down : S → Bool) (refusals : S → Refusals) (old : S) (room : ImageRoom) (text : List ℕ)
    (t : Tokens) (new : S) : Type 0 where
  pub made : IsMade (words new)
  pub heap : heap_of (recovered_of (words new)) ≡ new_card_heap (length (words old)) room text t
  pub front : take front_length (words new) ≡ new_front (length (words old)) room (length text) t
  pub size : length (words new) ≡ length (words old)
  pub is_up : down new ≡ false
  pub none_refused : refusals new ≡ refusals old

-- the store has refused a write, and holds no image but one that it held before
pub record IsStoppedFormat {S : Type 0} (words : S → List ℕ) (down : S → Bool) (passed : S → ℕ) (refusals : S → Refusals) (old new : S) : Type 0 where
  pub is_down : down new ≡ true
  pub one_refused : refusals new ≡ refused_once (down old) (passed new) (refusals old)
  pub size : length (words new) ≡ length (words old)
  pub unmarked : (words new ≡ words old) ⊎ (slice_index (words new) magic_address ≢ magic)

-- what is left of the store where no image was made: unless it refused a write, it is as it was
abbrev pub FormatLeaves : {S : Type 0} → (S → List ℕ) → (S → Bool) → (S → ℕ) → (S → Refusals) → S → FormatFault → S → Type 0
FormatLeaves words down passed refusals old BadSize new = new ≡ old
FormatLeaves words down passed refusals old BadCapacity new = new ≡ old
FormatLeaves words down passed refusals old BadCells new = new ≡ old
FormatLeaves words down passed refusals old (BadTable line) new = new ≡ old
FormatLeaves words down passed refusals old TooSmall new = new ≡ old
FormatLeaves words down passed refusals old StoreDown new = IsStoppedFormat words down passed refusals old new

-- what comes of making an image of a store, with this room and this text
abbrev pub Formats : {S : Type 0} → (S → List ℕ) → (S → Bool) → (S → ℕ) → (S → Refusals) → S → ImageRoom → List ℕ → S → Result (Unit {0}) FormatFault → Type 0
Formats words down passed refusals old room text new (Ok done) = (t : Tokens) × FitsImage (length (words old)) room text t
    × HoldsNewImage words down refusals old room text t new
Formats words down passed refusals old room text new (Err fault) =
    FormatRefuses fault (length (words old)) room text × FormatLeaves words down passed refusals old fault new
