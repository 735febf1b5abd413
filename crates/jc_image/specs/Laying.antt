-- An image without objects: the words that are written, and the heap that they stand for.
use Rattle.std.specs.Prelude.{ℕ, true, ◌+◌, ◌-◌, ◌/◌, ◌≡◌, ◌<◌, ◌≤◌, List, [], ◌∷◌, ◌++◌, take, drop, length, slice_index, replicate}
use Rattle.jc_words.specs.Count.{saturating_count}
use Rattle.jc_words.specs.Refusals.{Refusals, refused_once}
use Rattle.jc_words.specs.Layout.{front_length, registry_length, text_start, magic, version}
use Rattle.jc_words.specs.Image.{journal_start, heap_end}
use Rattle.jc_heap.specs.Packed.{packed_words}
use Rattle.jc_heap.specs.Heap.{HeapState, HeapView, heap_at_rest}
use Rattle.jc_image.specs.declared.laying.ImageRoom.{ImageRoom}

-- each is a byte
abbrev pub IsOfBytes : List ℕ → Type 0
IsOfBytes text = (k : ℕ) → slice_index text k < 256

-- the first free word over a table text of n bytes
abbrev pub first_free : ℕ → ℕ
first_free long = text_start + (long + 1) / 2

-- the words 0 to 15 of an image of n words without objects, that is to have this room: the magic word is not there yet
abbrev pub image_front : ℕ → ImageRoom → ℕ → List ℕ
image_front n room long = 0 ∷ version ∷ n ∷ 0 ∷ 0 ∷ first_free long ∷ 0 ∷ 0 ∷ 0 ∷ 0 ∷ long ∷ room.capacity
    ∷ journal_start n room.capacity ∷ room.cells ∷ room.buffer ∷ 0 ∷ []

-- the words 0 to 15 of an image that holds this heap, where no entry of the journal counts
abbrev pub first_words_of : HeapState → List ℕ
first_words_of h = h.head.0 ∷ version ∷ h.head.1 ∷ 0 ∷ slice_index h.lasting 0 ∷ h.top ∷ h.counts.0 ∷ h.counts.1 ∷ h.area_ends.0 ∷ h.area_ends.1
    ∷ length h.text ∷ h.capacity ∷ journal_start h.head.1 h.capacity ∷ slice_index h.lasting 1 ∷ slice_index h.lasting 2 ∷ slice_index h.lasting 3 ∷ []

-- the words below its top: these, no journal entry, no package, no applet, and the table text
unfoldable pub new_image_words : ℕ → ImageRoom → List ℕ → List ℕ
new_image_words n room text = image_front n room (length text) ++ replicate (text_start - front_length) 0 ++ packed_words text

-- the first k of these words are written over the old ones, from word 0 on
abbrev pub written_image_prefix : ℕ → ℕ → ImageRoom → List ℕ → List ℕ → List ℕ
written_image_prefix k n room text old = take k (new_image_words n room text) ++ drop k old

-- some of them are
abbrev pub IsPartlyWritten : ImageRoom → List ℕ → List ℕ → List ℕ → Type 0
IsPartlyWritten room text old new = (k : ℕ) × (k ≤ first_free (length text)) × (new ≡ written_image_prefix k (length old) room text old)

-- the heap without objects, of an image of n words that has no magic word yet
abbrev pub unsealed_heap : ℕ → ImageRoom → List ℕ → HeapState
unsealed_heap n room text = record {
  head = (0, n);
  text = text;
  items = [];
  counts = (0, 0);
  packages = [];
  applets = replicate registry_length 0;
  area_ends = (0, 0);
  top = first_free (length text);
  capacity = room.capacity;
  lasting = 0 ∷ room.cells ∷ room.buffer ∷ 0 ∷ [];
}

-- what the layers above see of it
abbrev pub unsealed_view : ℕ → ImageRoom → List ℕ → ℕ → Refusals → HeapView
unsealed_view n room text passed refusals = heap_at_rest (unsealed_heap n room text) passed refusals (heap_end n room.capacity)

-- the heap with the magic word in its image
abbrev pub sealed_heap : HeapState → HeapState
sealed_heap h = record h { head = (magic, h.head.1) }

-- what the layers above see of it: one more write has passed
abbrev pub sealed_view : HeapView → HeapView
sealed_view v = record v { now = sealed_heap v.now; durable = sealed_heap v.now; passed = saturating_count v.passed 1 }

-- the heap where the store refused that write
abbrev pub heap_after_refused_seal : HeapView → HeapView
heap_after_refused_seal v = record v { down = true; refusals = refused_once v.down v.passed v.refusals }
