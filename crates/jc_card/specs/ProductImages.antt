-- The images that the product makes.
use Rattle.std.specs.Prelude.{ℕ, ◌+◌, ◌≡◌, ◌≤◌, List, [], ◌∷◌, length, Ok}
use Rattle.jc_words.specs.Layout.{least_size, magic, version}
use Rattle.jc_words.specs.Image.{journal_start}
use Rattle.jc_commit.specs.Image.{IsGoodLog, recovered_of}
use Rattle.jc_transient.specs.State.{buffer_told}
use Rattle.jc_heap.specs.Image.{IsWellFormed}
use Rattle.jc_heap.specs.Heap.{HeapState, heap_of}
use Rattle.jc_heap.specs.WholeHeap.{IsConsistent}
use Rattle.jc_image.specs.declared.laying.ImageRoom.{ImageRoom}
use Rattle.jc_image.specs.Laying.{first_free, unsealed_heap, sealed_heap}
use Rattle.jc_platform.specs.Tokens.{Tokens}
use Rattle.jc_platform.specs.Table.{Reads}
use Rattle.jc_card.specs.Fixed.{BeginsWithFixed, with_objects}
use Rattle.jc_environment.specs.declared.objects.FixedObject.{FixedObject}
use Rattle.jc_environment.specs.Objects.{cells_of_all, fixed_size, sized_objects}
use Rattle.jc_card.specs.PowerUp.{HasPackages}

-- a heap that begins with the objects of the runtime environment, whose classes its own table names, and that fits its packages
abbrev pub HasPlatform : HeapState → Type 0
HasPlatform h = (t : Tokens) × Reads h.text (Ok t) × BeginsWithFixed t h × HasPackages t h

-- the heap of a card with an image of n words
pub record IsCardHeap (n : ℕ) (h : HeapState) : Type 0 where
  pub head : h.head ≡ (magic, n)
  pub enough : least_size ≤ n
  pub platform : HasPlatform h
  pub whole : IsConsistent h

-- words that the product makes: a recovery leaves the heap of a card
pub record IsMade (w : List ℕ) : Type 0 where
  pub log : IsGoodLog w
  pub laid : IsWellFormed (recovered_of w)
  pub heap : IsCardHeap (length w) (heap_of (recovered_of w))

-- the objects of the runtime environment in an image that is to have this room
abbrev pub objects_in : ImageRoom → Tokens → List FixedObject
objects_in room t = sized_objects t (buffer_told room.buffer)

-- the heap of a new image of n words, that is to have this room
abbrev pub new_card_heap : ℕ → ImageRoom → List ℕ → Tokens → HeapState
new_card_heap n room text t = sealed_heap (with_objects t (unsealed_heap n room text) (objects_in room t))

-- the first sixteen words of a new image of n words, that is to have this room, whose table text has this many bytes, and whose table this is
abbrev pub new_front : ℕ → ImageRoom → ℕ → Tokens → List ℕ
new_front n room long t = magic ∷ version ∷ n ∷ 0 ∷ 0 ∷ (first_free long + fixed_size t) ∷ 0 ∷ 0 ∷ cells_of_all (objects_in room t) ∷ 0 ∷ long
    ∷ room.capacity ∷ journal_start n room.capacity ∷ room.cells ∷ room.buffer ∷ 0 ∷ []
