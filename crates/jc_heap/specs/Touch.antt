-- Words that changes touch.
use Rattle.std.specs.Prelude.{ℕ, ◌<◌, List, map}
use Rattle.std.specs.List.{range_with_len}
use Rattle.jc_heap.specs.declared.place.Place.{Place}
use Rattle.jc_heap.specs.declared.place.Place.TheVariants.{Cell}
use Rattle.jc_heap.specs.declared.touch.Touch.{Touch}
use Rattle.jc_heap.specs.declared.touch.Touch.TheVariants as touch
use Rattle.jc_heap.specs.Heap.{HeapState, HeapView, limit, cell_address, end_address}
use Rattle.jc_heap.specs.Place.{place_at, cells_from, HasPlace}

-- the address of a word that is touched
abbrev pub touch_word : HeapState → Touch → ℕ
touch_word h (touch.Place p) = place_at h p
touch_word h (touch.NewCell i) = cell_address h.top i
touch_word h touch.HeapEnd = end_address

-- the addresses of several
abbrev pub touch_words : HeapState → List Touch → List ℕ
touch_words h touches = map (touch_word h) touches

-- the heap has this word, or space for it
abbrev pub CanTouch : HeapView → Touch → Type 0
CanTouch v (touch.Place p) = HasPlace v.now p
CanTouch v (touch.NewCell i) = cell_address v.now.top i < limit v
CanTouch v touch.HeapEnd = Unit {0}

-- the words of these places
abbrev pub touched_places : List Place → List Touch
touched_places places = map (λ p. touch.Place p) places

-- n cells of an object, from an index on
abbrev pub touched_cells : ℕ → ℕ → ℕ → List Touch
touched_cells r i n = touched_places (cells_from r i n)

-- the first n cells of the object that the heap makes next
abbrev pub touched_new_cells : ℕ → List Touch
touched_new_cells n = map (λ i. touch.NewCell i) (range_with_len 0 n)

-- the same word once this reference names that object
abbrev pub once_made : ℕ → Touch → Touch
once_made r (touch.Place p) = touch.Place p
once_made r (touch.NewCell i) = touch.Place (Cell r i)
once_made r touch.HeapEnd = touch.HeapEnd
