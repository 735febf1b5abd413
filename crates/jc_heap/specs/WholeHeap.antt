-- Whether a heap is whole: what its words say of one another holds.
use Rattle.std.specs.Prelude.{ℕ, ◌+◌, ◌≡◌, ◌≤◌, ◌<◌, ◌==◌, ◌⊎◌, Bool, true, List, [], ◌∷◌, ◌++◌, length, slice_index, if◌then◌else◌, Some}
use Rattle.jc_words.specs.Layout.{most_packages, most_applets}
use Rattle.jc_transient.specs.declared.cell.ClearEvent.{ClearEvent}
use Rattle.jc_transient.specs.State.{AreSizes}
use Rattle.jc_heap.specs.declared.object.Kind.TheVariants.{ReferenceArray}
use Rattle.jc_heap.specs.Object.{Item, facts_of, cells_of, event_number}
use Rattle.jc_heap.specs.Heap.{HeapState, area_end, area_limit, buffer_word, cells_word, heap_item_at, facts, is_allocated, IsObject}
use Rattle.jc_heap.specs.Component.{record_of}

-- the item is an object whose cells lie in the area of this event
abbrev pub lies_in : ClearEvent → Item → Bool
lies_in event t = event_number (facts_of t).event == event_number (Some event)

-- how many cells of an event's area an item has
abbrev pub cells_in : ClearEvent → Item → ℕ
cells_in event t = if lies_in event t then (facts_of t).length else 0

-- and these items have together
abbrev pub all_cells_in : ClearEvent → List (ℕ × Item) → ℕ
all_cells_in event [] = 0
all_cells_in event (e ∷ es) = cells_in event e.1 + all_cells_in event es

-- an item's cells in an event's area, where it has any, begin at this place and end within as many cells as the area has
pub record FitsAt (event : ClearEvent) (size place : ℕ) (t : Item) : Type 0 where
  pub begins : lies_in event t ≡ true → (facts_of t).place ≡ place
  pub ends : place + cells_in event t ≤ size

-- the objects of an event have the cells of its area: each begins where those before it end, the area ends where
-- they all end, and they have no more cells than there are
pub record IsFilledArea (h : HeapState) (event : ClearEvent) : Type 0 where
  pub places : (before after : List (ℕ × Item)) (r : ℕ) (t : Item) → h.items ≡ before ++ (r, t) ∷ after → lies_in event t ≡ true
      → (facts_of t).place ≡ all_cells_in event before
  pub end : area_end h event ≡ all_cells_in event h.items
  pub fits : area_end h event ≤ area_limit h event

-- null or an object
abbrev pub IsReference : HeapState → ℕ → Type 0
IsReference h v = (v ≡ 0) ⊎ IsObject h v

-- the cells of a persistent array of references are references
abbrev pub HoldsReferences : HeapState → Item → Type 0
HoldsReferences h t = (facts_of t).kind ≡ ReferenceArray → (i : ℕ) → i < length (cells_of t) → IsReference h (slice_index (cells_of t) i)

-- at each of these addresses something stands
abbrev pub AreAllocated : HeapState → List ℕ → Type 0
AreAllocated h addresses = (k : ℕ) → k < length addresses → is_allocated h (slice_index addresses k) ≡ true

-- at each of these addresses stands a package's record with its two words at least: its length, and the 0 after its components
abbrev pub AreRecords : HeapState → List ℕ → Type 0
AreRecords h addresses = (k : ℕ) → k < length addresses → 2 ≤ length (record_of h (slice_index addresses k))

-- none of these addresses is repeated
abbrev pub AreDistinct : List ℕ → Type 0
AreDistinct addresses = (j k : ℕ) → j < k → k < length addresses → slice_index addresses j ≡ slice_index addresses k → ⊥

-- what a heap's words say of one another: there are places for the packages and the applets, the packages'
-- addresses are those of their records, which have their words, references are references, the areas have sizes that they may have, and the
-- transient objects have their cells
pub record IsConsistent (h : HeapState) : Type 0 where
  pub few_packages : h.counts.0 ≤ most_packages
  pub few_applets : h.counts.1 ≤ most_applets
  pub met : AreAllocated h h.packages
  pub records : AreRecords h h.packages
  pub distinct : AreDistinct h.packages
  pub references : (r : ℕ) → HoldsReferences h (heap_item_at h r)
  pub sizes : AreSizes (cells_word h) (buffer_word h)
  pub areas : (event : ClearEvent) → IsFilledArea h event

-- in a whole heap a transient object's cells lie below the end of its event's area, and no two objects share one
pub record OwnsCells (h : HeapState) : Type 0 where
  pub below : (r : ℕ) (event : ClearEvent) → (facts h r).event ≡ Some event → (facts h r).place + (facts h r).length ≤ area_end h event
  pub apart : (r q : ℕ) (event : ClearEvent) → (r ≡ q → ⊥) → (facts h r).event ≡ Some event → (facts h q).event ≡ Some event →
      ((facts h r).place + (facts h r).length ≤ (facts h q).place) ⊎ ((facts h q).place + (facts h q).length ≤ (facts h r).place)
