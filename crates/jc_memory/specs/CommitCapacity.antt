-- Room for calls of several changes, which ask for all of it before the first one.
use Rattle.std.specs.Prelude.{ℕ, ◌+◌, ◌≡◌, ◌<◌, ◌&&◌, Bool, false, not, nat_le, List, [], ◌∷◌, length}
use Rattle.jc_heap.specs.declared.place.Place.{Place}
use Rattle.jc_heap.specs.declared.place.AppletEntry.{AppletEntry}
use Rattle.jc_heap.specs.declared.touch.Touch.{Touch}
use Rattle.jc_heap.specs.declared.object.Kind.{Kind}
use Rattle.jc_heap.specs.declared.touch.Touch.TheVariants as touch
use Rattle.jc_heap.specs.Object.{object_size, has_bytes}
use Rattle.jc_heap.specs.declared.place.Place.TheVariants.{Cell}
use Rattle.jc_heap.specs.Heap.{HeapState, IsObject, cells, heap_item_at, limit, has_room_for}
use Rattle.jc_heap.specs.Moves.{SetPlaces, SetCells, applet_move}
use Rattle.jc_heap.specs.Touch.{touch_words}
use Rattle.jc_memory.specs.State.{MemoryState, HeapMove}
use Rattle.jc_memory.specs.Programs.{Program, Finish, Perform}

-- there is space for a new persistent object of a kind, with n cells
abbrev pub has_space : MemoryState → Kind → ℕ → Bool
has_space s kind cells = nat_le (s.heap.now.top + object_size kind cells) (limit s.heap)

-- a cell is there; of other places nothing is asked
abbrev pub IsThere : HeapState → Place → Type 0
IsThere h (Cell r i) = i < length (cells h r)
IsThere h _ = Unit {0}

-- these words stay where they are once an object of this kind is made: places that are there, and cells of the new object only
-- where each has a word of its own
abbrev pub StayPut : MemoryState → Kind → List Touch → Type 0
StayPut s kind [] = Unit {0}
StayPut s kind (touch.Place p ∷ ts) = IsThere s.heap.now p × StayPut s kind ts
StayPut s kind (touch.NewCell i ∷ ts) = (has_bytes kind ≡ false) × StayPut s kind ts
StayPut s kind (touch.HeapEnd ∷ ts) = StayPut s kind ts

-- the open transaction has no room for changes of these words
abbrev pub lacks_capacity : MemoryState → List Touch → Bool
lacks_capacity s touches = s.heap.begun && not (has_room_for s.heap (touch_words s.heap.now touches))

-- places set as one change
abbrev pub places_update : List (Place × ℕ) → Program (Unit {0})
places_update changes = Perform (HeapMove (SetPlaces changes)) (Finish tt)

-- cells of a persistent object set as one change
abbrev pub cells_update : ℕ → ℕ → List ℕ → Program (Unit {0})
cells_update r i words = Perform (HeapMove (SetCells r i words)) (Finish tt)

-- an applet registered
abbrev pub applet_registration : HeapState → AppletEntry → Program (Unit {0})
applet_registration h entry = Perform (HeapMove (applet_move h entry)) (Finish tt)

-- what was there is as it was
abbrev pub KeepsObjects : HeapState → HeapState → Type 0
KeepsObjects old new = (q : ℕ) → IsObject old q → heap_item_at new q ≡ heap_item_at old q

-- whether a transaction is open, and how many packages and applets there are, is as it was
pub record KeepsRest (s new : MemoryState) : Type 0 where
  pub begun : new.heap.begun ≡ s.heap.begun
  pub counts : new.heap.now.counts ≡ s.heap.now.counts
