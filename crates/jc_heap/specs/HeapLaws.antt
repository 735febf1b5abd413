-- What keeps a heap whole: every move that puts references where references have to be.
use Rattle.std.specs.Prelude.{ℕ, ◌≡◌, ◌<◌, ◌≤◌, List, [], ◌∷◌, length, slice_index, None, ◌+◌, ◌-◌, nat_le, ◌++◌, if◌then◌else◌}
use Rattle.jc_words.specs.Layout.{most_packages, most_applets, text_length_address}
use Rattle.jc_heap.specs.declared.object.Kind.TheVariants.{ReferenceArray}
use Rattle.jc_heap.specs.declared.place.Place.{Place}
use Rattle.jc_heap.specs.declared.place.Place.TheVariants.{Cell, Static, Registry, AppletCount}
use Rattle.jc_transient.specs.State.{AreSizes}
use Rattle.jc_heap.specs.Heap.{HeapState, HeapView, SameShape, buffer_word, cells_word, facts, HasEnd, LacksCells, head_of, heap_of}
use Rattle.jc_heap.specs.Package.{AreArrays}
use Rattle.jc_heap.specs.Moves.{Move, Write, SetPlaces, WriteNonAtomic, SetCells, AddObject, AddTransient, AddPackage, Begin, Commit, Abort, apply_move}
use Rattle.jc_heap.specs.Moves.{apply_moves, TornMovesLeave, writes_of}
use Rattle.jc_heap.specs.WholeHeap.{IsReference, IsConsistent}
use Rattle.jc_words.specs.Count.{saturating_count}
use Rattle.jc_commit.specs.Migration.{migrated}
use Rattle.jc_heap.specs.Image.{table_text, IsWellFormed}

-- a value that keeps the place what it is: in an array of references a reference
abbrev pub IsLegalValue : HeapState → Place → ℕ → Type 0
IsLegalValue h (Cell r i) v = (facts h r).kind ≡ ReferenceArray → IsReference h v
IsLegalValue h (Static r j) v = Unit {0}
IsLegalValue h (Registry i) v = Unit {0}
IsLegalValue h AppletCount v = v ≤ most_applets

-- each of these values keeps its place what it is
abbrev pub AreLegalValues : HeapState → List (Place × ℕ) → Type 0
AreLegalValues h [] = Unit {0}
AreLegalValues h (c ∷ cs) = IsLegalValue h c.0 c.1 × AreLegalValues h cs

-- what a move needs: references in an array of references, a header's word for a new object, cells that the
-- area of a transient one has, a place for a package and arrays that a package may have
abbrev pub MoveIsLegal : HeapView → Move → Type 0
MoveIsLegal v (Write p x) = IsLegalValue v.now p x
MoveIsLegal v (SetPlaces changes) = AreLegalValues v.now changes
MoveIsLegal v (WriteNonAtomic p x) = IsLegalValue v.now p x × IsLegalValue v.durable p x
MoveIsLegal v (SetCells r i xs) = (facts v.now r).kind ≡ ReferenceArray → (k : ℕ) → k < length xs → IsReference v.now (slice_index xs k)
MoveIsLegal v (AddObject o size) = (0 < size) × ((o.facts.event ≡ None) × ((o.facts.kind ≡ ReferenceArray → (i : ℕ) → i < length o.cells
    → IsReference v.now (slice_index o.cells i))))
MoveIsLegal v (AddTransient kind event class owner long) = LacksCells v.now event long → ⊥
MoveIsLegal v (AddPackage components arrays rest) = (v.now.counts.0 < most_packages) × AreArrays arrays
MoveIsLegal v Begin = Unit {0}
MoveIsLegal v Commit = Unit {0}
MoveIsLegal v Abort = Unit {0}

-- each of these moves has what it needs
abbrev pub MovesAreLegal : List Move → HeapView → Type 0
MovesAreLegal [] v = Unit {0}
MovesAreLegal (m ∷ ms) v = MoveIsLegal v m × MovesAreLegal ms (apply_move m v)

-- a whole heap, with nothing at or above its end, which is not null
pub record IsConsistentHeap (h : HeapState) : Type 0 where
  pub whole : IsConsistent h
  pub end : HasEnd h
  pub some : 0 < h.top

-- the heap as it is, and the one that a loss of power leaves: what stands in this one stands in the other, too
pub record AreConsistent (v : HeapView) : Type 0 where
  pub now : IsConsistentHeap v.now
  pub durable : IsConsistentHeap v.durable
  pub shape : SameShape v.durable v.now
  pub order : v.durable.top ≤ v.now.top

-- a heap in which nothing stands, and whose areas have sizes that they may have, is whole; moves that have what they need leave both heaps whole, and so does a
-- loss of power within them
pub record KeepsConsistent : Type 0 where
  pub empty : (h : HeapState) → h.items ≡ [] → h.counts ≡ (0, 0) → h.packages ≡ [] → h.area_ends ≡ (0, 0)
      → AreSizes (cells_word h) (buffer_word h) → 0 < h.top → IsConsistentHeap h
  pub moves : (ms : List Move) (v : HeapView) → MovesAreLegal ms v → AreConsistent v → AreConsistent (apply_moves ms v)
  pub loss : (ms : List Move) (v : HeapView) (passed : ℕ) (d : HeapState) → MovesAreLegal ms v → AreConsistent v → TornMovesLeave ms v passed d → IsConsistentHeap d

-- ---- what a loss of power leaves, by how many writes had passed

-- how many word writes these moves are
abbrev pub writes_of_moves : List Move → HeapView → ℕ
writes_of_moves [] h = 0
writes_of_moves (m ∷ ms) h = writes_of m h + writes_of_moves ms (apply_move m h)

-- the durable heap after the longest run of these moves whose writes are k in all or fewer
abbrev pub durable_behind : List Move → HeapView → ℕ → HeapState
durable_behind [] h k = h.durable
durable_behind (m ∷ ms) h k = if nat_le (writes_of m h) k then durable_behind ms (apply_move m h) (k - writes_of m h) else h.durable

-- these moves were cut when this number of writes had passed in all: k of their own, fewer than they are, and the durable heap is the one after
-- those that are complete by then
abbrev pub IsExactCut : List Move → HeapView → ℕ → HeapState → Type 0
IsExactCut ms h passed d = (k : ℕ) × (passed ≡ h.passed + k) × (k < writes_of_moves ms h) × (d ≡ durable_behind ms h k)

-- the durable heap is the one after some first moves of these
abbrev pub IsBehindFirst : List Move → HeapView → HeapState → Type 0
IsBehindFirst ms h d = (front rest : List Move) × (ms ≡ front ++ rest) × (d ≡ (apply_moves front h).durable)

-- a loss of power leaves the moves that are complete, exactly
pub record LeaveWhatIsComplete : Type 0 where
  -- a move lets as many writes pass as it is
  pub counts : (m : Move) (h : HeapView) → (apply_move m h).passed ≡ saturating_count h.passed (writes_of m h)
  -- where the count of writes is exact, a loss leaves the heap after those that are complete by count
  pub exact : (ms : List Move) (h : HeapView) (passed : ℕ) (d : HeapState) → passed < 18446744073709551615 → TornMovesLeave ms h passed d
      → IsExactCut ms h passed d
  -- that is the heap after some first moves
  pub first : (ms : List Move) (h : HeapView) (k : ℕ) → IsBehindFirst ms h (durable_behind ms h k)
  -- and moves that are complete stay, wherever what follows them is cut
  pub kept : (ms more : List Move) (h : HeapView) (k : ℕ)
      → IsBehindFirst more (apply_moves ms h) (durable_behind (ms ++ more) h (writes_of_moves ms h + k))

-- ---- words that stand for the same heap, whatever the version of their image is

-- both stand for one heap, have one table text, and each is well formed where the other is
pub record StandAlike (ws vs : List ℕ) : Type 0 where
  pub heap : heap_of vs ≡ heap_of ws
  pub text : table_text vs ≡ table_text ws
  pub text_length : slice_index vs text_length_address ≡ slice_index ws text_length_address
  pub size : length vs ≡ length ws
  pub head : head_of vs ≡ head_of ws
  pub laid : IsWellFormed ws → IsWellFormed vs
  pub back : IsWellFormed vs → IsWellFormed ws

-- however many writes of a migration pass, the words stand for the heap that they stood for
abbrev pub MigrationsKeepHeaps : Type 0
MigrationsKeepHeaps = (ws : List ℕ) (n : ℕ) → StandAlike ws (migrated n ws)
