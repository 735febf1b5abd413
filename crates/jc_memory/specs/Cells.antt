-- Cells of objects, wherever they are kept.
use Rattle.std.specs.Prelude.{ℕ, ℤ, ◌+◌, ◌%◌, ◌≡◌, ◌<◌, ◌≤◌, List, [], ◌∷◌, map, length, slice_index, Option, Some, None, if◌then◌else◌}
use Rattle.std.specs.List.{range_with_len}
use Rattle.std.specs.Int.{w16, cast_unsigned, cast_signed}
use Rattle.jc_transient.specs.declared.cell.CellValue.{CellValue}
use Rattle.jc_transient.specs.declared.cell.CellValue.TheVariants.{Short, Reference}
use Rattle.jc_transient.specs.declared.cell.ClearEvent.{ClearEvent}
use Rattle.jc_transient.specs.Cell.{number_of}
use Rattle.jc_transient.specs.State.{area_size, cell_at}
use Rattle.jc_heap.specs.declared.object.Facts.{Facts}
use Rattle.jc_heap.specs.declared.object.Kind.TheVariants.{ReferenceArray}
use Rattle.jc_heap.specs.declared.place.Place.TheVariants.{Cell}
use Rattle.jc_heap.specs.declared.refusal.HeapRefusal.{HeapRefusal}
use Rattle.jc_heap.specs.Object.{IsElement, is_object}
use Rattle.jc_heap.specs.Heap.{cells, facts, heap_item_at}
use Rattle.jc_heap.specs.WholeHeap.{IsReference}
use Rattle.jc_heap.specs.Moves.{Write, SetCells, refusal_of_places, refusal_of_cells}
use Rattle.jc_heap.specs.Completions.{Attempt, Done}
use Rattle.jc_memory.specs.State.{MemoryState, Effect, HeapMove, SetTransient}
use Rattle.jc_memory.specs.Programs.{Program, Finish, Perform, unless_refused}

-- a value as a word: a number modulo 2^16, or a reference
abbrev pub word_of : CellValue → ℕ
word_of (Short v) = cast_unsigned w16 v
word_of (Reference r) = r

-- the word of a cell of an object that is kept so
abbrev pub word_in : Option ClearEvent → MemoryState → ℕ → ℕ → ℕ
word_in None s r i = slice_index (cells s.heap.now r) i
word_in (Some event) s r i = word_of (cell_at s.ram event ((facts s.heap.now r).place + i))

-- the word of a cell, wherever it is kept
abbrev pub word_at : MemoryState → ℕ → ℕ → ℕ
word_at s r i = word_in (facts s.heap.now r).event s r i

-- the number in a cell
abbrev pub short_at : MemoryState → ℕ → ℕ → ℤ
short_at s r i = cast_signed w16 (word_at s r i)

-- the byte in a cell
abbrev pub byte_at : MemoryState → ℕ → ℕ → ℕ
byte_at s r i = word_at s r i % 256

-- n bytes of an object from an index on
abbrev pub bytes_at : MemoryState → ℕ → ℕ → ℕ → List ℕ
bytes_at s r i count = map (byte_at s r) (range_with_len i count)

-- n words of an object from an index on
abbrev pub words_at : MemoryState → ℕ → ℕ → ℕ → List ℕ
words_at s r i count = map (word_at s r) (range_with_len i count)

-- what setting a cell does to an object that is kept so
abbrev pub cell_effect_in : Option ClearEvent → ℕ → ℕ → CellValue → Effect
cell_effect_in None r i v = HeapMove (Write (Cell r i) (word_of v))
cell_effect_in (Some event) r i v = SetTransient r i (v ∷ [])

-- what setting a cell does
abbrev pub cell_effect : MemoryState → ℕ → ℕ → CellValue → Effect
cell_effect s r i v = cell_effect_in (facts s.heap.now r).event r i v

-- why cells of an object that is kept so can't be set: the transaction has no room; a transient one needs none
abbrev pub cell_refusal_in : Option ClearEvent → Option HeapRefusal → Option HeapRefusal
cell_refusal_in None reason = reason
cell_refusal_in (Some event) reason = None

-- why a cell can't be set
abbrev pub cell_refusal : MemoryState → ℕ → ℕ → Option HeapRefusal
cell_refusal s r i = cell_refusal_in (facts s.heap.now r).event (refusal_of_places s.heap (Cell r i ∷ []))

-- what setting a cell may do
abbrev pub cell_store : MemoryState → ℕ → ℕ → CellValue → Program (Attempt (Unit {0}))
cell_store s r i v = unless_refused (cell_refusal s r i) (Perform (cell_effect s r i v) (Finish (Done tt)))

-- what setting cells from an index on does, as one change
abbrev pub cells_effect_in : Option ClearEvent → ℕ → ℕ → List ℕ → Effect
cells_effect_in None r i words = HeapMove (SetCells r i words)
cells_effect_in (Some event) r i words = SetTransient r i (map number_of words)

abbrev pub cells_effect : MemoryState → ℕ → ℕ → List ℕ → Effect
cells_effect s r i words = cells_effect_in (facts s.heap.now r).event r i words

-- why they can't be set
abbrev pub cells_refusal : MemoryState → ℕ → ℕ → List ℕ → Option HeapRefusal
cells_refusal s r i words = cell_refusal_in (facts s.heap.now r).event (refusal_of_cells s.heap r i words)

-- what setting them may do
abbrev pub cells_store : MemoryState → ℕ → ℕ → List ℕ → Program (Attempt (Unit {0}))
cells_store s r i words = unless_refused (cells_refusal s r i words) (Perform (cells_effect s r i words) (Finish (Done tt)))

-- a value that the cells of an object may have: a byte in an array of bytes, a reference in an array of references
pub record MayHave (s : MemoryState) (r : ℕ) (v : CellValue) : Type 0 where
  pub element : IsElement (facts s.heap.now r).kind (word_of v)
  pub reference : (facts s.heap.now r).kind ≡ ReferenceArray → IsReference s.heap.now (word_of v)

-- numbers that the cells of an object may have: bytes in an array of bytes, and none in an array of references
pub record MayHaveAll (s : MemoryState) (r : ℕ) (words : List ℕ) : Type 0 where
  pub elements : (k : ℕ) → k < length words → IsElement (facts s.heap.now r).kind (slice_index words k)
  pub numbers : (facts s.heap.now r).kind ≡ ReferenceArray → ⊥

-- what the header of the object that a reference names says, if an object stands there
abbrev pub header_at : MemoryState → ℕ → Option Facts
header_at s r = if is_object (heap_item_at s.heap.now r) then Some (facts s.heap.now r) else None

-- what the header of an object says of its cells: a persistent one has as many, a transient one's lie within its area, whose places are words
pub record IsHeaderOf (s : MemoryState) (r : ℕ) (f : Facts) : Type 0 where
  pub is : f ≡ facts s.heap.now r
  pub persistent : f.event ≡ None → length (cells s.heap.now r) ≡ f.length
  pub transient : (event : ClearEvent) → f.event ≡ Some event → f.place + f.length ≤ area_size s.ram event
  pub small : (event : ClearEvent) → f.event ≡ Some event → f.place + f.length < 65536
