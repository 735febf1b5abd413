-- The record of a PIN.
pub mod Checks
pub mod Resets
pub mod Updates
pub mod PinInit
use Rattle.std.specs.Prelude.{ℕ, ◌≡◌, ◌<◌, ◌≤◌, ◌==◌, ◌&&◌, Bool, true, false, nat_le, is_none, length, if◌then◌else◌, Option, Some, None}
use Rattle.jc_heap.specs.declared.object.Facts.{Facts}
use Rattle.jc_heap.specs.declared.object.Kind.{Kind}
use Rattle.jc_heap.specs.declared.object.Kind.TheVariants.{Instance, ByteArray}
use Rattle.jc_heap.specs.declared.place.Place.{Place}
use Rattle.jc_heap.specs.declared.place.Place.TheVariants.{Cell}
use Rattle.jc_heap.specs.Object.{kind_number}
use Rattle.jc_heap.specs.Heap.{cells, facts, IsObject}
use Rattle.jc_heap.specs.Moves.{WriteNonAtomic}
use Rattle.jc_memory.specs.State.{MemoryState, HeapMove}
use Rattle.jc_memory.specs.Programs.{Program, Perform}
use Rattle.jc_memory.specs.Cells.{word_at, header_at}
use Rattle.jc_environment.specs.declared.pins.pin.PinRecord.{PinRecord}

-- the cells of an OwnerPIN, in their order: how many tries there are after the value was given, how many bytes a value may have,
-- how many tries are left, how many bytes the value has, and the array that begins with it
abbrev pub limit_cell : ℕ
limit_cell = 0

abbrev pub maximum_cell : ℕ
maximum_cell = 1

abbrev pub counter_cell : ℕ
counter_cell = 2

abbrev pub length_cell : ℕ
length_cell = 3

abbrev pub value_cell : ℕ
value_cell = 4

abbrev pub cell_count : ℕ
cell_count = 5

-- the record: its cells in their order
abbrev pub record_of : MemoryState → ℕ → PinRecord
record_of s r = record {
  limit = word_at s r limit_cell;
  maximum = word_at s r maximum_cell;
  tries = word_at s r counter_cell;
  length = word_at s r length_cell;
  value = word_at s r value_cell;
}

-- where the counter of tries stands
abbrev pub counter : ℕ → Place
counter r = Cell r counter_cell

-- all tries are given back, which no abort takes away
abbrev pub tries_refill : {A : Type 0} → MemoryState → ℕ → Program A → Program A
tries_refill s r rest = Perform (HeapMove (WriteNonAtomic (counter r) (record_of s r).limit)) rest

-- a persistent object of this kind, with n cells
abbrev pub is_persistent_with : Kind → ℕ → Option Facts → Bool
is_persistent_with kind n None = false
is_persistent_with kind n (Some f) = kind_number f.kind == kind_number kind && (is_none f.event && nat_le n f.length)

-- what is so of one
pub record IsPersistentWith (s : MemoryState) (of : Kind) (n r : ℕ) : Type 0 where
  pub there : IsObject s.heap.now r
  pub kind : (facts s.heap.now r).kind ≡ of
  pub event : (facts s.heap.now r).event ≡ None
  pub cells : n ≤ length (cells s.heap.now r)
  pub declared : n ≤ (facts s.heap.now r).length

-- the value is no longer than the maximum, for which there is an array of bytes; there may be none where it is 0
abbrev pub has_value : MemoryState → PinRecord → Bool
has_value s p = nat_le p.length p.maximum && (if p.maximum == 0 then true else is_persistent_with ByteArray p.maximum (header_at s p.value))

-- the reference names a PIN: an instance with these cells, and its value
unfoldable pub is_pin : MemoryState → ℕ → Bool
is_pin s r = if is_persistent_with Instance cell_count (header_at s r) then has_value s (record_of s r) else false

-- what is so of a PIN
pub record IsPin (s : MemoryState) (r : ℕ) : Type 0 where
  pub itself : IsPersistentWith s Instance cell_count r
  pub long : word_at s r length_cell ≤ word_at s r maximum_cell
  pub value : 0 < word_at s r maximum_cell → IsPersistentWith s ByteArray (word_at s r maximum_cell) (word_at s r value_cell)
