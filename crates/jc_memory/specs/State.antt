-- What running code sees and changes, and what is done to it, as data.
use Rattle.std.specs.Prelude.{ℕ, ◌+◌, ◌≡◌, Bool, false, List, [], ◌∷◌, ◌++◌, map, pos, replicate, slice_set, Option, Some, None}
use Rattle.jc_transient.specs.declared.cell.CellValue.{CellValue}
use Rattle.jc_transient.specs.declared.cell.CellValue.TheVariants.{Short, Reference}
use Rattle.jc_transient.specs.declared.cell.ClearEvent.{ClearEvent}
use Rattle.jc_transient.specs.Cell.{default_value, without_dead}
use Rattle.jc_transient.specs.State.{RamState, HasSizes, area, with_area, with_cells}
use Rattle.jc_heap.specs.declared.object.Kind.{Kind}
use Rattle.jc_heap.specs.declared.object.Kind.TheVariants.{ReferenceArray}
use Rattle.jc_heap.specs.Heap.{HeapState, HeapView, area_end, area_sizes, facts, is_allocated}
use Rattle.jc_heap.specs.HeapLaws.{AreConsistent}
use Rattle.jc_heap.specs.Moves.{Move, AddObject, AddTransient, Abort, apply_move}
use Rattle.jc_memory.specs.declared.registers.Registers.{Registers}

-- the heap; the transient contents; the objects with which the heap begins, in their order; for whom code runs;
-- the bytes of the command that is carried out; the bytes that were sent in answer to it
pub record MemoryState : Type 0 where
  pub heap : HeapView
  pub ram : RamState
  pub fixed : List ℕ
  pub registers : Registers
  pub command : List ℕ
  pub sent : List ℕ

-- one thing done to a memory: a move of its heap, with what that does to transient contents; the cells of a transient
-- object set from an index on; an object's flag set; the transient objects of an event cleared; the registers set; a
-- command begun; bytes sent
pub data Effect : Type 0 where
  HeapMove : Move → Effect
  SetTransient : ℕ → ℕ → List CellValue → Effect
  SetFlag : ℕ → Bool → Effect
  ClearTransient : ClearEvent → Effect
  SetRegisters : Registers → Effect
  BeginCommand : List ℕ → Effect
  SendBytes : List ℕ → Effect

-- these values stand in an event's area from a place on; there is no area for persistent objects
abbrev pub ram_after_set : RamState → Option ClearEvent → ℕ → List CellValue → RamState
ram_after_set ram None place values = ram
ram_after_set ram (Some event) place values = with_area ram event (with_cells (area ram event) place values)

-- each reference to something at or above the top is null
abbrev pub ram_without_dead : ℕ → RamState → RamState
ram_without_dead top ram = record ram { reset_cells = map (without_dead top) ram.reset_cells; deselect_cells = map (without_dead top) ram.deselect_cells }

-- the flag of what stands at this address is not set
abbrev pub ram_unflagged : ℕ → RamState → RamState
ram_unflagged r ram = record ram { flags = slice_set ram.flags r false }

-- zero, or null
abbrev pub zero_of : Kind → CellValue
zero_of ReferenceArray = Reference 0
zero_of _ = Short (pos 0)

-- what a move of the heap does to transient contents: an abort makes references to what it takes away null; a new
-- object's flag is not set, and a new transient object's cells are zero or null
abbrev pub ram_after_move : Move → HeapView → RamState → RamState
ram_after_move Abort v ram = ram_without_dead v.durable.top ram
ram_after_move (AddObject o size) v ram = ram_unflagged v.now.top ram
ram_after_move (AddTransient kind event class owner long) v ram =
    ram_unflagged v.now.top (ram_after_set ram (Some event) (area_end v.now event) (replicate long (zero_of kind)))
ram_after_move move v ram = ram

-- the memory after an effect
abbrev pub apply_effect : Effect → MemoryState → MemoryState
apply_effect (HeapMove m) s = record s { heap = apply_move m s.heap; ram = ram_after_move m s.heap s.ram }
apply_effect (SetTransient r i values) s = record s { ram = ram_after_set s.ram (facts s.heap.now r).event ((facts s.heap.now r).place + i) values }
apply_effect (SetFlag r flag) s = record s { ram = record s.ram { flags = slice_set s.ram.flags r flag } }
apply_effect (ClearTransient event) s = record s { ram = with_area s.ram event (map default_value (area s.ram event)) }
apply_effect (SetRegisters registers) s = record s { registers = registers }
apply_effect (BeginCommand bytes) s = record s { command = bytes; sent = [] }
apply_effect (SendBytes bytes) s = record s { sent = s.sent ++ bytes }

-- the memory after these effects
abbrev pub apply_effects : List Effect → MemoryState → MemoryState
apply_effects [] s = s
apply_effects (e ∷ es) s = apply_effects es (apply_effect e s)

-- the moves of the heap among these effects
abbrev pub moves_of : List Effect → List Move
moves_of [] = []
moves_of (HeapMove m ∷ es) = m ∷ moves_of es
moves_of (e ∷ es) = moves_of es

-- a reference that the next new object may have: nothing stands there, and it is not null. A move puts a new
-- object at the heap's end, so it is the end's
pub record IsNew (h : HeapState) (r : ℕ) : Type 0 where
  pub free : is_allocated h r ≡ false
  pub some : r ≡ 0 → ⊥
  pub chosen : r ≡ h.top

-- what the parts of each memory meet: while its store is up the heap is whole, now and after a loss of power, and the contents have the
-- sizes that its words say; the lists of the contents have their sizes
pub record IsConsistentMemory (v : HeapView) (contents : RamState) : Type 0 where
  pub heap : v.down ≡ false → AreConsistent v
  pub ram : HasSizes contents
  pub sizes : v.down ≡ false → contents.sizes ≡ area_sizes v.now
