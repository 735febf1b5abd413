-- What code that runs for an applet reaches: the objects of its context, the global arrays, and what is the environment's.
use Rattle.std.specs.Prelude.{ℕ, ◌+◌, ◌≡◌, ◌<◌, slice_index, Some}
use Rattle.jc_transient.specs.declared.cell.ClearEvent.{ClearEvent}
use Rattle.jc_transient.specs.State.{cell_at, flag_of}
use Rattle.jc_heap.specs.Heap.{IsObject, facts, heap_item_at}
use Rattle.jc_memory.specs.State.{MemoryState}
use Rattle.jc_linker.specs.Values.{Packages}
use Rattle.jc_firewall.specs.FirewallLaws.{IsInReach}
use Rattle.jc_world.specs.Contexts.{situation_of}

-- one of the objects with which the heap begins: an exception of the runtime environment, whose cell is its reason, or the APDU buffer
abbrev pub IsEnvironmentObject : MemoryState → ℕ → Type 0
IsEnvironmentObject m q = (k : ℕ) × (q ≡ slice_index m.fixed k)

-- an object outside the reach of the code that runs: an applet's context is active, which does not own the object, and this is
-- neither a global array nor the environment's
pub record IsOutside (p : Packages) (m : MemoryState) (q : ℕ) : Type 0 where
  pub there : IsObject m.heap.now q
  pub apart : IsInReach (situation_of p m (facts m.heap.now q)) → ⊥
  pub others : IsEnvironmentObject m q → ⊥

-- an object keeps its header, its cells, wherever they are kept, and its flag
pub record KeepsCells (q : ℕ) (old new : MemoryState) : Type 0 where
  pub item : heap_item_at new.heap.now q ≡ heap_item_at old.heap.now q
  pub cells : (event : ClearEvent) → (facts old.heap.now q).event ≡ Some event → (i : ℕ) → i < (facts old.heap.now q).length →
      cell_at new.ram event ((facts old.heap.now q).place + i) ≡ cell_at old.ram event ((facts old.heap.now q).place + i)
  pub flag : flag_of new.ram q ≡ flag_of old.ram q
