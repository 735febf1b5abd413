-- Effects that leave an object as it is.
use Rattle.std.specs.Prelude.{ℕ, ◌+◌, ◌≡◌, ◌<◌, ◌≤◌, ◌⊎◌, false, List, [], ◌∷◌, length, None}
use Rattle.jc_words.specs.Layout.{most_applets, registry_length}
use Rattle.jc_transient.specs.State.{HasSizes}
use Rattle.jc_heap.specs.declared.place.AppletEntry.{AppletEntry}
use Rattle.jc_heap.specs.declared.place.Place.{Place}
use Rattle.jc_heap.specs.declared.place.Place.TheVariants.{Cell, Static, Registry, AppletCount}
use Rattle.jc_heap.specs.Heap.{area_sizes, facts, is_allocated}
use Rattle.jc_heap.specs.Moves.{Move, Write, SetPlaces, WriteNonAtomic, SetCells, AddObject, AddTransient, AddPackage, Begin, Commit, Abort}
use Rattle.jc_heap.specs.Place.{applet_changes}
use Rattle.jc_heap.specs.WholeHeap.{IsConsistent}
use Rattle.jc_memory.specs.State.{MemoryState, Effect, HeapMove, SetTransient, SetFlag, ClearTransient, SetRegisters, BeginCommand, SendBytes}
use Rattle.jc_memory.specs.State.{apply_effects}
use Rattle.jc_memory.specs.Reading.{AllEffectsDue}
use Rattle.jc_linker.specs.Values.{Packages}
use Rattle.jc_world.specs.Contexts.{installed_package}
use Rattle.law_code.specs.Reach.{IsOutside, KeepsCells}

-- the place is no cell of the object, and none of the registry
abbrev pub IsBeside : ℕ → Place → Type 0
IsBeside q (Cell r i) = r ≡ q → ⊥
IsBeside q (Static r j) = Unit {0}
IsBeside q (Registry i) = ⊥
IsBeside q AppletCount = ⊥

abbrev pub AreBeside : ℕ → List (Place × ℕ) → Type 0
AreBeside q [] = Unit {0}
AreBeside q (c ∷ cs) = IsBeside q c.0 × AreBeside q cs

-- these changes register an applet of the package that is being installed
pub record IsRegistration (changes : List (Place × ℕ)) (m : MemoryState) : Type 0 where
  pub entry : AppletEntry
  pub is : changes ≡ applet_changes m.heap.now entry
  pub few : m.heap.now.counts.1 < most_applets
  pub home : entry.package ≡ installed_package m.registers.installation

-- a move of the heap leaves the object as it is: cells are set of others, and what is new gets a new place
abbrev pub MoveLeavesObject : ℕ → Move → MemoryState → Type 0
MoveLeavesObject q (Write place v) m = IsBeside q place
MoveLeavesObject q (SetPlaces changes) m = AreBeside q changes ⊎ IsRegistration changes m
MoveLeavesObject q (WriteNonAtomic place v) m = IsBeside q place
MoveLeavesObject q (SetCells r i words) m = r ≡ q → ⊥
MoveLeavesObject q (AddObject o size) m = (o.facts.event ≡ None) × (is_allocated m.heap.now m.heap.now.top ≡ false)
MoveLeavesObject q (AddTransient kind event class owner long) m = is_allocated m.heap.now m.heap.now.top ≡ false
MoveLeavesObject q (AddPackage components arrays image) m = ⊥
MoveLeavesObject q Begin m = Unit {0}
MoveLeavesObject q Commit m = Unit {0}
MoveLeavesObject q Abort m = Unit {0}

-- an effect sets no cell of the object and not its flag: transient cells are set of another object, and within it. (What takes back or
-- clears cells of all objects is left to `IsQuiet`.)
abbrev pub LeavesObject : ℕ → Effect → MemoryState → Type 0
LeavesObject q (HeapMove move) m = MoveLeavesObject q move m
LeavesObject q (SetTransient r i values) m = (r ≡ q → ⊥) × (i + length values ≤ (facts m.heap.now r).length)
LeavesObject q (SetFlag r flag) m = r ≡ q → ⊥
LeavesObject q (ClearTransient event) m = Unit {0}
LeavesObject q (SetRegisters registers) m = Unit {0}
LeavesObject q (BeginCommand bytes) m = Unit {0}
LeavesObject q (SendBytes bytes) m = Unit {0}

-- an effect neither takes back nor clears cells, and code goes on running for the same owner, in the same installation if in any
abbrev pub IsQuiet : Effect → MemoryState → Type 0
IsQuiet (HeapMove Abort) m = ⊥
IsQuiet (HeapMove move) m = Unit {0}
IsQuiet (SetTransient r i values) m = Unit {0}
IsQuiet (SetFlag r flag) m = Unit {0}
IsQuiet (ClearTransient event) m = ⊥
IsQuiet (SetRegisters registers) m = (registers.active ≡ m.registers.active) × (installed_package registers.installation
    ≡ installed_package m.registers.installation)
IsQuiet (BeginCommand bytes) m = ⊥
IsQuiet (SendBytes bytes) m = Unit {0}

abbrev pub AreQuiet : List Effect → MemoryState → Type 0
AreQuiet es m = AllEffectsDue IsQuiet es m

-- what is so of each memory of a card that is up: its heap is whole, the registry has its words, and the areas have the sizes that its words
-- say
pub record IsSet (m : MemoryState) : Type 0 where
  pub whole : IsConsistent m.heap.now
  pub applets : length m.heap.now.applets ≡ registry_length
  pub sizes : HasSizes m.ram
  pub fits : m.ram.sizes ≡ area_sizes m.heap.now

-- quiet effects that spare an object outside reach leave its cells and its flag as they are, and it outside reach
abbrev pub LeaveObjects : Type 0
LeaveObjects = (p : Packages) (m : MemoryState) (q : ℕ) (es : List Effect) → IsSet m → IsOutside p m q → AllEffectsDue (LeavesObject q) es m → AreQuiet es m
    → KeepsCells q m (apply_effects es m) × IsOutside p (apply_effects es m) q
