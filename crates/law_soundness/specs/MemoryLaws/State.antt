-- A memory whose heaps fit the packages that are linked, also while an applet is being installed.
use Rattle.std.specs.Prelude.{ℕ, ◌≡◌, ◌<◌, ◌≤◌, ◌+◌, ◌-◌, ◌==◌, ◌&&◌, ◌||◌, nat_lt, nat_le, Bool, true, false, length, if◌then◌else◌, Some, None, pos}
use Rattle.jc_words.specs.Layout.{registry_length}
use Rattle.jc_transient.specs.declared.cell.CellValue.{CellValue}
use Rattle.jc_transient.specs.declared.cell.CellValue.TheVariants.{Short, Reference}
use Rattle.jc_transient.specs.declared.cell.ClearEvent.{ClearEvent}
use Rattle.jc_transient.specs.State.{HasSizes, IsCleared, RamState, cell_at}
use Rattle.jc_environment.specs.Objects.{last_of}
use Rattle.jc_heap.specs.declared.object.Facts.{Facts}
use Rattle.jc_heap.specs.declared.object.Kind.TheVariants.{ReferenceArray}
use Rattle.jc_heap.specs.Heap.{HeapState, IsObject, area_sizes, cells, facts}
use Rattle.jc_heap.specs.HeapLaws.{AreConsistent}
use Rattle.jc_heap.specs.WholeHeap.{IsReference}
use Rattle.jc_transient.specs.declared.owner.AppletNumber.{AppletNumber}
use Rattle.jc_memory.specs.declared.registers.Installation.{Installation}
use Rattle.jc_memory.specs.declared.registers.Installation.TheVariants.{Idle, Open, Registered}
use Rattle.jc_memory.specs.declared.registers.Registers.{Registers}
use Rattle.jc_transient.specs.Owners.{owner_number}
use Rattle.jc_memory.specs.Registers.{at_reset}
use Rattle.jc_memory.specs.State.{MemoryState}
use Rattle.jc_linker.specs.Values.{Packages}
use Rattle.jc_linker.specs.Lookups.{statics_at}
use Rattle.jc_packages.specs.Objects.{HoldsValues, fits_class, is_instance, is_persistent_instance, is_object_address}
use Rattle.jc_packages.specs.Sound.{HasOwnAid, HoldsStatics, IsRegistered, IsSound, entry_word, package_record_at}

-- the runtime environment, an applet with a number up to this one, or a package
abbrev pub is_owner_up_to : ℕ → HeapState → ℕ → Bool
is_owner_up_to most h n = n == 0 || (nat_le n most || (nat_lt 256 n && nat_le (n - 256) (length h.packages)))

-- an object's class, its owner and what it holds are there; a persistent one has as many cells as it says, and an instance is persistent
pub record IsFitObject (most : ℕ) (p : Packages) (h : HeapState) (r : ℕ) : Type 0 where
  pub class : fits_class p (facts h r).kind (facts h r).class (facts h r).length ≡ true
  pub owner : is_owner_up_to most h (facts h r).owner ≡ true
  pub values : is_persistent_instance (facts h r) ≡ true → HoldsValues p h r
  pub cells : (facts h r).event ≡ None → length (cells h r) ≡ (facts h r).length
  pub small : is_instance (facts h r).kind ≡ true → (facts h r).length < 65536
  pub persistent : is_instance (facts h r).kind ≡ true → (facts h r).event ≡ None

-- the AID object of an applet is the runtime environment's, and none of the first ones
pub record IsOwnAid (h : HeapState) (own a : ℕ) : Type 0 where
  pub environments : (facts h (entry_word h a 0)).owner ≡ 0
  pub behind : own < entry_word h a 0

-- A heap that fits the packages, where applets up to a number may own objects: what is asked of it as a card powers up, and that
-- the AID objects of its applets are the runtime environment's
pub record IsSoundUpTo (most : ℕ) (p : Packages) (h : HeapState) (own : ℕ) : Type 0 where
  pub objects : (r : ℕ) → own < r → IsObject h r → IsFitObject most p h r
  pub statics : (k : ℕ) → k < length h.packages → HoldsStatics h (package_record_at h k) (statics_at p (k + 1))
  pub applets : (a : ℕ) → a < h.counts.1 → IsRegistered p h a
  pub distinct : (b : ℕ) → b < h.counts.1 → HasOwnAid h b
  pub aids : (a : ℕ) → a < h.counts.1 → IsOwnAid h own a

-- the address of the last object of the runtime environment's own
abbrev pub last_own : MemoryState → ℕ
last_own m = last_of m.fixed

-- an installation in which no instance is registered yet
abbrev pub is_open : Installation → Bool
is_open Idle = false
is_open (Open home entry) = true
is_open (Registered home) = false

-- the highest number of an applet that may own objects: while one is being installed, the next one's
abbrev pub most_in : Registers → MemoryState → ℕ
most_in g m = if is_open g.installation then m.heap.durable.counts.1 + 1 else m.heap.now.counts.1

abbrev pub most_owner : MemoryState → ℕ
most_owner m = most_in m.registers m

-- the highest number of an applet that may own a new object: the next one's only in the transaction of its installation
abbrev pub most_new : MemoryState → ℕ
most_new m = if m.heap.begun then most_owner m else m.heap.now.counts.1

-- the package of an applet that is being installed, and not registered yet, is there
abbrev pub is_home : HeapState → Installation → Bool
is_home h Idle = true
is_home h (Open home entry) = nat_lt 0 home.0 && nat_le home.0 (length h.packages)
is_home h (Registered home) = true

-- an applet that is registered
abbrev pub is_applet : HeapState → AppletNumber → Bool
is_applet h a = nat_lt 0 a.0 && nat_le a.0 h.counts.1

-- a reference among the values of transient cells is null or names an object
abbrev pub IsLivingValue : HeapState → CellValue → Type 0
IsLivingValue h (Short v) = Unit {0}
IsLivingValue h (Reference r) = IsReference h r

-- and so is an element of a transient array of references, or it is the zero that a reset leaves
abbrev pub IsLivingElement : HeapState → CellValue → Type 0
IsLivingElement h (Short v) = v ≡ pos 0
IsLivingElement h (Reference r) = IsReference h r

-- those of the array with these facts are so, in a heap with these transient contents
abbrev pub HasLivingElements : HeapState → RamState → Facts → Type 0
HasLivingElements h ram f = (event : ClearEvent) (i : ℕ) → f.kind ≡ ReferenceArray → f.event ≡ Some event → i < f.length
    → IsLivingElement h (cell_at ram event (f.place + i))

-- transient contents, which have the sizes that the heap's words say, keep no reference to what is gone, neither in any cell nor in an array of references
pub record TransientCells (h : HeapState) (ram : RamState) : Type 0 where
  pub sizes : HasSizes ram
  pub fits : ram.sizes ≡ area_sizes h
  pub values : (event : ClearEvent) (place : ℕ) → IsLivingValue h (cell_at ram event place)
  pub elements : (r : ℕ) → HasLivingElements h ram (facts h r)

-- the heap as it is and the one that a loss of power leaves fit the packages; outside a transaction they are one; none but an
-- installation adds an applet, of a package that is there; for whom code runs is there, and the applet that is selected; and among the runtime environment's
-- own objects, with which the heap begins, is no persistent instance; and transient cells keep no reference to what is gone
pub record IsSoundMemory (p : Packages) (m : MemoryState) : Type 0 where
  pub whole : AreConsistent m.heap
  pub registry : length m.heap.now.applets ≡ registry_length
  pub registry_kept : length m.heap.durable.applets ≡ registry_length
  pub now : IsSoundUpTo (most_owner m) p m.heap.now (last_own m)
  pub durable : IsSoundUpTo m.heap.durable.counts.1 p m.heap.durable (last_own m)
  pub settled : m.heap.begun ≡ false → m.heap.now ≡ m.heap.durable
  pub packages : m.heap.now.packages ≡ m.heap.durable.packages
  pub loaded : length m.heap.now.packages ≡ length p.loaded
  pub counts : is_open m.registers.installation ≡ false → m.heap.now.counts ≡ m.heap.durable.counts
  pub active : is_owner_up_to (most_owner m) m.heap.now (owner_number m.registers.active) ≡ true
  pub behind : last_own m < m.heap.durable.top
  pub own : (r : ℕ) → r ≤ last_own m → is_object_address m.heap.now r ≡ true → is_persistent_instance (facts m.heap.now r) ≡ false
  pub home : is_home m.heap.now m.registers.installation ≡ true
  pub selected : (a : AppletNumber) → m.registers.selected ≡ Some a → is_applet m.heap.durable a ≡ true
  pub transients : TransientCells m.heap.now m.ram

-- between two instructions no applet has been registered but not committed, and while one is being installed, its transaction is open
pub record IsSteady (m : MemoryState) : Type 0 where
  pub counts : m.heap.now.counts ≡ m.heap.durable.counts
  pub begun : is_open m.registers.installation ≡ true → m.heap.begun ≡ true

-- A loss of power leaves of a sound memory a heap that powers up again: what is asked of one then is so of it. And the memory of the
-- card that is powered up over it, after a reset, with transient contents of the sizes that its words say, is sound again
pub record OutlastsLosses : Type 0 where
  pub left : (p : Packages) (m : MemoryState) → IsSoundMemory p m → IsSound p m.heap.durable (last_own m)
  pub again : (p : Packages) (m n : MemoryState) → IsSoundMemory p m → n.heap.now ≡ m.heap.durable → n.heap.durable ≡ m.heap.durable → n.fixed ≡ m.fixed
      → n.registers ≡ at_reset → IsCleared n.ram → n.ram.sizes ≡ area_sizes n.heap.now → IsSoundMemory p n
