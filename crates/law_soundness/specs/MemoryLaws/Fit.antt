-- Effects that leave a memory sound.
use Rattle.std.specs.Prelude.{ℕ, ◌≡◌, ◌<◌, ◌≤◌, ◌+◌, ◌⊎◌, true, false, List, [], ◌∷◌, length, slice_index, slice_index_or, pos, Some, None}
use Rattle.jc_transient.specs.declared.cell.CellValue.{CellValue}
use Rattle.jc_transient.specs.declared.cell.CellValue.TheVariants.{Short}
use Rattle.jc_words.specs.Layout.{most_applets}
use Rattle.jc_platform.specs.declared.names.PlatformClass.{PlatformClass}
use Rattle.jc_platform.specs.declared.names.PlatformClass.TheVariants.{Aid, Applet, OwnerPin}
use Rattle.jc_platform.specs.NamePlaces.{class_word}
use Rattle.jc_platform.specs.Hierarchy.{is_interface}
use Rattle.jc_heap.specs.declared.object.Kind.{Kind}
use Rattle.jc_heap.specs.declared.object.Kind.TheVariants.{ReferenceArray}
use Rattle.jc_heap.specs.declared.place.AppletEntry.{AppletEntry}
use Rattle.jc_heap.specs.declared.place.Place.{Place}
use Rattle.jc_heap.specs.declared.place.Place.TheVariants.{Cell, Static, Registry, AppletCount}
use Rattle.jc_heap.specs.Component.{record_of}
use Rattle.jc_heap.specs.Heap.{HeapState, LacksCells, cells, facts}
use Rattle.jc_heap.specs.Moves.{Move, Write, SetPlaces, WriteNonAtomic, SetCells, AddObject, AddTransient, AddPackage, Begin, Commit, Abort, new_move}
use Rattle.jc_heap.specs.Place.{applet_changes}
use Rattle.jc_heap.specs.Statics.{statics_of, IsStatic}
use Rattle.jc_transient.specs.declared.owner.AppletNumber.{AppletNumber}
use Rattle.jc_memory.specs.declared.registers.Registers.{Registers}
use Rattle.jc_transient.specs.Owners.{owner_number}
use Rattle.jc_memory.specs.State.{MemoryState, Effect, HeapMove, SetTransient, SetFlag, ClearTransient, SetRegisters, BeginCommand, SendBytes}
use Rattle.jc_memory.specs.State.{apply_effect}
use Rattle.jc_linker.specs.Classes.{reference_cell, is_a}
use Rattle.jc_linker.specs.Lookups.{statics_at}
use Rattle.jc_linker.specs.Values.{Packages}
use Rattle.jc_environment.specs.Pins.{record_of as pin_of, counter}
use Rattle.jc_environment.specs.Pins.PinInit.{first_record}
use Rattle.jc_environment.specs.Pins.Updates.{changes_of_update}
use Rattle.jc_packages.specs.Objects.{fits_class, is_byte_array, is_instance, is_persistent_instance, is_reference, is_object_address}
use Rattle.jc_packages.specs.Sound.{aid_in, aid_of_entry, entry_word, holds_aid}
use Rattle.jc_api_framework.specs.Aid.Cells.{cells_of_aid, is_aid_length}
use Rattle.law_code.specs.Bytes.{IsByteElement}
use Rattle.law_soundness.specs.MemoryLaws.State.{IsLivingElement, IsLivingValue, IsSoundMemory, is_applet, is_home, is_open, is_owner_up_to, last_own, most_in, most_new}

-- a value fits a cell of a persistent instance that is none of an AID and none of a PIN: a reference where one is kept
pub record FitsCell (p : Packages) (h : HeapState) (r i v : ℕ) : Type 0 where
  pub reference : reference_cell p (facts h r).class i ≡ true → is_reference h v ≡ true
  pub aid : is_a p (facts h r).class Aid ≡ true → 9 ≤ i
  pub pin : is_a p (facts h r).class OwnerPin ≡ true → 5 ≤ i

-- a value fits a word of a package's static image: a reference where the image begins with such
pub record FitsStatic (p : Packages) (h : HeapState) (r j v : ℕ) : Type 0 where
  pub there : IsStatic (record_of h r) j
  pub reference : (k begin : ℕ) → k < length h.packages → slice_index h.packages k ≡ r → statics_of (record_of h r) ≡ Some begin
      → j < begin + (statics_at p (k + 1)).1 → is_reference h v ≡ true

-- a value fits a cell of an object: a reference into an array of references
abbrev pub FitsValue : Packages → HeapState → ℕ → ℕ → ℕ → Type 0
FitsValue p h r i v = (is_persistent_instance (facts h r) ≡ true → FitsCell p h r i v) × ((facts h r).kind ≡ ReferenceArray → is_reference h v ≡ true)

-- the cells up to an end are those of a persistent object
abbrev pub AreCellsOf : HeapState → ℕ → ℕ → Type 0
AreCellsOf h r end = ((facts h r).event ≡ None) × (end ≤ (facts h r).length)

-- a value fits a place that is there, other than those of the registry
abbrev pub FitsPlace : Packages → HeapState → Place → ℕ → Type 0
FitsPlace p h (Cell r i) v = AreCellsOf h r (i + 1) × FitsValue p h r i v
FitsPlace p h (Static r j) v = FitsStatic p h r j v
FitsPlace p h (Registry i) v = ⊥
FitsPlace p h AppletCount v = ⊥

-- places of which each gets a value that fits
abbrev pub FitPlaces : Packages → HeapState → List (Place × ℕ) → Type 0
FitPlaces p h [] = Unit {0}
FitPlaces p h (c ∷ cs) = FitsPlace p h c.0 c.1 × FitPlaces p h cs

-- a persistent instance of OwnerPIN, or of a class below it, after the runtime environment's own objects
pub record IsPinObject (p : Packages) (m : MemoryState) (r : ℕ) : Type 0 where
  pub there : is_object_address m.heap.now r ≡ true
  pub behind : last_own m < r
  pub kept : is_persistent_instance (facts m.heap.now r) ≡ true
  pub pin : is_a p (facts m.heap.now r).class OwnerPin ≡ true
  pub aid : is_a p (facts m.heap.now r).class Aid ≡ false
  pub numbers : (k : ℕ) → k < 4 → reference_cell p (facts m.heap.now r).class k ≡ false
  pub long : 5 ≤ (facts m.heap.now r).length

-- the place is the counter of one
abbrev pub IsPinCounter : Packages → MemoryState → Place → Type 0
IsPinCounter p m place = (r : ℕ) × (place ≡ counter r) × IsPinObject p m r

-- these changes set a PIN up, with an array of bytes for its values
pub record SetsUpPin (p : Packages) (m : MemoryState) (changes : List (Place × ℕ)) : Type 0 where
  pub pin : ℕ
  pub limit : ℕ
  pub maximum : ℕ
  pub value : ℕ
  pub is : changes ≡ first_record pin limit maximum value
  pub object : IsPinObject p m pin
  pub array : is_object_address m.heap.now value ≡ true
  pub bytes : is_byte_array (facts m.heap.now value) maximum ≡ true
  pub some : 0 < value

-- these changes give a PIN another value, which is not longer than its maximum
pub record UpdatesPin (p : Packages) (m : MemoryState) (changes : List (Place × ℕ)) : Type 0 where
  pub pin : ℕ
  pub bytes : List ℕ
  pub is : changes ≡ changes_of_update (pin_of m pin) pin bytes
  pub object : IsPinObject p m pin
  pub short : length bytes ≤ (pin_of m pin).maximum

-- these changes register an applet, the one that is being installed: with an AID object of the runtime environment that no applet has,
-- a package that is there, and an instance of a class below Applet
pub record RegistersApplet (p : Packages) (m : MemoryState) (changes : List (Place × ℕ)) : Type 0 where
  pub entry : AppletEntry
  pub is : changes ≡ applet_changes m.heap.now entry
  pub few : m.heap.now.counts.1 < most_applets
  pub installing : is_open m.registers.installation ≡ true
  pub next : m.heap.now.counts.1 ≡ m.heap.durable.counts.1
  pub begun : m.heap.begun ≡ true
  pub aid : is_object_address m.heap.now entry.aid ≡ true
  pub holds : holds_aid p (facts m.heap.now entry.aid) (cells m.heap.now entry.aid) ≡ true
  pub environments : (facts m.heap.now entry.aid).owner ≡ 0
  pub behind : last_own m < entry.aid
  pub unlike : (a : ℕ) → a < m.heap.now.counts.1 → aid_of_entry m.heap.now a ≡ aid_in (cells m.heap.now entry.aid) → ⊥
  pub some : 0 < entry.«package»
  pub home : entry.«package» ≤ length m.heap.now.packages
  pub instance : is_object_address m.heap.now entry.instance ≡ true
  pub applet : is_instance (facts m.heap.now entry.instance).kind ≡ true
  pub class : is_a p (facts m.heap.now entry.instance).class Applet ≡ true

-- several places that are set as one change
pub data FitsChange (p : Packages) (m : MemoryState) (changes : List (Place × ℕ)) : Type 0 where
  OfPlaces : FitPlaces p m.heap.now changes → FitsChange p m changes
  OfPin : SetsUpPin p m changes → FitsChange p m changes
  OfValue : UpdatesPin p m changes → FitsChange p m changes
  OfRegistry : RegistersApplet p m changes → FitsChange p m changes

-- words set in an AID object that is no applet's: those of an AID
pub record SetsAid (p : Packages) (m : MemoryState) (r i : ℕ) (words : List ℕ) : Type 0 where
  pub bytes : List ℕ
  pub first : i ≡ 0
  pub is : words ≡ cells_of_aid bytes
  pub long : is_aid_length (length bytes) ≡ true
  pub numbers : (k : ℕ) → k < 9 → reference_cell p (facts m.heap.now r).class k ≡ false
  pub pin : is_a p (facts m.heap.now r).class OwnerPin ≡ false
  pub apart : (a : ℕ) → a < m.heap.now.counts.1 → entry_word m.heap.now a 0 ≡ r → ⊥

-- words set in an instance from a cell on, each of which fits
pub record SetsFields (p : Packages) (m : MemoryState) (r i : ℕ) (words : List ℕ) : Type 0 where
  pub fits : (k : ℕ) → k < length words → FitsCell p m.heap.now r (i + k) (slice_index words k)

-- cells set from an index on: of an array of numbers, of an AID object, or of an instance that is neither an AID's nor a PIN's
abbrev pub FitsRun : Packages → MemoryState → ℕ → ℕ → List ℕ → Type 0
FitsRun p m r i words = (is_persistent_instance (facts m.heap.now r) ≡ true → SetsAid p m r i words ⊎ SetsFields p m r i words)
    × ((facts m.heap.now r).kind ≡ ReferenceArray → ⊥)

-- values fit the cells of a transient object from an index on: they lie within it, and keep it one without references to what is gone
pub record FitsFill (m : MemoryState) (r i : ℕ) (values : List CellValue) : Type 0 where
  pub within : i + length values ≤ (facts m.heap.now r).length
  pub living : (k : ℕ) → k < length values → IsLivingValue m.heap.now (slice_index_or values k (Short (pos 0)))
  pub elements : (facts m.heap.now r).kind ≡ ReferenceArray → (k : ℕ) → k < length values
      → IsLivingElement m.heap.now (slice_index_or values k (Short (pos 0)))

-- a class of the platform, no interface
abbrev pub IsPlatformClass : Packages → ℕ → Type 0
IsPlatformClass p class = (of : PlatformClass) × (is_interface of ≡ false) × (class ≡ class_word p.platform of)

-- a new object has a class and an owner that are there; an instance of the runtime environment's is of a class of the platform
pub record FitsNew (p : Packages) (m : MemoryState) (kind : Kind) (class owner long : ℕ) : Type 0 where
  pub there : fits_class p kind class long ≡ true
  pub known : is_owner_up_to (most_new m) m.heap.now owner ≡ true
  pub small : is_instance kind ≡ true → long < 65536
  pub environments : is_instance kind ≡ true → owner ≡ 0 → IsPlatformClass p class

-- a new persistent one
pub record FitsObject (p : Packages) (m : MemoryState) (move : Move) : Type 0 where
  pub kind : Kind
  pub class : ℕ
  pub owner : ℕ
  pub long : ℕ
  pub is : move ≡ new_move kind class owner long
  pub fits : FitsNew p m kind class owner long

-- a move of the heap leaves it sound: a transaction begins where none is open, and ends where one is; during an installation it is
-- committed only as the instance has been registered
abbrev pub FitsMove : Packages → Move → MemoryState → Type 0
FitsMove p (Write place v) m = FitsPlace p m.heap.now place v
FitsMove p (SetPlaces changes) m = FitsChange p m changes
FitsMove p (WriteNonAtomic place v) m = IsPinCounter p m place ⊎ IsByteElement m.heap.now place
FitsMove p (SetCells r i words) m = AreCellsOf m.heap.now r (i + length words) × FitsRun p m r i words
FitsMove p (AddObject o size) m = FitsObject p m (AddObject o size)
FitsMove p (AddTransient kind event class owner long) m = FitsNew p m kind class owner long × (LacksCells m.heap.now event long → ⊥) × (is_instance kind ≡ false)
FitsMove p (AddPackage components arrays image) m = ⊥
FitsMove p Begin m = m.heap.begun ≡ false
FitsMove p Commit m = (m.heap.begun ≡ true) × (is_open m.registers.installation ≡ true → m.heap.now.counts.1 ≡ m.heap.durable.counts.1 + 1)
FitsMove p Abort m = m.heap.begun ≡ true

-- the registers are set: code runs for an owner that is there, an applet that is selected is there, and an installation, which is of a
-- package that is there, is left only with no transaction open; none begins
pub record FitsTurn (m : MemoryState) (g : Registers) : Type 0 where
  pub active : is_owner_up_to (most_in g m) m.heap.now (owner_number g.active) ≡ true
  pub leaves : is_open m.registers.installation ≡ true → is_open g.installation ≡ false → m.heap.begun ≡ false
  pub home : is_home m.heap.now g.installation ≡ true
  pub selected : (a : AppletNumber) → g.selected ≡ Some a → is_applet m.heap.durable a ≡ true
  pub opens : is_open g.installation ≡ true → is_open m.registers.installation ≡ true

-- an effect leaves a memory sound: what it sets fits
abbrev pub IsFit : Packages → Effect → MemoryState → Type 0
IsFit p (HeapMove move) m = FitsMove p move m
IsFit p (SetTransient r i values) m = FitsFill m r i values
IsFit p (SetFlag r flag) m = Unit {0}
IsFit p (ClearTransient event) m = Unit {0}
IsFit p (SetRegisters registers) m = FitsTurn m registers
IsFit p (BeginCommand bytes) m = Unit {0}
IsFit p (SendBytes bytes) m = Unit {0}

-- an effect that fits leaves a sound memory sound
abbrev pub KeepsSound : Type 0
KeepsSound = (p : Packages) (e : Effect) (m : MemoryState) → IsFit p e m → IsSoundMemory p m → IsSoundMemory p (apply_effect e m)
