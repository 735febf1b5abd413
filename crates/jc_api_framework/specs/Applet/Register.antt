-- An applet is registered.
use Rattle.std.specs.Prelude.{ℕ, ◌+◌, ◌==◌, nat_lt, is_some, Bool, true, false, List, ◌∷◌, ◌++◌, if◌then◌else◌, Option, Some, None, Result, Ok, Err}
use Rattle.jc_words.specs.Layout.{most_applets}
use Rattle.jc_heap.specs.declared.object.Facts.{Facts}
use Rattle.jc_heap.specs.declared.object.Kind.TheVariants.{Instance}
use Rattle.jc_heap.specs.declared.place.AppletEntry.{AppletEntry}
use Rattle.jc_heap.specs.declared.touch.Touch.{Touch}
use Rattle.jc_heap.specs.declared.touch.Touch.TheVariants.{HeapEnd}
use Rattle.jc_heap.specs.Moves.{Commit}
use Rattle.jc_heap.specs.Place.{applet_places}
use Rattle.jc_heap.specs.Touch.{touched_new_cells, touched_places}
use Rattle.jc_frames.specs.Reasons.{buffer_full, illegal_aid, in_progress, no_resource}
use Rattle.jc_frames.specs.declared.outcome.FrameExit.{FrameExit}
use Rattle.jc_frames.specs.declared.outcome.FrameExit.TheVariants.{Throw}
use Rattle.jc_memory.specs.declared.making.NewObject.{NewObject}
use Rattle.jc_memory.specs.declared.registers.Depth.{Depth}
use Rattle.jc_memory.specs.declared.registers.Depth.TheVariants.{Outside, Inside}
use Rattle.jc_memory.specs.declared.registers.Installation.{Installation}
use Rattle.jc_memory.specs.declared.registers.Installation.TheVariants.{Idle, Open, Registered}
use Rattle.jc_transient.specs.declared.owner.Owner.TheVariants.{Runtime}
use Rattle.jc_transient.specs.declared.owner.PackageNumber.{PackageNumber}
use Rattle.jc_memory.specs.declared.registers.Registers.{Registers}
use Rattle.jc_memory.specs.State.{MemoryState, HeapMove, SetRegisters}
use Rattle.jc_memory.specs.Programs.{Program, Finish, Perform, bind}
use Rattle.jc_memory.specs.Making.{object_creation}
use Rattle.jc_memory.specs.Cells.{header_at}
use Rattle.jc_platform.specs.declared.names.PlatformClass.TheVariants.{Aid}
use Rattle.jc_platform.specs.NamePlaces.{class_word}
use Rattle.jc_linker.specs.Values.{Packages}
use Rattle.jc_environment.specs.Registry.{applet_with_aid}
use Rattle.jc_memory.specs.CommitCapacity.{has_space, lacks_capacity, applet_registration, cells_update}
use Rattle.jc_world.specs.declared.native_result.NativeResult.TheVariants.{ReturnVoid}
use Rattle.jc_world.specs.NativeCalls.{NativeProgram, return_value, if_ok}
use Rattle.jc_api_framework.specs.Aid.Cells.{cells_of_aid}

-- the package of the applet that is being installed, while its install has not registered an instance yet
abbrev pub open_installation : Installation → Option PackageNumber
open_installation Idle = None
open_installation (Open p entry) = Some p
open_installation (Registered p) = None

-- in the transaction of its installation
abbrev pub installation_in_transaction : MemoryState → Option PackageNumber
installation_in_transaction m = if m.heap.begun then open_installation m.registers.installation else None

-- the number that the applet gets
abbrev pub next_number : MemoryState → ℕ
next_number m = m.heap.now.counts.1 + 1

-- the applet that is being installed owns the instance
abbrev pub is_owned : ℕ → Option Facts → Bool
is_owned n None = false
is_owned n (Some f) = f.owner == n

-- there is no applet with this AID, a place for one more, and the instance is its own
abbrev pub may_be_added : MemoryState → List ℕ → ℕ → Bool
may_be_added m aid instance =
    if is_some (applet_with_aid m aid) then false else (if nat_lt m.heap.now.counts.1 most_applets then is_owned (next_number m)
    (header_at m instance) else false)

-- the applet has begun a transaction of its own
abbrev pub is_inside : Depth → Bool
is_inside Outside = false
is_inside Inside = true

-- how many cells an AID object has
abbrev pub aid_cells : ℕ
aid_cells = 9

-- the words of the entry that is added after this many applets, and the number of applets
abbrev pub touched_by_entry : ℕ → List Touch
touched_by_entry applets = touched_places (applet_places applets)

-- the words that are changed, where this many applets are there before: the heap's end, the new AID's cells, and those of the entry
abbrev pub touched_by_registration : ℕ → List Touch
touched_by_registration applets = HeapEnd ∷ (touched_new_cells aid_cells ++ touched_by_entry applets)

-- there is space and room for all of it
abbrev pub unless_full : MemoryState → PackageNumber → Result PackageNumber FrameExit
unless_full m p =
    if has_space m Instance aid_cells then (if lacks_capacity m (touched_by_registration m.heap.now.counts.1) then Err (Throw buffer_full) else Ok p) else Err
    (Throw no_resource)

-- the applet may be registered, in this package; else what throws
abbrev pub registration_package_in : MemoryState → List ℕ → ℕ → Option PackageNumber → Result PackageNumber FrameExit
registration_package_in m aid instance None = Err (Throw illegal_aid)
registration_package_in m aid instance (Some p) =
    if may_be_added m aid instance then (if is_inside m.registers.depth then Err (Throw in_progress) else unless_full m p) else Err (Throw illegal_aid)

unfoldable pub registration_package : MemoryState → List ℕ → ℕ → Result PackageNumber FrameExit
registration_package m aid instance = registration_package_in m aid instance (installation_in_transaction m)

-- an AID object of the runtime environment
abbrev pub aid_object : Packages → NewObject
aid_object p = record { kind = Instance; event = None; class = class_word p.platform Aid; owner = Runtime; length = aid_cells }

-- it is made, and its cells are set
unfoldable pub aid_object_creation : Packages → List ℕ → MemoryState → Program ℕ
aid_object_creation p aid m = bind (object_creation (aid_object p) Finish) m (λ r v. bind (cells_update r 0 (cells_of_aid aid)) v (λ u w. Finish r))

-- the entry and the number of applets are set as one change, the installation's transaction ends, and an instance is registered
abbrev pub with_installation : MemoryState → Installation → Registers
with_installation m i = record m.registers { installation = i }

unfoldable pub registry_entry : AppletEntry → PackageNumber → MemoryState → Program (Unit {0})
registry_entry entry p m = bind (applet_registration m.heap.now entry) m (λ u v. Perform (HeapMove Commit)
    (Perform (SetRegisters (with_installation v (Registered p))) (Finish tt)))

-- register: first all is asked that may refuse it
unfoldable pub registration : List ℕ → ℕ → Packages → MemoryState → NativeProgram
registration aid instance p m = if_ok (registration_package m aid instance) (λ k. bind (aid_object_creation p aid m) m (λ r v.
    bind (registry_entry (record { aid = r; «package» = k.0; instance = instance }) k v) v (λ u w. return_value ReturnVoid)))
