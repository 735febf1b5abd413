-- Objects that references name.
use Rattle.std.specs.Prelude.{ℕ, ℤ, ◌==◌, ◌&&◌, Bool, true, false, List, slice_get, Option, Some, None, Result, Ok, Err, if◌then◌else◌}
use Rattle.std.specs.Option.{option_and_then}
use Rattle.jc_heap.specs.declared.object.Facts.{Facts}
use Rattle.jc_heap.specs.declared.object.Kind.{Kind}
use Rattle.jc_heap.specs.declared.object.Kind.TheVariants.{Instance, BooleanArray, ByteArray, ShortArray, ReferenceArray}
use Rattle.jc_memory.specs.State.{MemoryState}
use Rattle.jc_memory.specs.Cells.{header_at}
use Rattle.jc_linker.specs.Values.{Packages}
use Rattle.jc_linker.specs.Classes.{is_below}
use Rattle.jc_firewall.specs.declared.access.Access.TheVariants.{StoreReference}
use Rattle.jc_frames.specs.declared.cell.Cell.{Cell}
use Rattle.jc_frames.specs.declared.exceptions.Exception.TheVariants.{NullPointerException}
use Rattle.jc_frames.specs.declared.outcome.Outcome.TheVariants.{Fault}
use Rattle.jc_frames.specs.declared.outcome.FrameExit.{FrameExit}
use Rattle.jc_frames.specs.declared.outcome.FrameExit.TheVariants.{Throw, End}
use Rattle.jc_frames.specs.Cell.{as_short, as_reference}
use Rattle.jc_world.specs.Contexts.{firewall_check}

-- what is there, or a code fault
abbrev pub some_or_fault : {A : Type 0} → Option A → Result A FrameExit
some_or_fault None = Err (End Fault)
some_or_fault (Some a) = Ok a

-- it holds, or a code fault
abbrev pub check_or_fault : Bool → Result (Unit {0}) FrameExit
check_or_fault true = Ok tt
check_or_fault false = Err (End Fault)

-- the header of the object that a reference names: null throws, and a reference to nothing is a code fault
unfoldable pub object_at : MemoryState → ℕ → Result Facts FrameExit
object_at m r = if r == 0 then Err (Throw NullPointerException) else some_or_fault (header_at m r)

-- arrays have no class of their own
abbrev pub is_instance : Kind → Bool
is_instance Instance = true
is_instance BooleanArray = false
is_instance ByteArray = false
is_instance ShortArray = false
is_instance ReferenceArray = false

-- an instance of the class, of one below it, or of one that implements it
abbrev pub is_instance_of : Packages → Facts → ℕ → Bool
is_instance_of p f class = is_instance f.kind && is_below p f.class class

-- a reference may be stored: null, or what the firewall lets be kept
abbrev pub storable_in : Packages → MemoryState → Option Facts → Result (Unit {0}) FrameExit
storable_in p m None = Err (End Fault)
storable_in p m (Some f) = firewall_check StoreReference p m f

unfoldable pub storable_of : Packages → MemoryState → ℕ → Result (Unit {0}) FrameExit
storable_of p m r = if r == 0 then Ok tt else storable_in p m (header_at m r)

-- ---- arguments of a call

-- the short, or the reference, with a place among the arguments
abbrev pub short_argument : List Cell → ℕ → Option ℤ
short_argument args i = option_and_then as_short (slice_get args i)

abbrev pub reference_argument : List Cell → ℕ → Option ℕ
reference_argument args i = option_and_then as_reference (slice_get args i)
