-- Elements of arrays, as the code that runs may reach them.
use Rattle.std.specs.Prelude.{ℕ, ℤ, pos, negsuc, ◌==◌, nat_lt, not, Bool, true, false, Option, Some, None, Result, Ok, Err, if◌then◌else◌}
use Rattle.jc_transient.specs.declared.cell.CellValue.{CellValue}
use Rattle.jc_transient.specs.declared.cell.CellValue.TheVariants as kept
use Rattle.jc_heap.specs.declared.object.Facts.{Facts}
use Rattle.jc_heap.specs.declared.object.Kind.{Kind}
use Rattle.jc_heap.specs.declared.object.Kind.TheVariants.{BooleanArray, ByteArray, ShortArray, ReferenceArray}
use Rattle.jc_heap.specs.WholeHeap.{IsReference}
use Rattle.jc_frames.specs.declared.instr.ValueType.{ValueType}
use Rattle.jc_frames.specs.declared.instr.ValueType.TheVariants as types
use Rattle.jc_frames.specs.declared.exceptions.Exception.TheVariants.{ArrayIndexOutOfBoundsException, ArrayStoreException}
use Rattle.jc_frames.specs.declared.outcome.Outcome.TheVariants.{Fault}
use Rattle.jc_frames.specs.declared.outcome.FrameExit.{FrameExit}
use Rattle.jc_frames.specs.declared.outcome.FrameExit.TheVariants.{Throw, End}
use Rattle.jc_memory.specs.State.{MemoryState}
use Rattle.jc_memory.specs.Cells.{header_at}
use Rattle.jc_linker.specs.Values.{Packages}
use Rattle.jc_firewall.specs.declared.access.Access.TheVariants.{ArrayElement}
use Rattle.jc_world.specs.Contexts.{firewall_check}
use Rattle.jc_world.specs.Objects.{is_instance, object_at}
use Rattle.jc_world.specs.Types.{is_a}
use Rattle.jc_instructions.specs.declared.array_elements.Element.{Element}

-- an object whose elements are of this type: bytes and booleans are read and written alike
abbrev pub has_elements : ValueType → Kind → Bool
has_elements types.Reference ReferenceArray = true
has_elements types.Byte BooleanArray = true
has_elements types.Byte ByteArray = true
has_elements types.Short ShortArray = true
has_elements _ _ = false

-- it is an array with elements of this type, or any array where no type is named
abbrev pub is_array : Option ValueType → Kind → Bool
is_array None kind = not (is_instance kind)
is_array (Some of_type) kind = has_elements of_type kind

-- the header, where an access is allowed
abbrev pub header_if_allowed : Facts → Result (Unit {0}) FrameExit → Result Facts FrameExit
header_if_allowed f (Ok u) = Ok f
header_if_allowed f (Err e) = Err e

-- an array: an object that is none is a code fault, and the firewall may refuse the access
abbrev pub array_in : Option ValueType → Packages → MemoryState → Result Facts FrameExit → Result Facts FrameExit
array_in of_type p m (Err e) = Err e
array_in of_type p m (Ok f) = if is_array of_type f.kind then header_if_allowed f (firewall_check ArrayElement p m f) else Err (End Fault)

-- the array that a reference names, as the code that runs may reach it
unfoldable pub array_at : Option ValueType → Packages → MemoryState → ℕ → Result Facts FrameExit
array_at of_type p m r = array_in of_type p m (object_at m r)

-- the element of an array with an index
abbrev pub with_index : Facts → ℤ → Result Element FrameExit
with_index f (pos i) = if nat_lt i f.length then Ok (record { index = i; class = f.class }) else Err (Throw ArrayIndexOutOfBoundsException)
with_index f (negsuc i) = Err (Throw ArrayIndexOutOfBoundsException)

abbrev pub element_in : ℤ → Result Facts FrameExit → Result Element FrameExit
element_in i (Err e) = Err e
element_in i (Ok f) = with_index f i

-- the element with an index of the array that a reference names
unfoldable pub element_at : ValueType → Packages → MemoryState → ℕ → ℤ → Result Element FrameExit
element_at of_type p m r i = element_in i (array_at (Some of_type) p m r)

-- an object may be an element of an array of a class's instances; a reference to nothing is a code fault
abbrev pub assignable_in : Packages → ℕ → Option Facts → Result (Unit {0}) FrameExit
assignable_in p class None = Err (End Fault)
assignable_in p class (Some f) = if is_a p f class then Ok tt else Err (Throw ArrayStoreException)

-- and so may null
unfoldable pub assignable_or_null : Packages → MemoryState → ℕ → ℕ → Result (Unit {0}) FrameExit
assignable_or_null p m class r = if r == 0 then Ok tt else assignable_in p class (header_at m r)

abbrev pub element_if_assignable : CellValue → Result (Unit {0}) FrameExit → Result CellValue FrameExit
element_if_assignable value (Ok u) = Ok value
element_if_assignable value (Err e) = Err e

-- the value, where it may be an element of an array of a class's instances, or of numbers
unfoldable pub element_value : Packages → MemoryState → ℕ → CellValue → Result CellValue FrameExit
element_value p m class (kept.Short x) = Ok (kept.Short x)
element_value p m class (kept.Reference r) = element_if_assignable (kept.Reference r) (assignable_or_null p m class r)

-- a reference is one to something, or null
abbrev pub Refers : MemoryState → CellValue → Type 0
Refers m (kept.Short x) = Unit {0}
Refers m (kept.Reference r) = IsReference m.heap.now r
