-- Arrays of bytes as arguments, and their elements.
use Rattle.std.specs.Prelude.{ℕ, ℤ, ◌+◌, ◌≡◌, ◌≤◌, ◌<◌, ◌==◌, nat_le, if◌then◌else◌, List, Option, Some, None, Result, Ok, Err}
use Rattle.jc_heap.specs.declared.object.Facts.{Facts}
use Rattle.jc_heap.specs.declared.object.Kind.{Kind}
use Rattle.jc_heap.specs.declared.object.Kind.TheVariants.{Instance, BooleanArray, ByteArray, ShortArray, ReferenceArray}
use Rattle.jc_heap.specs.Heap.{IsObject, facts}
use Rattle.jc_memory.specs.State.{MemoryState}
use Rattle.jc_memory.specs.Cells.{bytes_at, header_at}
use Rattle.jc_linker.specs.Values.{Packages}
use Rattle.jc_firewall.specs.declared.access.Access.TheVariants.{ArrayElement}
use Rattle.jc_frames.specs.declared.exceptions.Exception.TheVariants.{NullPointerException, ArrayIndexOutOfBoundsException}
use Rattle.jc_frames.specs.declared.outcome.Outcome.TheVariants.{Fault}
use Rattle.jc_frames.specs.declared.outcome.FrameExit.{FrameExit}
use Rattle.jc_frames.specs.declared.outcome.FrameExit.TheVariants.{Throw, End}
use Rattle.jc_world.specs.Contexts.{firewall_check}
use Rattle.jc_world.specs.declared.arrays.Stretch.{Stretch}
use Rattle.jc_world.specs.Numbers.{not_negative}
use Rattle.jc_world.specs.Answers.{and_then}

-- an array of bytes
abbrev pub if_bytes : Kind → Facts → Result (Option Facts) FrameExit
if_bytes Instance f = Err (End Fault)
if_bytes BooleanArray f = Err (End Fault)
if_bytes ByteArray f = Ok (Some f)
if_bytes ShortArray f = Err (End Fault)
if_bytes ReferenceArray f = Err (End Fault)

abbrev pub if_array : Option Facts → Result (Option Facts) FrameExit
if_array None = Err (End Fault)
if_array (Some f) = if_bytes f.kind f

-- the header of the array of bytes that a reference argument names, and none for null; any other reference is a
-- cell of the wrong kind
unfoldable pub bytes_argument : MemoryState → ℕ → Result (Option Facts) FrameExit
bytes_argument m r = if r == 0 then Ok None else if_array (header_at m r)

-- this many elements from one on lie in an array of this length
abbrev pub within : ℕ → ℕ → Option ℕ → Option ℕ → Result Stretch FrameExit
within array length None count = Err (Throw ArrayIndexOutOfBoundsException)
within array length (Some start) None = Err (Throw ArrayIndexOutOfBoundsException)
within array length (Some start) (Some count) =
    if nat_le (start + count) length then Ok (record { array = array; start = start; count = count }) else Err (Throw ArrayIndexOutOfBoundsException)

-- the elements of an argument that a call reads or writes: null throws, then the firewall, then what lies outside
unfoldable pub elements_of : Packages → MemoryState → ℕ → Option Facts → ℤ → ℤ → Result Stretch FrameExit
elements_of p m r None start count = Err (Throw NullPointerException)
elements_of p m r (Some f) start count = and_then (firewall_check ArrayElement p m f) (λ u. within r f.length (not_negative start) (not_negative count))

-- an argument is null, or this is the header of the array of bytes after it
pub record IsBytesArgument (m : MemoryState) (r : ℕ) (argument : Option Facts) : Type 0 where
  pub there : (f : Facts) → argument ≡ Some f → IsObject m.heap.now r
  pub header : (f : Facts) → argument ≡ Some f → f ≡ facts m.heap.now r
  pub bytes : (f : Facts) → argument ≡ Some f → f.kind ≡ ByteArray

-- these elements of an array of bytes are there
pub record IsInArray (m : MemoryState) (e : Stretch) : Type 0 where
  pub there : IsObject m.heap.now e.array
  pub bytes : (facts m.heap.now e.array).kind ≡ ByteArray
  pub within : e.start + e.count ≤ (facts m.heap.now e.array).length
  pub ends : e.start + e.count < 65536

-- the bytes of some elements
abbrev pub bytes_in : MemoryState → Stretch → List ℕ
bytes_in m e = bytes_at m e.array e.start e.count
