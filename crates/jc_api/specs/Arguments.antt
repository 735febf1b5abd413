-- Arrays of bytes as arguments: each with an offset, and with a length of its own, of both arrays, or of the method.
use Rattle.std.specs.Prelude.{ℕ, ℤ, ◌+◌, ◌≡◌, ◌≤◌, ◌==◌, pos, List, Option, Some, None, Result, Ok, Err, if◌then◌else◌}
use Rattle.jc_heap.specs.declared.object.Facts.{Facts}
use Rattle.jc_heap.specs.declared.object.Kind.{Kind}
use Rattle.jc_heap.specs.declared.object.Kind.TheVariants.{Instance, BooleanArray, ByteArray, ShortArray, ReferenceArray}
use Rattle.jc_heap.specs.Heap.{IsObject, facts}
use Rattle.jc_frames.specs.declared.cell.Cell.{Cell}
use Rattle.jc_frames.specs.declared.outcome.FrameExit.{FrameExit}
use Rattle.jc_frames.specs.declared.outcome.FrameExit.TheVariants.{End}
use Rattle.jc_frames.specs.declared.outcome.Outcome.TheVariants.{Fault}
use Rattle.jc_memory.specs.Cells.{header_at}
use Rattle.jc_memory.specs.State.{MemoryState}
use Rattle.jc_linker.specs.Values.{Packages}
use Rattle.jc_world.specs.Objects.{some_or_fault, short_argument, reference_argument}
use Rattle.jc_world.specs.declared.arrays.Stretch.{Stretch}
use Rattle.jc_world.specs.Answers.{and_then}
use Rattle.jc_world.specs.Arrays.{bytes_argument, elements_of}
use Rattle.jc_api.specs.declared.arguments.ArrayArguments.{ArrayArguments}
use Rattle.jc_api.specs.declared.arguments.PairArguments.{PairArguments}
use Rattle.jc_api.specs.declared.arguments.Pair.{Pair}

-- a number of elements of the array of bytes that a reference names, from an offset on: the kind, null, the firewall, the bounds
unfoldable pub elements_at : Packages → MemoryState → ℕ → ℤ → ℤ → Result Stretch FrameExit
elements_at p m r start count = and_then (bytes_argument m r) (λ header. elements_of p m r header start count)

-- asked for again, there are the same elements
abbrev pub AreAsked : Packages → MemoryState → Stretch → Type 0
AreAsked p m e = elements_at p m e.array (pos e.start) (pos e.count) ≡ Ok e

-- an array of bytes, an offset and a length, from a place on: of the right kinds, or a code fault
abbrev pub array_arguments : ℕ → List Cell → MemoryState → Result ArrayArguments FrameExit
array_arguments i args m =
    and_then (some_or_fault (reference_argument args i)) (λ array. and_then (some_or_fault (short_argument args (i + 1)))
    (λ start. and_then (some_or_fault (short_argument args (i + 2))) (λ count.
    and_then (bytes_argument m array) (λ header. Ok (record { array = array; header = header; start = start; count = count })))))

-- the elements that they name, or what throws
abbrev pub argument_bytes : ArrayArguments → Packages → MemoryState → Result Stretch FrameExit
argument_bytes g p m = elements_of p m g.array g.header g.start g.count

-- the elements of a method of one array with an offset and a length, from a place on
abbrev pub counted_of : ℕ → List Cell → Packages → MemoryState → Result Stretch FrameExit
counted_of i args p m = and_then (array_arguments i args m) (λ given. argument_bytes given p m)

-- the elements of a method of one array with an offset that reads or writes two of them
abbrev pub two_of : List Cell → Packages → MemoryState → Result Stretch FrameExit
two_of args p m =
    and_then (some_or_fault (reference_argument args 0)) (λ array. and_then (some_or_fault (short_argument args 1))
    (λ start. elements_at p m array start (pos 2)))

-- an array of shorts
abbrev pub if_shorts : Kind → Facts → Result (Option Facts) FrameExit
if_shorts Instance f = Err (End Fault)
if_shorts BooleanArray f = Err (End Fault)
if_shorts ByteArray f = Err (End Fault)
if_shorts ShortArray f = Ok (Some f)
if_shorts ReferenceArray f = Err (End Fault)

abbrev pub if_shorts_there : Option Facts → Result (Option Facts) FrameExit
if_shorts_there None = Err (End Fault)
if_shorts_there (Some f) = if_shorts f.kind f

-- the header of the array of shorts that a reference argument names, and none for null; any other reference is a cell of the wrong kind
unfoldable pub shorts_argument : MemoryState → ℕ → Result (Option Facts) FrameExit
shorts_argument m r = if r == 0 then Ok None else if_shorts_there (header_at m r)

-- an argument is null, or this is the header of the array of shorts that it names
pub record IsShortsArgument (m : MemoryState) (r : ℕ) (argument : Option Facts) : Type 0 where
  pub there : (f : Facts) → argument ≡ Some f → IsObject m.heap.now r
  pub header : (f : Facts) → argument ≡ Some f → f ≡ facts m.heap.now r
  pub shorts : (f : Facts) → argument ≡ Some f → f.kind ≡ ShortArray

-- the elements of a method of one array of shorts with an offset that writes two of them
abbrev pub two_shorts_of : List Cell → Packages → MemoryState → Result Stretch FrameExit
two_shorts_of args p m =
    and_then (some_or_fault (reference_argument args 0)) (λ array. and_then (some_or_fault (short_argument args 1)) (λ start.
    and_then (shorts_argument m array) (λ header. elements_of p m array header start (pos 2))))

-- these elements of an array of shorts are there
pub record IsInShorts (m : MemoryState) (e : Stretch) : Type 0 where
  pub there : IsObject m.heap.now e.array
  pub shorts : (facts m.heap.now e.array).kind ≡ ShortArray
  pub within : e.start + e.count ≤ (facts m.heap.now e.array).length

-- the arguments of a method of two arrays, each with an offset, and a length: of the right kinds, or a code fault
abbrev pub pair_arguments : List Cell → Result PairArguments FrameExit
pair_arguments args =
    and_then (some_or_fault (reference_argument args 0)) (λ source. and_then (some_or_fault (short_argument args 1)) (λ source_start.
    and_then (some_or_fault (reference_argument args 2)) (λ destination. and_then (some_or_fault (short_argument args 3)) (λ destination_start.
    and_then (some_or_fault (short_argument args 4)) (λ count.
    Ok (record { source = source; source_start = source_start; destination = destination; destination_start = destination_start; count = count }))))))

-- the elements of both that it reads or writes: neither is an array of another kind; then the first one's, then the second one's
abbrev pub pair_of : Packages → MemoryState → PairArguments → Result Pair FrameExit
pair_of p m n =
    and_then (bytes_argument m n.source) (λ source. and_then (bytes_argument m n.destination) (λ destination.
    and_then (elements_of p m n.source source n.source_start n.count) (λ from. and_then
    (elements_of p m n.destination destination n.destination_start n.count) (λ to.
    Ok (record { from = from; to = to })))))
