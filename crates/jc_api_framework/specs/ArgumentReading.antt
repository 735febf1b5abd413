-- Parameters as a list: what a call reads of its arguments by the kinds in its row, and in which order it refuses them (API specification).
use Rattle.std.specs.Prelude.{ℕ, ℤ, pos, ◌+◌, ◌==◌, ◌≡◌, Bool, true, false, List, [], ◌∷◌, Option, None, Result, Ok, unwrap_or, if◌then◌else◌}
use Rattle.jc_heap.specs.declared.object.Facts.{Facts}
use Rattle.jc_memory.specs.Cells.{header_at}
use Rattle.jc_memory.specs.State.{MemoryState}
use Rattle.jc_frames.specs.declared.cell.Cell.{Cell}
use Rattle.jc_frames.specs.declared.cell.Cell.TheVariants.{Reference}
use Rattle.jc_frames.specs.declared.outcome.FrameExit.{FrameExit}
use Rattle.jc_platform.specs.declared.kinds.ParameterKind.{ParameterKind}
use Rattle.jc_platform.specs.declared.kinds.ParameterKind.TheVariants as parameter
use Rattle.jc_platform.specs.declared.kinds.Receiver.{Receiver}
use Rattle.jc_platform.specs.declared.kinds.Receiver.TheVariants.{Absent, Kept, Registered, Changed}
use Rattle.jc_platform.specs.declared.names.PlatformMethod.{PlatformMethod}
use Rattle.jc_platform.specs.Signatures.{parameters_of, receiver_of}
use Rattle.jc_linker.specs.Values.{Packages}
use Rattle.jc_world.specs.declared.arrays.Stretch.{Stretch}
use Rattle.jc_world.specs.Answers.{and_then}
use Rattle.jc_world.specs.Arrays.{elements_of}
use Rattle.jc_world.specs.NativeCalls.{NativeProgram, code_fault, if_ok}
use Rattle.jc_world.specs.Objects.{reference_argument, short_argument}
use Rattle.jc_api.specs.Kinds.{have_kinds}

-- an array of numbers, by whose elements a call reads or writes
abbrev pub is_array : ParameterKind → Bool
is_array parameter.Byte = false
is_array parameter.Short = false
is_array parameter.Boolean = false
is_array parameter.Bytes = true
is_array parameter.Shorts = true
is_array parameter.Anything = false
is_array (parameter.Instance class) = false

-- there is one among the kinds of parameters
abbrev pub has_array : List ParameterKind → Bool
has_array [] = false
has_array (k ∷ ks) = if is_array k then true else has_array ks

-- the number, and the reference, with a place among the arguments, where one has it
abbrev pub number_in : List Cell → ℕ → ℤ
number_in args i = unwrap_or (short_argument args i) (pos 0)

abbrev pub reference_in : List Cell → ℕ → ℕ
reference_in args i = unwrap_or (reference_argument args i) 0

-- the header of the object that a reference names, none for null
abbrev pub named_header : MemoryState → ℕ → Option Facts
named_header m r = if r == 0 then None else header_at m r

-- a number of elements of the array with a place, from the offset on that follows it: null throws, then the firewall, then what lies outside
abbrev pub elements_in : List Cell → Packages → MemoryState → ℕ → ℤ → Result Stretch FrameExit
elements_in args p m i count = elements_of p m (reference_in args i) (named_header m (reference_in args i)) (number_in args (i + 1)) count

-- the elements of the arrays among parameters of these kinds, the first of which has this place: as many of each as are wanted, and each array
-- whole before the next
abbrev pub stretches_in : List ParameterKind → ℕ → List ℤ → List Cell → Packages → MemoryState → Result (List Stretch) FrameExit
stretches_in [] i counts args p m = Ok []
stretches_in (k ∷ ks) i [] args p m = Ok []
stretches_in (k ∷ ks) i (count ∷ counts) args p m =
    if is_array k then and_then (elements_in args p m i count) (λ e. and_then (stretches_in ks (i + 1) counts args p m) (λ es. Ok (e ∷ es)))
    else stretches_in ks (i + 1) (count ∷ counts) args p m

-- how many elements of each array a call wants, by its receiver and the numbers that it is given; or what it refuses before it looks at an array
abbrev pub Wanting : Type 0
Wanting = ℕ → (ℕ → ℤ) → MemoryState → Result (List ℤ) FrameExit

-- what a call is handed out of arguments that are of these kinds
abbrev pub handed_out : List ParameterKind → Wanting → ℕ → List Cell → Packages → MemoryState → Result (List Stretch) FrameExit
handed_out kinds wanting own args p m = and_then (wanting own (number_in args) m) (λ counts. stretches_in kinds 0 counts args p m)

-- ---- calls that read so

-- all that a call is given: its receiver, if it is called on an object, and the arguments
abbrev pub with_receiver : Receiver → ℕ → List Cell → List Cell
with_receiver Absent own args = args
with_receiver Kept own args = Reference own ∷ args
with_receiver Registered own args = Reference own ∷ args
with_receiver Changed own args = Reference own ∷ args

-- arguments of other kinds than those in the row of a method are a code fault, also where another one would throw
abbrev pub AreFaultsByKinds : PlatformMethod → (List Cell → Packages → MemoryState → NativeProgram) → Type 0
AreFaultsByKinds method call = (own : ℕ) (args : List Cell) (p : Packages) (m : MemoryState) → have_kinds (parameters_of method) p m args ≡ false
    → call (with_receiver (receiver_of method) own args) p m ≡ code_fault

-- a call is read by the row of its method: other kinds are a code fault; then what was handed out decides, with the receiver and the numbers, and
-- what is refused the call refuses. It sees no array but by the elements that it was handed
pub record IsReadByRow (method : PlatformMethod) (call : List Cell → Packages → MemoryState → NativeProgram) : Type 0 where
  pub wanting : Wanting
  pub next : ℕ → (ℕ → ℤ) → List Stretch → Packages → MemoryState → NativeProgram
  pub faults : AreFaultsByKinds method call
  pub reads : (own : ℕ) (args : List Cell) (p : Packages) (m : MemoryState) → have_kinds (parameters_of method) p m args ≡ true
      → call (with_receiver (receiver_of method) own args) p m ≡ if_ok (handed_out (parameters_of method) wanting own args p m) (λ es. next own (number_in args) es p m)

-- null, for an array with a place among the arguments
abbrev pub is_null_in : List Cell → ℕ → Bool
is_null_in args i = reference_in args i == 0

-- the same of a call that gets which arrays are null and what is refused, and may do something before it throws, or answer in place of that
pub record IsWeighedByRow (method : PlatformMethod) (call : List Cell → Packages → MemoryState → NativeProgram) : Type 0 where
  pub wanting : Wanting
  pub next : ℕ → (ℕ → ℤ) → (ℕ → Bool) → Result (List Stretch) FrameExit → Packages → MemoryState → NativeProgram
  pub faults : AreFaultsByKinds method call
  pub reads : (own : ℕ) (args : List Cell) (p : Packages) (m : MemoryState) → have_kinds (parameters_of method) p m args ≡ true
      → call (with_receiver (receiver_of method) own args) p m ≡ next own (number_in args) (is_null_in args) (handed_out (parameters_of method) wanting own args p m) p m
