-- New arrays.
use Rattle.std.specs.Prelude.{ℕ, ℤ, pos, negsuc, None}
use Rattle.jc_heap.specs.declared.object.Kind.{Kind}
use Rattle.jc_heap.specs.declared.object.Kind.TheVariants.{BooleanArray, ByteArray, ShortArray, ReferenceArray}
use Rattle.jc_frames.specs.declared.instr.PrimitiveArray.{PrimitiveArray}
use Rattle.jc_frames.specs.declared.instr.PrimitiveArray.TheVariants.{Booleans, Bytes, Shorts}
use Rattle.jc_frames.specs.declared.exceptions.Exception.TheVariants.{NegativeArraySizeException}
use Rattle.jc_frames.specs.Cell.{short_on}
use Rattle.jc_frames.specs.Frames.{Frames, Next, with_stack}
use Rattle.jc_frames.specs.declared.outcome.FrameExit.TheVariants.{Throw}
use Rattle.jc_memory.specs.State.{MemoryState}
use Rattle.jc_memory.specs.Programs.{Program}
use Rattle.jc_linker.specs.Values.{Packages}
use Rattle.jc_world.specs.Instructions.{if_some, exit_of}
use Rattle.jc_world.specs.Making.{new_on_top}
use Rattle.jc_world.specs.Types.{class_named}

-- the kind of an array of these numbers
abbrev pub kind_of : PrimitiveArray → Kind
kind_of Booleans = BooleanArray
kind_of Bytes = ByteArray
kind_of Shorts = ShortArray

-- a new array of this many elements, which belongs to the owner for whom code runs, comes on the stack
unfoldable pub array_creation : Kind → ℕ → ℤ → Frames → MemoryState → Program (Next Frames)
array_creation kind class (pos n) s m = new_on_top (record { kind = kind; event = None; class = class; owner = m.registers.active; length = n }) s m
array_creation kind class (negsuc n) s m = exit_of s (Throw NegativeArraySizeException)

-- newarray: a new array of booleans, bytes or shorts is pushed
unfoldable pub newarray : PrimitiveArray → Frames → MemoryState → Program (Next Frames)
newarray of_type s m = if_some (short_on s.current.stack) (λ n. array_creation (kind_of of_type) 0 n.0 (with_stack s n.1) m)

-- anewarray: a new array of references to instances of a class is pushed
unfoldable pub anewarray : ℕ → Packages → Frames → MemoryState → Program (Next Frames)
anewarray index p s m =
    if_some (short_on s.current.stack) (λ n. if_some (class_named p s.current.origin.package_number index) (λ class.
    array_creation ReferenceArray class n.0 (with_stack s n.1) m))
