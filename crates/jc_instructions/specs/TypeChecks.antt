-- Tests of an object's type: `checkcast` and `instanceof`.
use Rattle.std.specs.Prelude.{ℕ, ℤ, pos, ◌==◌, Bool, true, false, Option, Result, Ok, Err, if◌then◌else◌}
use Rattle.jc_heap.specs.declared.object.Facts.{Facts}
use Rattle.jc_frames.specs.declared.instr.TestedType.{TestedType}
use Rattle.jc_frames.specs.declared.cell.Cell.TheVariants.{Short, Reference}
use Rattle.jc_frames.specs.declared.exceptions.Exception.TheVariants.{ClassCastException}
use Rattle.jc_frames.specs.declared.outcome.FrameExit.{FrameExit}
use Rattle.jc_frames.specs.declared.outcome.FrameExit.TheVariants.{Throw}
use Rattle.jc_frames.specs.Cell.{reference_on}
use Rattle.jc_frames.specs.Frames.{Frames, Next, with_stack}
use Rattle.jc_memory.specs.State.{MemoryState}
use Rattle.jc_memory.specs.Programs.{Program}
use Rattle.jc_linker.specs.Values.{Packages}
use Rattle.jc_world.specs.Contexts.{firewall_check}
use Rattle.jc_world.specs.Instructions.{continue_with, if_ok, if_some, exit_of}
use Rattle.jc_world.specs.Objects.{object_at}
use Rattle.jc_world.specs.Values.{with_top}
use Rattle.jc_instructions.specs.declared.object_types.ObjectType.{ObjectType}
use Rattle.jc_instructions.specs.ObjectTypes.{access_to, is_of_type, type_named}

-- the answer, where an access is allowed
abbrev pub answer_if_allowed : Bool → Result (Unit {0}) FrameExit → Result Bool FrameExit
answer_if_allowed answer (Ok u) = Ok answer
answer_if_allowed answer (Err e) = Err e

-- the firewall is asked before the type is compared
abbrev pub type_test_of : ObjectType → Packages → MemoryState → Result Facts FrameExit → Result Bool FrameExit
type_test_of of_type p m (Err e) = Err e
type_test_of of_type p m (Ok f) = answer_if_allowed (is_of_type of_type p f) (firewall_check (access_to p of_type) p m f)

-- whether the object that a reference names is of a type; of null there is an answer beforehand
unfoldable pub type_test : Bool → ObjectType → Packages → MemoryState → ℕ → Result Bool FrameExit
type_test of_null of_type p m r = if r == 0 then Ok of_null else type_test_of of_type p m (object_at m r)

-- the type that the package that runs names
abbrev pub own_type : TestedType → Packages → Frames → Option ObjectType
own_type of_type p s = type_named of_type p s.current.origin.package_number

-- checkcast: the reference stays on the stack where its object is of the type, or null
unfoldable pub checkcast : TestedType → Packages → Frames → MemoryState → Program (Next Frames)
checkcast of_type p s m =
    if_some (reference_on s.current.stack) (λ q. if_some (own_type of_type p s) (λ t. if_ok s (type_test true t p m q.0) (λ passes.
    if passes then continue_with (with_top (Reference q.0) (with_stack s q.1)) else exit_of s (Throw ClassCastException))))

abbrev pub as_number : Bool → ℤ
as_number true = pos 1
as_number false = pos 0

-- instanceof: 1 is pushed where the object is of the type, else 0; 0 for null
unfoldable pub instanceof : TestedType → Packages → Frames → MemoryState → Program (Next Frames)
instanceof of_type p s m =
    if_some (reference_on s.current.stack) (λ q. if_some (own_type of_type p s) (λ t. if_ok s (type_test false t p m q.0) (λ answer.
    continue_with (with_top (Short (as_number answer)) (with_stack s q.1)))))
