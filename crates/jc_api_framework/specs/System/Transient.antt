-- JCSystem's transient arrays (API specification).
use Rattle.std.specs.Ordering.{int_eq}
use Rattle.std.specs.Prelude.{ℕ, ℤ, pos, ◌==◌, if◌then◌else◌, List, Option, Some, None, Result, Ok, Err}
use Rattle.jc_transient.specs.declared.cell.ClearEvent.{ClearEvent}
use Rattle.jc_transient.specs.declared.cell.ClearEvent.TheVariants.{Reset, Deselect}
use Rattle.jc_heap.specs.declared.object.Kind.{Kind}
use Rattle.jc_heap.specs.Object.{event_number}
use Rattle.jc_frames.specs.declared.cell.Cell.{Cell}
use Rattle.jc_frames.specs.declared.cell.Cell.TheVariants.{Reference}
use Rattle.jc_frames.specs.Reasons.{illegal_value}
use Rattle.jc_frames.specs.declared.exceptions.Exception.TheVariants.{NegativeArraySizeException}
use Rattle.jc_frames.specs.declared.outcome.FrameExit.{FrameExit}
use Rattle.jc_frames.specs.declared.outcome.FrameExit.TheVariants.{Throw}
use Rattle.jc_memory.specs.declared.making.NewObject.{NewObject}
use Rattle.jc_memory.specs.State.{MemoryState}
use Rattle.jc_memory.specs.Making.{object_creation, creation_refusal}
use Rattle.jc_memory.specs.Cells.{header_at}
use Rattle.jc_linker.specs.Values.{Packages}
use Rattle.jc_world.specs.declared.native_result.NativeResult.TheVariants.{ReturnValue}
use Rattle.jc_world.specs.NativeCalls.{NativeProgram, return_value, if_some, if_ok, unless}
use Rattle.jc_world.specs.Objects.{short_argument, reference_argument}
use Rattle.jc_world.specs.Answers.{and_then, returns_short}
use Rattle.jc_world.specs.Numbers.{not_negative}
use Rattle.jc_api.specs.NewArrays.{class_for}
use Rattle.jc_api.specs.TransientEvents.{allowed_event}

-- the length of a new array
abbrev pub length_in : Option ℕ → Result ℕ FrameExit
length_in None = Err (Throw NegativeArraySizeException)
length_in (Some n) = Ok n

-- CLEAR_ON_RESET and CLEAR_ON_DESELECT by their numbers
abbrev pub event_named : ℤ → Result ClearEvent FrameExit
event_named v = if int_eq v (pos 1) then Ok Reset else if int_eq v (pos 2) then Ok Deselect else Err (Throw illegal_value)

-- the array that is asked for: its length, then its event, then whether it may be made
unfoldable pub requested_array : Kind → ℤ → ℤ → Packages → MemoryState → Result NewObject FrameExit
requested_array kind count event p m =
    and_then (length_in (not_negative count)) (λ length. and_then (event_named event) (λ named. and_then (allowed_event named m) (λ u.
    Ok (record { kind = kind; event = Some named; class = class_for kind p; owner = m.registers.active; length = length }))))

-- JCSystem.makeTransientBooleanArray, JCSystem.makeTransientByteArray, JCSystem.makeTransientShortArray,
-- JCSystem.makeTransientObjectArray: a transient array of the kind that the method names, owned by whom the
-- code runs for
unfoldable pub jc_system_make_transient_array : Kind → List Cell → Packages → MemoryState → NativeProgram
jc_system_make_transient_array kind args p m = if_some (short_argument args 0) (λ count. if_some (short_argument args 1)
    (λ event. if_ok (requested_array kind count event p m) (λ o.
    unless (creation_refusal m o) (object_creation o (λ r. return_value (ReturnValue (Reference r)))))))

-- JCSystem.isTransient: the event; NOT_A_TRANSIENT_OBJECT for null and for persistent objects
unfoldable pub jc_system_is_transient : List Cell → MemoryState → NativeProgram
jc_system_is_transient args m = if_some (reference_argument args 0) (λ r. if r == 0 then returns_short (pos 0) else if_some (header_at m r)
    (λ f. returns_short (pos (event_number f.event))))
