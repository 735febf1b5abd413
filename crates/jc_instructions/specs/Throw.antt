-- Exceptions: whose instance is thrown, and which frame goes on with it.
use Rattle.std.specs.Prelude.{ℕ, ℤ, ◌&&◌, nat_lt, Bool, List, [], ◌∷◌, slice_index, Option, Some, None, is_some, if◌then◌else◌}
use Rattle.jc_transient.specs.declared.cell.CellValue.TheVariants.{Short}
use Rattle.jc_heap.specs.declared.object.Facts.{Facts}
use Rattle.jc_memory.specs.State.{MemoryState, SetTransient, SetRegisters, apply_effect}
use Rattle.jc_memory.specs.Programs.{Program, Finish, Perform}
use Rattle.jc_memory.specs.Cells.{header_at}
use Rattle.jc_platform.specs.declared.names.PlatformClass.TheVariants.{Throwable}
use Rattle.jc_platform.specs.NamePlaces.{class_word}
use Rattle.jc_linker.specs.Values.{Packages}
use Rattle.jc_firewall.specs.declared.access.Access.TheVariants.{Throw}
use Rattle.jc_frames.specs.declared.cell.Cell.TheVariants.{Reference}
use Rattle.jc_frames.specs.declared.method.CallKind.{CallKind}
use Rattle.jc_frames.specs.declared.method.CallKind.TheVariants.{Instruction, ShareableRequest}
use Rattle.jc_frames.specs.declared.exceptions.Exception.{Exception}
use Rattle.jc_frames.specs.declared.exceptions.Exception.TheVariants.{Further}
use Rattle.jc_frames.specs.Exceptions.{class_of_exception, reason_of}
use Rattle.jc_environment.specs.Objects.{own_place}
use Rattle.jc_frames.specs.declared.outcome.Outcome.TheVariants.{Fault, Thrown}
use Rattle.jc_frames.specs.Cell.{reference_on}
use Rattle.jc_frames.specs.Frames.{Frame, Caller, Frames, Next, Ends, in_frame, push, with_stack}
use Rattle.jc_world.specs.Contexts.{firewall_check}
use Rattle.jc_world.specs.Instructions.{if_ok, if_some}
use Rattle.jc_world.specs.Objects.{check_or_fault, is_instance, is_instance_of, object_at}
use Rattle.jc_instructions.specs.declared.catch.HandlerResult.{HandlerResult}
use Rattle.jc_instructions.specs.declared.catch.HandlerResult.TheVariants.{Caught, NotCaught, CodeFault}
use Rattle.jc_instructions.specs.Catch.{catch_in_method}
use Rattle.jc_instructions.specs.MethodReturn.{registers_of_caller}

-- ---- which frame goes on

-- the handler goes on with the exception alone on its stack
abbrev pub handler_entry : ℕ → ℕ → List Caller → Frame → Next Frames
handler_entry r target callers f = in_frame (record { current = f; callers = callers }) (push (Reference r) (record f { stack = []; place = target }))

-- what the handlers of a frame say: one goes on, or what follows where none does
abbrev pub or_thrown_above : HandlerResult → (ℕ → Program (Next Frames)) → Program (Next Frames) → Program (Next Frames)
or_thrown_above (Caught target) go above = go target
or_thrown_above NotCaught go above = above
or_thrown_above CodeFault go above = Finish (Ends Fault)

-- what a caller does: an instruction's frame throws as well, and the runtime environment's gets null for the object that it asked for
abbrev pub caller_unwind : CallKind → Frames → Program (Next Frames) → Program (Next Frames)
caller_unwind Instruction s more = more
caller_unwind ShareableRequest s more = Finish (in_frame s (push (Reference 0) s.current))

-- an exception of this class is thrown in the callers, the nearest first, for whom they ran before; the run ends where none catches it
abbrev pub callers_unwind : Packages → ℕ → ℕ → List Caller → MemoryState → Program (Next Frames)
callers_unwind p class r [] m = Finish (Ends (Thrown r))
callers_unwind p class r (c ∷ callers) m =
    Perform (SetRegisters (registers_of_caller c.resume m.registers)) (caller_unwind c.resume.call (record { current = c.frame; callers = callers })
    (or_thrown_above (catch_in_method p class c.frame.origin c.resume.place) (λ target. Finish (handler_entry r target callers c.frame))
    (callers_unwind p class r callers (apply_effect (SetRegisters (registers_of_caller c.resume m.registers)) m))))

-- it is thrown by the instruction at a place of the frame that runs: a handler of it goes on, or one of a caller
unfoldable pub unwind : Packages → ℕ → ℕ → ℕ → Frames → MemoryState → Program (Next Frames)
unwind p class r place s m = or_thrown_above (catch_in_method p class s.current.origin place) (λ target. Finish (handler_entry r target s.callers s.current))
    (callers_unwind p class r s.callers m)

-- an object is thrown by the instruction at a place
unfoldable pub object_unwind : ℕ → ℕ → Packages → Frames → MemoryState → Program (Next Frames)
object_unwind r place p s m = if_some (header_at m r) (λ f. unwind p f.class r place s m)

-- ---- athrow

-- athrow: an instance of a class below Throwable is thrown, if the firewall allows it
unfoldable pub athrow : ℕ → Packages → Frames → MemoryState → Program (Next Frames)
athrow place p s m =
    if_some (reference_on s.current.stack) (λ top. if_ok s (object_at m top.0) (λ f. if_ok s
    (check_or_fault (is_instance_of p f (class_word p.platform Throwable))) (λ u. if_ok s (firewall_check Throw p m f) (λ v.
    object_unwind top.0 place p (with_stack s top.1) m))))

-- ---- exceptions of the runtime environment

-- its class has a variant of its own
abbrev pub HasVariant : Exception → Type 0
HasVariant (Further class reason) = ⊥
HasVariant other = Unit {0}

-- a transient instance with a cell, in which the reason stands
abbrev pub has_reason_cell : Facts → Bool
has_reason_cell f = is_instance f.kind && is_some f.event && nat_lt 0 f.length

-- the runtime environment's own instance with its reason, if there is one
abbrev pub with_reason : Option ℤ → ℕ → ℕ → Packages → Frames → MemoryState → Program (Next Frames)
with_reason None r place p s m = object_unwind r place p s m
with_reason (Some v) r place p s m =
    if_some (header_at m r) (λ f. if has_reason_cell f then Perform (SetTransient r 0 (Short v ∷ []))
    (object_unwind r place p s (apply_effect (SetTransient r 0 (Short v ∷ [])) m)) else Finish (Ends Fault))

-- the runtime environment throws its own instance of the exception's class, by the instruction at a place; a class that the table lacks is a code fault
unfoldable pub exception_throw : Exception → ℕ → Packages → Frames → MemoryState → Program (Next Frames)
exception_throw e place p s m = with_reason (reason_of e) (slice_index m.fixed (own_place p.platform (class_of_exception e))) place p s m
