-- How the frame of a method in bytecode begins.
use Rattle.std.specs.Prelude.{ℕ, ◌+◌, ◌==◌, ◌&&◌, not, nat_le, Bool, List, [], length, Option, Some, None, if◌then◌else◌}
use Rattle.std.specs.Option.{option_and_then}
use Rattle.jc_transient.specs.declared.owner.Owner.{Owner}
use Rattle.jc_memory.specs.declared.registers.Registers.{Registers}
use Rattle.jc_memory.specs.State.{MemoryState, SetRegisters}
use Rattle.jc_memory.specs.Programs.{Program, Finish, Perform}
use Rattle.jc_linker.specs.Values.{Packages}
use Rattle.jc_frames.specs.declared.cell.Cell.{Cell}
use Rattle.jc_frames.specs.declared.method.Entry.{Entry}
use Rattle.jc_frames.specs.declared.method.Origin.{Origin}
use Rattle.jc_frames.specs.declared.method.ReturnPoint.{ReturnPoint}
use Rattle.jc_frames.specs.declared.outcome.Outcome.TheVariants.{Fault}
use Rattle.jc_frames.specs.Calls.{call_or_fault, first_frame}
use Rattle.jc_frames.specs.Frames.{Frames, Next, GoesOn, Throws, Ends}
use Rattle.jc_frames.specs.declared.header.Header.{Header}
use Rattle.jc_frames.specs.Header.{header_in}
use Rattle.jc_world.specs.Instructions.{if_some}
use Rattle.jc_instructions.specs.declared.enter.Callee.{Callee}
use Rattle.jc_instructions.specs.declared.enter.CallSite.{CallSite}
use Rattle.jc_instructions.specs.MethodComponent.{method_component_of}

-- the registers while a method runs for another owner
abbrev pub registers_in_callee : Option Owner → Registers → Registers
registers_in_callee None r = r
registers_in_callee (Some owner) r = record r { active = owner; previous = r.active }

-- a method that is not abstract and takes this many cells
abbrev pub takes : ℕ → Header → Bool
takes n h = not h.is_abstract && h.arguments == n

-- what a return comes back to
abbrev pub resume_at : CallSite → Registers → ReturnPoint
resume_at site r = record { active = r.active; previous = r.previous; place = site.place; call = site.kind }

-- the method
abbrev pub origin_of : Callee → Origin
origin_of c = record { package_number = c.package_number; method = c.offset }

abbrev pub entry_of : Header → Callee → CallSite → Registers → Entry
entry_of h c site r = record { arguments = h.arguments; locals = h.locals; limit = h.limit; place = h.place; origin = origin_of c; resume = resume_at site r }

-- the registers are switched where the frame begins
abbrev pub context_switch : Option Owner → Registers → Next Frames → Program (Next Frames)
context_switch None r next = Finish next
context_switch (Some owner) r (GoesOn s) = Perform (SetRegisters (registers_in_callee (Some owner) r)) (Finish (GoesOn s))
context_switch (Some owner) r (Throws e s) = Finish (Throws e s)
context_switch (Some owner) r (Ends o) = Finish (Ends o)

-- a call of a method in bytecode with this header
abbrev pub method_entry_with : Option Header → Callee → CallSite → Frames → MemoryState → Program (Next Frames)
method_entry_with header c site s m =
    if_some header (λ h. if takes c.arguments h then context_switch c.switches_to m.registers (call_or_fault (entry_of h c site m.registers) s) else Finish
    (Ends Fault))

-- a call of a method in bytecode: a code fault where its header is cut, where it is abstract or takes another number
-- of cells, where the arguments are not there, or where frames or cells are too many
unfoldable pub method_entry : Callee → CallSite → Packages → Frames → MemoryState → Program (Next Frames)
method_entry c site p s m = method_entry_with (header_in (method_component_of p c.package_number) c.offset) c site s m

-- ---- a method that nothing called

abbrev pub first_frames : Header → List Cell → Origin → Frames
first_frames h arguments origin = record { current = first_frame arguments h.locals h.limit h.place origin; callers = [] }

abbrev pub first_frames_with : Header → List Cell → Origin → Option Frames
first_frames_with h arguments origin =
    if takes (length arguments) h && nat_le (length arguments + h.locals + h.limit) 512 then Some (first_frames h arguments origin) else None

-- the frames of a method before its first instruction; none where its header is cut, where it is abstract or takes
-- another number of cells, or where its cells are too many: a code fault
unfoldable pub first_frames_of : Packages → ℕ → ℕ → List Cell → Option Frames
first_frames_of p number offset arguments =
    option_and_then (λ h. first_frames_with h arguments (record { package_number = number; method = offset }))
    (header_in (method_component_of p number) offset)
