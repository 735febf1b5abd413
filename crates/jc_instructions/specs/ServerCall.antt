-- The runtime environment asks a server for its shareable interface object.
use Rattle.std.specs.Prelude.{ℕ, ◌+◌, Bool, Option, Some, None, if◌then◌else◌}
use Rattle.jc_transient.specs.declared.owner.Owner.TheVariants.{Applet}
use Rattle.jc_memory.specs.declared.registers.Registers.{Registers}
use Rattle.jc_memory.specs.State.{MemoryState}
use Rattle.jc_memory.specs.Programs.{Program, Finish}
use Rattle.jc_memory.specs.Cells.{header_at}
use Rattle.jc_cap.specs.declared.pool.VirtualToken.TheVariants.{Public}
use Rattle.jc_platform.specs.declared.names.PlatformMethod.TheVariants.{Applets}
use Rattle.jc_platform.specs.declared.names.AppletsMethod.TheVariants.{AppletGetShareableInterfaceObject}
use Rattle.jc_platform.specs.Tokens.{method_token}
use Rattle.jc_linker.specs.declared.target.Method.{Method}
use Rattle.jc_linker.specs.declared.target.Method.TheVariants.{Code, Native}
use Rattle.jc_linker.specs.Values.{Packages}
use Rattle.jc_linker.specs.Methods.{method_at}
use Rattle.jc_frames.specs.declared.cell.Cell.{Cell}
use Rattle.jc_frames.specs.declared.cell.Cell.TheVariants.{Short, Reference}
use Rattle.jc_frames.specs.declared.method.CallKind.TheVariants.{ShareableRequest}
use Rattle.jc_frames.specs.declared.method.Entry.{Entry}
use Rattle.jc_frames.specs.declared.outcome.Outcome.TheVariants.{Fault}
use Rattle.jc_frames.specs.Calls.{call_or_fault}
use Rattle.jc_frames.specs.Frames.{Frames, Next, GoesOn, Throws, Ends, in_frame, push, store_local}
use Rattle.jc_frames.specs.declared.header.Header.{Header}
use Rattle.jc_frames.specs.Header.{header_in}
use Rattle.jc_world.specs.declared.native_result.ServerCall.{ServerCall}
use Rattle.jc_world.specs.Instructions.{if_some}
use Rattle.jc_instructions.specs.declared.enter.Callee.{Callee}
use Rattle.jc_instructions.specs.Enter.{entry_of, context_switch, takes}
use Rattle.jc_instructions.specs.MethodComponent.{method_component_of}

-- getShareableInterfaceObject, as the server's class has it
abbrev pub sharing_method : Packages → ℕ → Option Method
sharing_method p class = method_at p class 0 (Public (method_token p.platform (Applets AppletGetShareableInterfaceObject)))

-- a local is set in the frame that has begun
abbrev pub with_local : ℕ → Cell → Next Frames → Next Frames
with_local n cell (GoesOn s) = in_frame s (store_local n cell s.current)
with_local n cell (Throws e s) = Throws e s
with_local n cell (Ends o) = Ends o

-- the server, the client's AID and what it passes on are the first locals
abbrev pub with_server_arguments : ServerCall → Next Frames → Next Frames
with_server_arguments asked next = with_local 2 (Short asked.parameter) (with_local 1 (Reference asked.client) (with_local 0 (Reference asked.server) next))

-- a method that takes three cells
abbrev pub takes_server_arguments : Header → Bool
takes_server_arguments h = takes 3 h

abbrev pub server_callee : ℕ → ℕ → ServerCall → Callee
server_callee number offset asked = record { package_number = number; offset = offset; arguments = 3; switches_to = Some (Applet asked.owner) }

-- none of its arguments lies on the caller's stack
abbrev pub server_entry : Header → Callee → ℕ → Registers → Entry
server_entry h c place r = record (entry_of h c (record { place = place; kind = ShareableRequest }) r) { arguments = 0; locals = h.locals + 3 }

-- a method in bytecode gets a frame, for the server: the one that the class inherits from the platform answers null
abbrev pub server_call_by : Option Method → ServerCall → ℕ → Packages → Frames → MemoryState → Program (Next Frames)
server_call_by None asked place p s m = Finish (Ends Fault)
server_call_by (Some (Native method)) asked place p s m = Finish (in_frame s (push (Reference 0) s.current))
server_call_by (Some (Code number offset)) asked place p s m =
    if_some (header_in (method_component_of p number) offset) (λ h.
    if takes_server_arguments h then context_switch (Some (Applet asked.owner)) m.registers
    (with_server_arguments asked (call_or_fault (server_entry h (server_callee number offset asked) place m.registers) s)) else Finish (Ends Fault))

-- a server is asked, by the instruction at a place
unfoldable pub server_call : ServerCall → ℕ → Packages → Frames → MemoryState → Program (Next Frames)
server_call asked place p s m = if_some (header_at m asked.server) (λ f. server_call_by (sharing_method p f.class) asked place p s m)
