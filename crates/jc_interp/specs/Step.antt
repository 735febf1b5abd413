-- Steps: one instruction, and the exception that it throws.
use Rattle.std.specs.Prelude.{ℕ, ◌==◌, ◌||◌, not, Bool, true, false, List, Option, Some, None, if◌then◌else◌}
use Rattle.jc_memory.specs.State.{MemoryState}
use Rattle.jc_memory.specs.Programs.{Program, Finish, bind}
use Rattle.jc_linker.specs.Values.{Packages}
use Rattle.jc_frames.specs.declared.instr.Instr.{Instr}
use Rattle.jc_frames.specs.declared.instr.Instr.TheVariants.{Nop, Constant, Local, Stack, Arithmetic, Branch, Return, Field, Array, Object, Invoke}
use Rattle.jc_frames.specs.declared.instr.ObjectOp.{ObjectOp}
use Rattle.jc_frames.specs.declared.instr.ObjectOp.TheVariants.{New, Athrow, CheckCast, InstanceOf}
use Rattle.jc_frames.specs.declared.instr.ReturnOp.TheVariants.{Areturn, Sreturn, Return}
use Rattle.jc_frames.specs.Table.{decode}
use Rattle.jc_frames.specs.declared.outcome.Outcome.TheVariants.{Fault}
use Rattle.jc_frames.specs.Frames.{Frames, Next, GoesOn, Throws, Ends, in_frame}
use Rattle.jc_frames.specs.ConstantOps.{constant_instruction}
use Rattle.jc_frames.specs.LocalOps.{local_instruction}
use Rattle.jc_frames.specs.StackOps.{stack_instruction}
use Rattle.jc_frames.specs.ArithmeticOps.{arithmetic_instruction}
use Rattle.jc_frames.specs.BranchOps.{branch_instruction}
use Rattle.jc_instructions.specs.FieldOps.{field_instruction}
use Rattle.jc_instructions.specs.ArrayOps.{array_instruction}
use Rattle.jc_instructions.specs.ObjectCreation.{new_instance}
use Rattle.jc_instructions.specs.TypeChecks.{checkcast, instanceof}
use Rattle.jc_instructions.specs.MethodReturn.{method_return}
use Rattle.jc_instructions.specs.MethodComponent.{method_component_of}
use Rattle.jc_instructions.specs.Throw.{athrow, exception_throw}
use Rattle.jc_world.specs.Instructions.{continue_with}
use Rattle.jc_interp.specs.Calling.{invoke_instruction}

-- the code in which places of a package's methods are counted; package number 0 is code that was lent
abbrev pub code_of : List ℕ → Packages → ℕ → List ℕ
code_of lent p number = if number == 0 then lent else method_component_of p number

-- code that was lent has no fields, arrays, objects and methods, and returns no reference
abbrev pub is_plain : Instr → Bool
is_plain (Return Areturn) = false
is_plain (Return Sreturn) = true
is_plain (Return Return) = true
is_plain (Field field) = false
is_plain (Array operation) = false
is_plain (Object operation) = false
is_plain (Invoke method) = false
is_plain _ = true

-- what an instruction may do, where the code has it; code that was lent ends by a code fault at any other
abbrev pub if_had : Instr → Frames → Program (Next Frames) → Program (Next Frames)
if_had instr s program = if is_plain instr || not (s.current.origin.package_number == 0) then program else Finish (Ends Fault)

-- the frames with the next instruction at a place
abbrev pub at_place : Frames → ℕ → Frames
at_place s place = record s { current = record s.current { place = place } }

-- what making, throwing or testing an object may do
abbrev pub object_instruction : ObjectOp → ℕ → Packages → Frames → MemoryState → Program (Next Frames)
object_instruction (New index) place p s m = new_instance index p s m
object_instruction Athrow place p s m = athrow place p s m
object_instruction (CheckCast type) place p s m = checkcast type p s m
object_instruction (InstanceOf type) place p s m = instanceof type p s m

-- nop: the run goes on. What any instruction at a place of the code may do, with the next one after it
unfoldable pub instruction_at : Instr → List ℕ → ℕ → Packages → Frames → MemoryState → Program (Next Frames)
instruction_at Nop code place p s m = continue_with s
instruction_at (Constant constant) code place p s m = Finish (in_frame s (constant_instruction constant s.current))
instruction_at (Local local) code place p s m = Finish (in_frame s (local_instruction local s.current))
instruction_at (Stack stack) code place p s m = Finish (in_frame s (stack_instruction stack s.current))
instruction_at (Arithmetic arithmetic) code place p s m = Finish (in_frame s (arithmetic_instruction arithmetic s.current))
instruction_at (Branch branch) code place p s m = Finish (in_frame s (branch_instruction code place branch s.current))
instruction_at (Return how) code place p s m = method_return how s m
instruction_at (Field field) code place p s m = field_instruction field p s m
instruction_at (Array operation) code place p s m = array_instruction operation p s m
instruction_at (Object operation) code place p s m = object_instruction operation place p s m
instruction_at (Invoke method) code place p s m = invoke_instruction method place p s m

-- the instruction that was decoded at the frame's place, or a code fault where there is none
abbrev pub fetch : Option (Instr × ℕ) → List ℕ → Packages → Frames → MemoryState → Program (Next Frames)
fetch None code p s m = Finish (Ends Fault)
fetch (Some i) code p s m = if_had i.0 s (instruction_at i.0 code s.current.place p (at_place s i.1) m)

-- what the instruction at the frame's place may do
unfoldable pub instruction_step : List ℕ → Packages → Frames → MemoryState → Program (Next Frames)
instruction_step code p s m = fetch (decode code s.current.place) code p s m

-- an exception of the runtime environment is thrown by the instruction at a place
abbrev pub throw_from : ℕ → Packages → Next Frames → MemoryState → Program (Next Frames)
throw_from place p (GoesOn s) m = continue_with s
throw_from place p (Throws e s) m = exception_throw e place p s m
throw_from place p (Ends o) m = Finish (Ends o)

-- one step, where code with this text was lent
unfoldable pub machine_step : List ℕ → Packages → Frames → MemoryState → Program (Next Frames)
machine_step lent p s m = bind (instruction_step (code_of lent p s.current.origin.package_number) p s m) m (λ next v. throw_from s.current.place p next v)
