-- Pauses: where instructions that need nothing but frames do not go on, and what is left to do then.
use Rattle.std.specs.Prelude.{ℕ, ◌≡◌, ◌+◌, List, Option, Some, None, Result, Ok, Err}
use Rattle.jc_memory.specs.State.{MemoryState}
use Rattle.jc_heap.specs.Completions.{Completion, Completed, Torn}
use Rattle.jc_memory.specs.Programs.{Program, Finish, Executes, bind}
use Rattle.jc_linker.specs.Values.{Packages}
use Rattle.jc_frames.specs.declared.instr.Instr.{Instr}
use Rattle.jc_frames.specs.declared.instr.Instr.TheVariants.{Return, Field, Array, Object, Invoke}
use Rattle.jc_frames.specs.declared.outcome.Outcome.{Outcome}
use Rattle.jc_frames.specs.declared.outcome.Outcome.TheVariants.{Fault}
use Rattle.jc_frames.specs.Frames.{Frames, Next, Ends}
use Rattle.jc_instructions.specs.FieldOps.{field_instruction}
use Rattle.jc_instructions.specs.ArrayOps.{array_instruction}
use Rattle.jc_instructions.specs.MethodReturn.{method_return}
use Rattle.jc_world.specs.Instructions.{continue_with, exit_of}
use Rattle.jc_interp.specs.declared.attacks.Attack.{Attack}
use Rattle.jc_interp.specs.declared.frames_only.PausedStep.{PausedStep}
use Rattle.jc_interp.specs.declared.frames_only.FramesExit.{FramesExit}
use Rattle.jc_interp.specs.declared.frames_only.FramesExit.TheVariants.{Exit, Needs}
use Rattle.jc_interp.specs.Calling.{invoke_instruction}
use Rattle.jc_interp.specs.Step.{if_had, throw_from, object_instruction}
use Rattle.jc_interp.specs.Run.{or_end, run_of}

-- what an instruction at a place may do that needs more than frames, with the next instruction after it; any other is no such one
abbrev pub memory_instruction : Instr → ℕ → Packages → Frames → MemoryState → Program (Next Frames)
memory_instruction (Return how) place p s m = method_return how s m
memory_instruction (Field field) place p s m = field_instruction field p s m
memory_instruction (Array operation) place p s m = array_instruction operation p s m
memory_instruction (Object operation) place p s m = object_instruction operation place p s m
memory_instruction (Invoke method) place p s m = invoke_instruction method place p s m
memory_instruction other place p s m = Finish (Ends Fault)

-- it is neither a return nor a call
abbrev pub IsOther : Instr → Type 0
IsOther (Return how) = ⊥
IsOther (Invoke call) = ⊥
IsOther other = Unit {0}

-- this holds where an instruction needs more than frames
abbrev pub WhereNeeded : FramesExit → Type 0 → Type 0
WhereNeeded (Exit stop) T = Unit {0}
WhereNeeded (Needs instr) T = T

-- what is left of an instruction at a place, if the code has it
abbrev pub paused_rest : FramesExit → ℕ → Packages → Frames → MemoryState → Program (Next Frames)
paused_rest (Exit stop) place p s m = exit_of s stop
paused_rest (Needs instr) place p s m = if_had instr s (memory_instruction instr place p s m)

-- an instruction at a place, of which frames did what they can
abbrev pub after_part : Result (Unit {0}) FramesExit → ℕ → Packages → Frames → MemoryState → Program (Next Frames)
after_part (Ok u) place p s m = continue_with s
after_part (Err why) place p s m = paused_rest why place p s m

-- the instruction at the frame's place, of which frames did what they can
abbrev pub after_frames_step : Result (Unit {0}) PausedStep → Packages → Frames → MemoryState → Program (Next Frames)
after_frames_step (Ok u) p s m = continue_with s
after_frames_step (Err pause) p s m = paused_rest pause.why pause.place p s m

-- what is left of a step
abbrev pub step_rest : PausedStep → Packages → Frames → MemoryState → Program (Next Frames)
step_rest pause p s m = bind (paused_rest pause.why pause.place p s m) m (λ next v. throw_from pause.place p next v)

-- an instruction at a place ended so; the step ends so once what it throws is thrown there
abbrev pub EndsStep : Completion MemoryState (Next Frames) → ℕ → Packages → Completion MemoryState (Next Frames) → Type 0
EndsStep (Completed next m) place p end = Executes (throw_from place p next m) m end
EndsStep (Torn m) place p end = end ≡ Torn m

-- what is left of a run of which this many steps are left after a pause
abbrev pub run_rest : Option Attack → ℕ × PausedStep → List ℕ → Packages → Frames → MemoryState → Program (ℕ × Outcome)
run_rest attack r lent p s m = bind (step_rest r.1 p s m) m (λ next v. or_end r.0 next (λ t. run_of attack r.0 lent p t v))

-- the same of a run of this many steps more, all of which are left where there was no pause
abbrev pub run_behind : Option (ℕ × PausedStep) → Option Attack → ℕ → List ℕ → Packages → Frames → MemoryState → Program (ℕ × Outcome)
run_behind None attack more lent p s m = run_of attack more lent p s m
run_behind (Some r) attack more lent p s m = run_rest attack (r.0 + more, r.1) lent p s m
