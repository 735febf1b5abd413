-- The end of a method throws nothing.
use Rattle.std.proofs.Common.{ℕ, Bool, true, false, Option, Some, None, refl, sym, subst, ◌||◌, not, ◌==◌, if◌then◌else◌}
use Rattle.jc_memory.specs.State.{MemoryState, apply_effect}
use Rattle.jc_memory.specs.Programs.{Program, Finish, Perform, Choose, Either, Completes, Executes, bind}
use Rattle.jc_heap.specs.Completions.{Completion, Completed, Torn}
use Rattle.jc_linker.specs.Values.{Packages}
use Rattle.jc_frames.specs.declared.cell.Cell.{Cell}
use Rattle.jc_frames.specs.declared.cell.Cell.TheVariants.{Short, Reference, ReturnAddress}
use Rattle.jc_frames.specs.declared.instr.Instr.TheVariants.{Return}
use Rattle.jc_frames.specs.declared.instr.ReturnOp.{ReturnOp}
use Rattle.jc_frames.specs.declared.method.CallKind.{CallKind}
use Rattle.jc_frames.specs.declared.method.CallKind.TheVariants.{Instruction, ShareableRequest}
use Rattle.jc_frames.specs.declared.method.ReturnPoint.{ReturnPoint}
use Rattle.jc_frames.specs.declared.outcome.Outcome.TheVariants.{Fault}
use Rattle.jc_frames.specs.Frames.{Frame, Frames, Next, GoesOn, Throws, Ends, in_frame, push}
use Rattle.jc_frames.specs.Calls.{frames_after_return, frames_with_result}
use Rattle.jc_frames.specs.ReturnOps.{returned_cell}
use Rattle.jc_world.specs.Instructions.{if_some}
use Rattle.jc_instructions.specs.MethodReturn.{method_return, return_to_caller}
use Rattle.jc_interp.specs.Step.{if_had, is_plain, throw_from}
use Rattle.jc_interp.proofs.StepEnds.{ended_step}

-- it is no throw
abbrev IsQuiet : {S : Type 0} → Next S → Type 0
IsQuiet (GoesOn s) = Unit {0}
IsQuiet (Throws e s) = ⊥
IsQuiet (Ends o) = Unit {0}

-- it makes no choice, and at its end throws nothing
abbrev EndsQuietly : Program (Next Frames) → Type 0
EndsQuietly (Finish next) = IsQuiet next
EndsQuietly (Perform e rest) = EndsQuietly rest
EndsQuietly (Choose choose) = ⊥
EndsQuietly (Either x y) = ⊥

completed_quietly : (d : Program (Next Frames)) (s m : MemoryState) (next : Next Frames) → EndsQuietly d → Completes d s next m → IsQuiet next
completed_quietly (Finish a) s m next quiet made = subst IsQuiet (sym made.0) quiet
completed_quietly (Perform e rest) s m next quiet made = completed_quietly rest (apply_effect e s) m next quiet made
completed_quietly (Choose choose) s m next quiet made = absurd quiet
completed_quietly (Either x y) s m next quiet made = absurd quiet

nothing_thrown : (place : ℕ) (p : Packages) (m : MemoryState) (next : Next Frames) → IsQuiet next → Executes (throw_from place p next m) m (Completed next m)
nothing_thrown place p m (GoesOn s) quiet = (refl, refl)
nothing_thrown place p m (Throws e s) quiet = absurd quiet
nothing_thrown place p m (Ends o) quiet = (refl, refl)

-- so a step that ends quietly is its instruction
quiet_step : (d : Program (Next Frames)) (s : MemoryState) (end : Completion MemoryState (Next Frames)) (place : ℕ) (p : Packages)
    → EndsQuietly d → Executes d s end → Executes (bind d s (λ next v. throw_from place p next v)) s end
quiet_step d s (Completed next m) place p quiet made =
    ended_step d s (Completed next m) (Completed next m) place p made (nothing_thrown place p m next (completed_quietly d s m next quiet made))
quiet_step d s (Torn m) place p quiet cut = ended_step d s (Torn m) (Torn m) place p cut refl

chosen_quietly : (b : Bool) (d : Program (Next Frames)) → EndsQuietly d → EndsQuietly (if b then d else Finish (Ends Fault))
chosen_quietly true d quiet = quiet
chosen_quietly false d quiet = tt

some_quietly : {A : Type 0} (o : Option A) (go : A → Program (Next Frames)) → ((a : A) → EndsQuietly (go a)) → EndsQuietly (if_some o go)
some_quietly None go quiet = tt
some_quietly (Some a) go quiet = quiet a

if_quiet : (b : Bool) (f : Frame) → IsQuiet (if b then GoesOn f else Ends Fault)
if_quiet true f = tt
if_quiet false f = tt

push_quiet : (cell : Cell) (f : Frame) → IsQuiet (push cell f)
push_quiet cell f = if_quiet _ _

result_quiet : (kind : CallKind) (value : Option Cell) (f : Frame) → IsQuiet (frames_with_result kind value f)
result_quiet Instruction None f = tt
result_quiet Instruction (Some cell) f = push_quiet cell f
result_quiet ShareableRequest None f = tt
result_quiet ShareableRequest (Some (Short v)) f = tt
result_quiet ShareableRequest (Some (Reference r)) f = push_quiet (Reference r) f
result_quiet ShareableRequest (Some (ReturnAddress a)) f = tt

frame_quiet : (s : Frames) (next : Next Frame) → IsQuiet next → IsQuiet (in_frame s next)
frame_quiet s (GoesOn f) quiet = tt
frame_quiet s (Throws e f) quiet = quiet
frame_quiet s (Ends o) quiet = tt

caller_quietly : (value : Option Cell) (to : Option (ReturnPoint × Frames)) (m : MemoryState) → EndsQuietly (return_to_caller value to m)
caller_quietly value None m = tt
caller_quietly value (Some p) m = frame_quiet p.1 (frames_with_result p.0.call value p.1.current) (result_quiet p.0.call value p.1.current)

return_quietly : (how : ReturnOp) (s : Frames) (m : MemoryState) → EndsQuietly (method_return how s m)
unfolding method_return
return_quietly how s m =
    some_quietly (returned_cell how s.current.stack) (λ value. return_to_caller value (frames_after_return s.callers) m)
    (λ value. caller_quietly value (frames_after_return s.callers) m)

-- the end of a method, if the code has it
pub return_step : (how : ReturnOp) (s : Frames) (m : MemoryState) (end : Completion MemoryState (Next Frames)) (place : ℕ) (p : Packages)
    → Executes (if_had (Return how) s (method_return how s m)) m end
    → Executes (bind (if_had (Return how) s (method_return how s m)) m (λ next v. throw_from place p next v)) m end
return_step how s m end place p made =
    quiet_step (if_had (Return how) s (method_return how s m)) m end place p
    (chosen_quietly (is_plain (Return how) || not (s.current.origin.package_number == 0)) (method_return how s m) (return_quietly how s m)) made
