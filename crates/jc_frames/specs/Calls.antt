-- Calls and returns, as frames see them.
use Rattle.std.specs.Prelude.{ℕ, ◌+◌, ◌&&◌, nat_le, if◌then◌else◌, pos, List, [], ◌∷◌, ◌++◌, length, take, drop, reverse, replicate, map, Option, Some, None}
use Rattle.jc_frames.specs.declared.cell.Cell.{Cell}
use Rattle.jc_frames.specs.declared.cell.Cell.TheVariants.{Short, Reference, ReturnAddress}
use Rattle.jc_frames.specs.declared.method.CallKind.{CallKind}
use Rattle.jc_frames.specs.declared.method.CallKind.TheVariants.{Instruction, ShareableRequest}
use Rattle.jc_frames.specs.declared.method.Entry.{Entry}
use Rattle.jc_frames.specs.declared.method.Origin.{Origin}
use Rattle.jc_frames.specs.declared.method.ReturnPoint.{ReturnPoint}
use Rattle.jc_frames.specs.declared.outcome.Outcome.{Outcome}
use Rattle.jc_frames.specs.declared.outcome.Outcome.TheVariants.{Void, Short as ShortReturned, Reference as ReferenceReturned, Fault}
use Rattle.jc_frames.specs.Cell.{without_dead}
use Rattle.jc_frames.specs.Frames.{Frame, Caller, Frames, Next, GoesOn, Ends, push}

-- a frame as its method begins: the arguments are its first locals, the others are short 0
abbrev pub first_frame : List Cell → ℕ → ℕ → ℕ → Origin → Frame
first_frame arguments locals limit place origin =
    record { locals = arguments ++ replicate locals (Short (pos 0)); stack = []; limit = limit; place = place; origin = origin }

-- frames in which nothing runs: no cell, and code of no package
abbrev pub empty_frames : Frames
empty_frames = record { current = first_frame [] 0 0 0 (record { package_number = 0; method = 0 }); callers = [] }

-- the cells that a calling frame counts: its locals, and those that are on its stack
abbrev pub calling_cells : List Caller → ℕ
calling_cells [] = 0
calling_cells (c ∷ rest) = length c.frame.locals + length c.frame.stack + calling_cells rest

-- the cells that all frames count: the one that begins all that its stack may hold
abbrev pub counted_cells : Frames → ℕ
counted_cells s = length s.current.locals + s.current.limit + calling_cells s.callers

-- at most 32 frames with 512 cells, or a code fault
abbrev pub within_limits : Frames → Next Frames
within_limits s = if nat_le (length s.callers) 31 && nat_le (counted_cells s) 512 then GoesOn s else Ends Fault

-- the frames after a call: the arguments leave the caller's stack, on which the last one is on top
abbrev pub frames_in_callee : Entry → Frames → Frames
frames_in_callee e s = record {
  current = first_frame (reverse (take e.arguments s.current.stack)) e.locals e.limit e.place e.origin;
  callers = record { frame = record s.current { stack = drop e.arguments s.current.stack }; resume = e.resume } ∷ s.callers;
}

-- the arguments of a call that has this many; none where they are not there
abbrev pub arguments_on : ℕ → List Cell → Option (List Cell)
arguments_on n stack = if nat_le n (length stack) then Some (reverse (take n stack)) else None

-- a call, or a code fault where the arguments are not there, or frames or cells are too many
abbrev pub call_or_fault : Entry → Frames → Next Frames
call_or_fault e s = if nat_le e.arguments (length s.current.stack) then within_limits (frames_in_callee e s) else Ends Fault

-- what a return comes back to, and the frames after it; none in the frame of no caller
abbrev pub frames_after_return : List Caller → Option (ReturnPoint × Frames)
frames_after_return [] = None
frames_after_return (c ∷ rest) = Some (c.resume, record { current = c.frame; callers = rest })

-- how a run ends whose outermost method hands this over
abbrev pub outcome_of : Option Cell → Outcome
outcome_of None = Void
outcome_of (Some (Short v)) = ShortReturned v
outcome_of (Some (Reference r)) = ReferenceReturned r
outcome_of (Some (ReturnAddress a)) = Fault

-- the caller goes on with what was handed over on its stack; the runtime environment awaits a reference
abbrev pub frames_with_result : CallKind → Option Cell → Frame → Next Frame
frames_with_result Instruction None s = GoesOn s
frames_with_result Instruction (Some cell) s = push cell s
frames_with_result ShareableRequest None s = Ends Fault
frames_with_result ShareableRequest (Some (Short v)) s = Ends Fault
frames_with_result ShareableRequest (Some (Reference r)) s = push (Reference r) s
frames_with_result ShareableRequest (Some (ReturnAddress a)) s = Ends Fault

-- ---- dead references

abbrev pub frame_without_dead : ℕ → Frame → Frame
frame_without_dead top f = record f { locals = map (without_dead top) f.locals; stack = map (without_dead top) f.stack }

abbrev pub caller_without_dead : ℕ → Caller → Caller
caller_without_dead top c = record c { frame = frame_without_dead top c.frame }

-- the frames with null for each reference to an object at or above the top
abbrev pub frames_without_dead : ℕ → Frames → Frames
frames_without_dead top s = record { current = frame_without_dead top s.current; callers = map (caller_without_dead top) s.callers }
