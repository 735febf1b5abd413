-- Frames: the locals and the operand stack of a method (virtual machine specification, frames), and the
-- frames of its callers.
use Rattle.std.specs.Prelude.{◌+◌, ◌&&◌, Bool, nat_lt, nat_le, if◌then◌else◌, length, slice_set, take, drop, ℕ, List, [], ◌∷◌, ◌++◌, Option, Some, None}
use Rattle.std.specs.Prelude.{Result, Ok, Err, ◌-◌, ◌≤◌, ◌≡◌, reverse}
use Rattle.jc_frames.specs.declared.cell.Cell.{Cell}
use Rattle.jc_frames.specs.declared.method.Origin.{Origin}
use Rattle.jc_frames.specs.declared.method.ReturnPoint.{ReturnPoint}
use Rattle.jc_frames.specs.declared.outcome.CodeFault.{CodeFault}
use Rattle.jc_frames.specs.declared.exceptions.Exception.{Exception}
use Rattle.jc_frames.specs.declared.outcome.Outcome.{Outcome}
use Rattle.jc_frames.specs.declared.outcome.Outcome.TheVariants.{Fault}
use Rattle.jc_frames.specs.declared.outcome.FrameExit.{FrameExit}
use Rattle.jc_frames.specs.declared.outcome.FrameExit.TheVariants.{Throw, End}
use Rattle.jc_frames.specs.declared.frames.Region.{Region}
use Rattle.jc_frames.specs.declared.frames.SavedFrame.{SavedFrame}

-- the locals; the stack with its top first, which holds at most this many cells; the place of the next
-- instruction; and the method
pub record Frame : Type 0 where
  pub locals : List Cell
  pub stack : List Cell
  pub limit : ℕ
  pub place : ℕ
  pub origin : Origin

-- a frame that waits for a call, and what its return comes back to
pub record Caller : Type 0 where
  pub frame : Frame
  pub resume : ReturnPoint

-- the frame that runs, and its callers, the nearest first
pub record Frames : Type 0 where
  pub current : Frame
  pub callers : List Caller

-- what follows: a state to go on from, an exception that is thrown there, or the end
pub data Next (S : Type 0) : Type 0 where
  GoesOn : S → Next S
  Throws : Exception → S → Next S
  Ends : Outcome → Next S

-- ---- what follows of a check, whatever goes on

-- goes on with what is there; where nothing is, this follows
abbrev pub if_some_else : {A B : Type 0} → B → Option A → (A → B) → B
if_some_else other None go = other
if_some_else other (Some a) go = go a

-- goes on with what a check gave; where it refused, this follows of its reason
abbrev pub if_ok_else : {A E B : Type 0} → (E → B) → Result A E → (A → B) → B
if_ok_else other (Ok a) go = go a
if_ok_else other (Err e) go = other e

-- ---- changes of a frame

-- goes on with a value, or a code fault where there is none
abbrev pub if_some : {A S : Type 0} → Option A → (A → Next S) → Next S
if_some o go = if_some_else (Ends Fault) o go

-- an exception is thrown: the stack is lost
abbrev pub thrown_at : Exception → Frame → Next Frame
thrown_at e s = Throws e (record s { stack = [] })

-- the stack has room for one more cell
abbrev pub has_room : Frame → Bool
has_room s = nat_lt (length s.stack) s.limit

-- a cell put on top, where there is room
abbrev pub push : Cell → Frame → Next Frame
push cell s = if nat_lt (length s.stack) s.limit then GoesOn (record s { stack = cell ∷ s.stack }) else Ends Fault

-- a cell put in a local, where there is one with this number
abbrev pub store_local : ℕ → Cell → Frame → Next Frame
store_local n cell s = if nat_lt n (length s.locals) then GoesOn (record s { locals = slice_set s.locals n cell }) else Ends Fault

-- the top m cells copied to below the top n, where they are there and there is room
abbrev pub copy_below : ℕ → ℕ → Frame → Next Frame
copy_below m n s =
    if nat_le m (length s.stack) && nat_le n (length s.stack) && nat_le (length s.stack + m) s.limit
    then GoesOn (record s { stack = take n s.stack ++ (take m s.stack ++ drop n s.stack) }) else Ends Fault

-- the top m cells and the n cells below them change places, where they are there
abbrev pub exchange_cells : ℕ → ℕ → Frame → Next Frame
exchange_cells m n s =
    if nat_le (m + n) (length s.stack)
    then GoesOn (record s { stack = take n (drop m s.stack) ++ (take m s.stack ++ drop (m + n) s.stack) }) else Ends Fault

-- ---- the frame that runs, among all frames

-- what the frame that runs does, its callers stay
abbrev pub in_frame : Frames → Next Frame → Next Frames
in_frame s (GoesOn f) = GoesOn (record s { current = f })
in_frame s (Throws e f) = Throws e (record s { current = f })
in_frame s (Ends o) = Ends o

-- another stack of the frame that runs
abbrev pub with_stack : Frames → List Cell → Frames
with_stack s cells = record s { current = record s.current { stack = cells } }

-- ---- what a call leaves

-- these frames, or a code fault
abbrev pub unless_fault : {S : Type 0} → Result (Unit {0}) CodeFault → S → Next S
unless_fault (Ok u) s = GoesOn s
unless_fault (Err e) s = Ends Fault

-- these frames, an exception thrown there, or the end
abbrev pub next_of : Result (Unit {0}) FrameExit → Frames → Next Frames
next_of (Ok u) s = GoesOn s
next_of (Err (Throw e)) s = Throws e (with_stack s [])
next_of (Err (End o)) s = Ends o

-- ---- how the cells of all frames lie in one array: each frame's locals, then its stack with its top last,
-- and the next frame begins where the stack of its caller ends.

-- a frame with these cells, where a region says the rest
abbrev pub frame_of_region : List Cell → List Cell → Region → Frame
frame_of_region locals stack r = record { locals = locals; stack = stack; limit = r.ceiling - r.bottom; place = r.place; origin = r.origin }

-- the frame whose cells end an array
abbrev pub frame_in : List Cell → Region → Frame
frame_in cells r = frame_of_region (drop r.base (take r.bottom cells)) (reverse (drop r.bottom cells)) r

abbrev pub caller_of : Frame → ReturnPoint → Caller
caller_of frame resume = record { frame = frame; resume = resume }

-- the callers whose cells end an array, the nearest first
abbrev pub callers_in : List Cell → List SavedFrame → List Caller
callers_in cells [] = []
callers_in cells (s ∷ rest) = caller_of (frame_in cells s.region) s.resume ∷ callers_in (take s.region.base cells) rest

-- the frames whose cells an array holds
abbrev pub frames_of : List Cell → Region → List SavedFrame → Frames
frames_of cells r saved = record { current = frame_in cells r; callers = callers_in (take r.base cells) saved }

-- the callers' cells reach to a place, each from where the one below ends, and the lowest from 0
abbrev pub AreStacked : ℕ → List SavedFrame → Type 0
AreStacked top [] = top ≡ 0
AreStacked top (s ∷ rest) = (s.region.base ≤ s.region.bottom) × (s.region.bottom ≤ top) × (top ≤ s.region.ceiling) × (s.region.ceiling ≤ 512)
    × AreStacked s.region.base rest
