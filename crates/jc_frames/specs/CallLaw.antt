-- What calls and returns keep.
use Rattle.std.specs.Prelude.{◌≡◌, drop, Some}
use Rattle.jc_frames.specs.declared.method.Entry.{Entry}
use Rattle.jc_frames.specs.Frames.{Frames, GoesOn, with_stack}
use Rattle.jc_frames.specs.Calls.{call_or_fault, frames_after_return}

-- a call and its return leave the caller and all below it as they were, but for the arguments, whatever the
-- called method did in its own frame, and come back to what the call said
abbrev pub ReturnsToCaller : Type 0
ReturnsToCaller = (e : Entry) (s t u : Frames) → call_or_fault e s ≡ GoesOn t → u.callers ≡ t.callers
    → frames_after_return u.callers ≡ Some (e.resume, with_stack s (drop e.arguments s.current.stack))
