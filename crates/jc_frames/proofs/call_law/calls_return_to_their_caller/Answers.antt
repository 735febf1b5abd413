use Rattle.std.proofs.Common.{◌≡◌, Bool, true, false, length, refl, sym, ap, ◌∙◌}
use Rattle.std.specs.Prelude.{if◌then◌else◌, nat_le, ◌&&◌}
use Rattle.jc_frames.specs.declared.method.Entry.{Entry}
use Rattle.jc_frames.specs.declared.outcome.Outcome.TheVariants.{Fault}
use Rattle.jc_frames.specs.Frames.{Frames, Next, GoesOn, Throws, Ends}
use Rattle.jc_frames.specs.Calls.{frames_in_callee, counted_cells, call_or_fault, frames_after_return}
use Rattle.jc_frames.proofs.call_law.calls_return_to_their_caller.Goals as goal

-- the frames that go on
abbrev going : Frames → Next Frames → Frames
going other (GoesOn s) = s
going other (Throws e s) = other
going other (Ends o) = other

goes_on : (b : Bool) (x t : Frames) → (if b then GoesOn x else Ends Fault) ≡ GoesOn t → t ≡ x
goes_on true x t e = sym (ap (going t) e)
goes_on false x t e = cc

goes_deep : (a b : Bool) (x t : Frames) → (if a then (if b then GoesOn x else Ends Fault) else Ends Fault) ≡ GoesOn t → t ≡ x
goes_deep true b x t e = goes_on b x t e
goes_deep false b x t e = cc

was_called : (e : Entry) (s t : Frames) → call_or_fault e s ≡ GoesOn t → t ≡ frames_in_callee e s
was_called e s t h = goes_deep (nat_le e.arguments (length s.current.stack)) (nat_le (length (frames_in_callee e s).callers) 31 && nat_le
    (counted_cells (frames_in_callee e s)) 512) (frames_in_callee e s) t h

pub returns : goal.returns
returns c = λ e s t u h same. ap frames_after_return (same ∙ ap (λ f. f.callers) (was_called e s t h)) ∙ refl
