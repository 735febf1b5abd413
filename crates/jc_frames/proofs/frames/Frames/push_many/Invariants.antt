use Rattle.std.proofs.Common.{◌≡◌, ◌-◌, ◌++◌, length, drop}
use Rattle.jc_frames.specs.Frames.{with_stack}
use Rattle.jc_frames.proofs.frames.Frames.push_many.Given as goal

abbrev pub invariant-loop-place : goal.invariant-loop-place
invariant-loop-place l = l.self ≡ with_stack l.fn.self (drop (length l.cells - l.place) l.cells ++ l.fn.self.current.stack)
