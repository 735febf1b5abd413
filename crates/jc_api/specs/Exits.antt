-- How a call ends that is refused: it throws, or it is a code fault.
use Rattle.std.specs.Prelude.{Result, Ok, Err}
use Rattle.jc_frames.specs.declared.outcome.FrameExit.{FrameExit}
use Rattle.jc_frames.specs.declared.outcome.FrameExit.TheVariants.{Throw, End}
use Rattle.jc_frames.specs.declared.outcome.Outcome.TheVariants.{Fault}

-- an exception, or a code fault, whatever else would end the run
abbrev pub plain_exit : FrameExit → FrameExit
plain_exit (Throw e) = Throw e
plain_exit (End o) = End Fault

-- what a check gives, or such an exit
abbrev pub plainly : {A : Type 0} → Result A FrameExit → Result A FrameExit
plainly (Ok a) = Ok a
plainly (Err e) = Err (plain_exit e)
