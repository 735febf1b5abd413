-- References in frames, of each of which the same is so.
use Rattle.std.specs.Prelude.{ℕ}
use Rattle.std.specs.List.{All}
use Rattle.jc_frames.specs.Frames.{Frame}
use Rattle.jc_api.specs.Referring.{CellRefersSo}

-- it is so of each in the locals of a frame, and on its stack
pub record FrameRefersSo (L : ℕ → Type 0) (f : Frame) : Type 0 where
  pub locals : All (CellRefersSo L) f.locals
  pub stack : All (CellRefersSo L) f.stack
