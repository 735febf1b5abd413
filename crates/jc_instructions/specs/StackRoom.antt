-- Room on the stack of the frame that runs.
use Rattle.std.specs.Prelude.{Option, None, if◌then◌else◌}
use Rattle.jc_frames.specs.Frames.{Frames, has_room}

-- this, where the stack has room for one more cell
abbrev pub if_room : {A : Type 0} → Frames → Option A → Option A
if_room s value = if has_room s.current then value else None
