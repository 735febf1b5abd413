-- What methods return, and checks in a row.
use Rattle.std.specs.Prelude.{ℤ, pos, Bool, Result, Err, if◌then◌else◌}
use Rattle.jc_frames.specs.declared.cell.Cell.TheVariants.{Short}
use Rattle.jc_frames.specs.declared.outcome.FrameExit.{FrameExit}
use Rattle.jc_frames.specs.Frames.{if_ok_else}
use Rattle.jc_world.specs.declared.native_result.NativeResult.{NativeResult}
use Rattle.jc_world.specs.declared.native_result.NativeResult.TheVariants.{ReturnValue}
use Rattle.jc_world.specs.NativeCalls.{NativeProgram, return_value}

-- a number, and a boolean, as methods return them
abbrev pub short_value : ℤ → NativeResult
short_value v = ReturnValue (Short v)

abbrev pub bool_value : Bool → NativeResult
bool_value b = short_value (if b then pos 1 else pos 0)

-- it returns this number
abbrev pub returns_short : ℤ → NativeProgram
returns_short v = return_value (short_value v)

-- it returns this boolean
abbrev pub returns_bool : Bool → NativeProgram
returns_bool b = return_value (bool_value b)

-- with what a check gave, the next
abbrev pub and_then : {A B : Type 0} → Result A FrameExit → (A → Result B FrameExit) → Result B FrameExit
and_then check go = if_ok_else Err check go
