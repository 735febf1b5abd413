-- How the runtime environment answers after an applet's code has ended.
use Rattle.std.specs.Prelude.{ℕ, ◌&&◌, nat_lt, Bool, false, not, pos, Option, Some, None, if◌then◌else◌}
use Rattle.std.specs.Ordering.{int_eq}
use Rattle.jc_heap.specs.declared.object.Facts.{Facts}
use Rattle.jc_frames.specs.declared.outcome.Outcome.{Outcome}
use Rattle.jc_frames.specs.declared.outcome.Outcome.TheVariants.{Void, Short, Reference, Thrown, Fault}
use Rattle.jc_memory.specs.State.{MemoryState}
use Rattle.jc_memory.specs.Cells.{header_at, short_at}
use Rattle.jc_linker.specs.Values.{Packages}
use Rattle.jc_platform.specs.declared.names.PlatformClass.TheVariants.{IsoException}
use Rattle.jc_platform.specs.NamePlaces.{class_word}
use Rattle.jc_world.specs.Objects.{is_instance_of}
use Rattle.jc_dispatch.specs.declared.applet_result.AppletResult.{AppletResult}
use Rattle.jc_dispatch.specs.declared.applet_result.AppletResult.TheVariants.{Done, Reason, Unknown}

-- an ISOException has a reason, also one of a class below it
abbrev pub has_reason : Packages → Facts → Bool
has_reason p f = is_instance_of p f (class_word p.platform IsoException) && nat_lt 0 f.length

-- the reason of an exception with this header is the status word
abbrev pub result_of_exception : Packages → MemoryState → ℕ → Option Facts → AppletResult
result_of_exception p m r None = Unknown
result_of_exception p m r (Some f) = if has_reason p f then Reason (short_at m r 0) else Unknown

-- what a method that hands nothing over is answered by
unfoldable pub result_of_run : Packages → MemoryState → Outcome → AppletResult
result_of_run p m Void = Done
result_of_run p m (Short v) = Unknown
result_of_run p m (Reference r) = Unknown
result_of_run p m (Thrown r) = result_of_exception p m r (header_at m r)
result_of_run p m Fault = Unknown

-- select answered that the applet may be selected
abbrev pub is_select_accepted : Outcome → Bool
is_select_accepted Void = false
is_select_accepted (Short v) = not (int_eq v (pos 0))
is_select_accepted (Reference r) = false
is_select_accepted (Thrown r) = false
is_select_accepted Fault = false
