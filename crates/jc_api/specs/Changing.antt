-- Form 2 of calls: a call that reads, and then puts bytes into an array of its caller and sets the state of an object of the platform.
use Rattle.std.specs.Prelude.{ℕ, ℤ, pos, ◌+◌, ◌≡◌, ◌≤◌, ◌<◌, ◌&&◌, nat_le, is_ok, is_some, Bool, List, length, map, Option, Some, None, Result, Ok, Err, if◌then◌else◌}
use Rattle.jc_transient.specs.Cell.{number_of}
use Rattle.jc_transient.specs.declared.cell.ClearEvent.{ClearEvent}
use Rattle.jc_heap.specs.Heap.{IsObject, facts}
use Rattle.jc_heap.specs.declared.object.Facts.{Facts}
use Rattle.jc_heap.specs.declared.object.Kind.TheVariants.{ShortArray}
use Rattle.jc_firewall.specs.declared.access.Access.TheVariants.{ArrayElement}
use Rattle.jc_frames.specs.declared.outcome.FrameExit.{FrameExit}
use Rattle.jc_frames.specs.declared.outcome.FrameExit.TheVariants.{End}
use Rattle.jc_frames.specs.declared.outcome.Outcome.TheVariants.{Fault}
use Rattle.jc_memory.specs.Cells.{cells_effect, cells_refusal, header_at}
use Rattle.jc_memory.specs.Programs.{Perform}
use Rattle.jc_memory.specs.State.{Effect, MemoryState, SetTransient}
use Rattle.jc_linker.specs.Values.{Packages}
use Rattle.jc_world.specs.Contexts.{firewall_check}
use Rattle.jc_world.specs.NativeCalls.{NativeProgram, if_ok, return_value, unless}
use Rattle.jc_world.specs.declared.arrays.Stretch.{Stretch}
use Rattle.jc_api.specs.Arguments.{elements_at}
use Rattle.jc_api.specs.Exits.{plainly}
use Rattle.jc_api.specs.Forms.{Output, elements_for, result_value}
use Rattle.jc_api.specs.Kinds.{is_shorts}

-- ---- the state of an object of the platform: cells of a transient array of shorts, to which a cell of the object leads

-- a header is that of a transient array of shorts with this many cells, which the code that runs may use
abbrev pub holds_state : Packages → MemoryState → ℕ → Facts → Bool
holds_state p m end f = is_shorts f.kind && (is_some f.event && (is_ok (firewall_check ArrayElement p m f) && nat_le end f.length))

abbrev pub state_in : Packages → MemoryState → ℕ → ℕ → ℕ → Option Facts → Result Stretch FrameExit
state_in p m array start count None = Err (End Fault)
state_in p m array start count (Some f) = if holds_state p m (start + count) f then Ok (record { array = array; start = start; count = count }) else Err (End Fault)

-- a number of cells of such an array, from one on. Whatever is not so is a code fault, since no code of an applet names the array
unfoldable pub state_at : Packages → MemoryState → ℕ → ℕ → ℕ → Result Stretch FrameExit
state_at p m array start count = state_in p m array start count (header_at m array)

-- these cells of a transient array of shorts are there
pub record IsState (m : MemoryState) (e : Stretch) : Type 0 where
  pub there : IsObject m.heap.now e.array
  pub shorts : (facts m.heap.now e.array).kind ≡ ShortArray
  pub event : ClearEvent
  pub transient : (facts m.heap.now e.array).event ≡ Some event
  pub within : e.start + e.count ≤ (facts m.heap.now e.array).length
  pub ends : e.start + e.count < 65536

-- ---- what a call answers

-- words for cells of such an array, from one on
pub record StateWords : Type 0 where
  pub array : ℕ
  pub start : ℕ
  pub words : List ℕ

-- the state that a call leaves, what it puts into an array of its caller as one change, if anything, and the number that it returns, if it
-- returns one
pub record EngineAnswer : Type 0 where
  pub state : StateWords
  pub output : Option Output
  pub result : Option ℤ

-- it sets cells of a state
abbrev pub changes : ℕ → ℕ → List ℕ → Option ℤ → EngineAnswer
changes array start words result = record { state = record { array = array; start = start; words = words }; output = None; result = result }

-- and puts bytes into elements that it asked for
abbrev pub changes_and_puts : ℕ → ℕ → List ℕ → Stretch → List ℕ → Option ℤ → EngineAnswer
changes_and_puts array start words e bytes result =
    record { state = record { array = array; start = start; words = words }; output = Some (elements_for e bytes); result = result }

-- ---- form 2

-- the elements of the output are asked for, then the room for them; then the bytes are put, and the state is set, which nothing refuses
abbrev pub change_then : Option Output → Effect → Packages → MemoryState → NativeProgram → NativeProgram
change_then None change p m rest = Perform change rest
change_then (Some o) change p m rest = if_ok (elements_at p m o.array o.start (pos (length o.bytes)))
    (λ e. unless (cells_refusal m e.array e.start o.bytes) (Perform (cells_effect m e.array e.start o.bytes) (Perform change rest)))

-- what such a call does: first the cells of the state are asked for
abbrev pub changing_call : Result EngineAnswer FrameExit → Packages → MemoryState → NativeProgram
changing_call answer p m = if_ok (plainly answer) (λ a. if_ok (state_at p m a.state.array a.state.start (length a.state.words))
    (λ e. change_then a.output (SetTransient e.array e.start (map number_of a.state.words)) p m (return_value (result_value a.result))))
