-- Form 6 of calls: a call that returns the reference in a cell of its receiver, which is persistent.
use Rattle.std.specs.Prelude.{ℕ, ◌≡◌, ◌+◌, ◌≤◌, is_none, List, length, None, Result, Ok, Err, if◌then◌else◌}
use Rattle.jc_heap.specs.Heap.{cells, facts}
use Rattle.jc_frames.specs.declared.cell.Cell.{Cell}
use Rattle.jc_frames.specs.declared.cell.Cell.TheVariants.{Reference}
use Rattle.jc_frames.specs.declared.outcome.FrameExit.{FrameExit}
use Rattle.jc_frames.specs.declared.outcome.FrameExit.TheVariants.{End}
use Rattle.jc_frames.specs.declared.outcome.Outcome.TheVariants.{Fault}
use Rattle.jc_memory.specs.Cells.{word_at}
use Rattle.jc_memory.specs.State.{MemoryState}
use Rattle.jc_platform.specs.declared.names.PlatformClass.{PlatformClass}
use Rattle.jc_linker.specs.Values.{Packages}
use Rattle.jc_world.specs.Answers.{and_then}
use Rattle.jc_world.specs.Instances.{IsInstanceWith}
use Rattle.jc_world.specs.NativeCalls.{NativeProgram, if_ok, return_value}
use Rattle.jc_world.specs.declared.native_result.NativeResult.TheVariants.{ReturnValue}
use Rattle.jc_api.specs.Initializing.{instance_called}

-- a persistent instance with this many cells is there
pub record IsPersistentInstance (m : MemoryState) (r n : ℕ) : Type 0 where
  pub there : IsInstanceWith m r n
  pub event : (facts m.heap.now r).event ≡ None
  pub cells : n ≤ length (cells m.heap.now r)

abbrev pub if_persistent : MemoryState → ℕ → Result ℕ FrameExit
if_persistent m own = if is_none (facts m.heap.now own).event then Ok own else Err (End Fault)

-- the receiver of a call, a persistent instance of this class with this many cells: null throws, and anything else is a code fault
unfoldable pub persistent_called : PlatformClass → ℕ → List Cell → Packages → MemoryState → Result ℕ FrameExit
persistent_called class cells args p m = and_then (instance_called class cells args p m) (if_persistent m)

-- what such a call does: of a receiver of this class, cell i is read
abbrev pub keeping_call : PlatformClass → ℕ → List Cell → Packages → MemoryState → NativeProgram
keeping_call class i args p m = if_ok (persistent_called class (i + 1) args p m) (λ own. return_value (ReturnValue (Reference (word_at m own i))))
