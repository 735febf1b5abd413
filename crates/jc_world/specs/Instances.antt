-- Instances of the platform's classes as arguments.
use Rattle.std.specs.Prelude.{ℕ, ◌≡◌, ◌≤◌, nat_le, Result, Ok, Err, if◌then◌else◌}
use Rattle.jc_heap.specs.declared.object.Facts.{Facts}
use Rattle.jc_heap.specs.declared.object.Kind.{Kind}
use Rattle.jc_heap.specs.declared.object.Kind.TheVariants.{Instance, BooleanArray, ByteArray, ShortArray, ReferenceArray}
use Rattle.jc_heap.specs.Heap.{IsObject, facts}
use Rattle.jc_memory.specs.State.{MemoryState}
use Rattle.jc_frames.specs.declared.outcome.Outcome.TheVariants.{Fault}
use Rattle.jc_frames.specs.declared.outcome.FrameExit.{FrameExit}
use Rattle.jc_frames.specs.declared.outcome.FrameExit.TheVariants.{End}
use Rattle.jc_world.specs.Objects.{object_at}
use Rattle.jc_world.specs.Answers.{and_then}

-- an instance with this many cells
abbrev pub with_cells : ℕ → Kind → Facts → Result Facts FrameExit
with_cells n Instance f = if nat_le n f.length then Ok f else Err (End Fault)
with_cells n BooleanArray f = Err (End Fault)
with_cells n ByteArray f = Err (End Fault)
with_cells n ShortArray f = Err (End Fault)
with_cells n ReferenceArray f = Err (End Fault)

-- the instance with this many cells that a reference names: null throws, and anything else is a code fault
unfoldable pub instance_at : MemoryState → ℕ → ℕ → Result Facts FrameExit
instance_at m r n = and_then (object_at m r) (λ f. with_cells n f.kind f)

-- an instance with this many cells is there
pub record IsInstanceWith (m : MemoryState) (r n : ℕ) : Type 0 where
  pub there : IsObject m.heap.now r
  pub instance : (facts m.heap.now r).kind ≡ Instance
  pub cells : n ≤ (facts m.heap.now r).length
