-- References in frames: null, or an object that is there.
use Rattle.std.specs.Prelude.{ℕ, List, [], ◌∷◌, nat_lt, if◌then◌else◌}
use Rattle.std.specs.List.{All}
use Rattle.jc_heap.specs.Heap.{HeapState}
use Rattle.jc_heap.specs.WholeHeap.{IsReference}
use Rattle.jc_frames.specs.declared.cell.Cell.{Cell}
use Rattle.jc_frames.specs.declared.outcome.Outcome.{Outcome}
use Rattle.jc_frames.specs.declared.outcome.Outcome.TheVariants as ends
use Rattle.jc_frames.specs.Frames.{Caller, Frame, Frames}
use Rattle.jc_api.specs.Referring.{CellRefersSo}
use Rattle.law_code.specs.FrameReferences.{FrameRefersSo}

-- a reference in a cell is null or names an object
abbrev pub IsLivingCell : HeapState → Cell → Type 0
IsLivingCell h = CellRefersSo (IsReference h)

-- and so is each in these cells
abbrev pub AreLivingCells : HeapState → List Cell → Type 0
AreLivingCells h cells = All (IsLivingCell h) cells

-- in the locals of a frame, and on its stack
abbrev pub IsLivingFrame : HeapState → Frame → Type 0
IsLivingFrame h f = FrameRefersSo (IsReference h) f

-- in the frames of callers
abbrev pub AreLivingCallers : HeapState → List Caller → Type 0
AreLivingCallers h [] = Unit {0}
AreLivingCallers h (c ∷ callers) = IsLivingFrame h c.frame × AreLivingCallers h callers

-- in the frame that runs, and in those of its callers
pub record AreLivingFrames (h : HeapState) (s : Frames) : Type 0 where
  pub current : IsLivingFrame h s.current
  pub callers : AreLivingCallers h s.callers

-- what a run ends with: a reference that it returns, and an exception that nothing caught, is null or names an object
abbrev pub IsLivingOutcome : HeapState → Outcome → Type 0
IsLivingOutcome h ends.Void = Unit {0}
IsLivingOutcome h (ends.Short v) = Unit {0}
IsLivingOutcome h (ends.Reference r) = IsReference h r
IsLivingOutcome h (ends.Thrown r) = IsReference h r
IsLivingOutcome h ends.Fault = Unit {0}

-- what refers in one heap refers in another
abbrev pub KeepsReferences : HeapState → HeapState → Type 0
KeepsReferences old new = (r : ℕ) → IsReference old r → IsReference new r

-- what refers in one heap, and does not lie at or above the other's top, refers there
abbrev pub KeepsReferencesBelow : HeapState → HeapState → Type 0
KeepsReferencesBelow old new = (r : ℕ) → IsReference old r → IsReference new (if nat_lt r new.top then r else 0)
