-- Why code does not go on, and what refusals become.
use Rattle.jc_heap.specs.declared.refusal.ChangeRefusal.{ChangeRefusal}
use Rattle.jc_heap.specs.declared.refusal.ChangeRefusal.TheVariants as change
use Rattle.jc_heap.specs.declared.refusal.HeapRefusal.{HeapRefusal}
use Rattle.jc_heap.specs.declared.refusal.HeapRefusal.TheVariants as making
use Rattle.jc_frames.specs.declared.exceptions.Exception.{Exception}
use Rattle.jc_frames.specs.Reasons.{buffer_full, no_resource, no_transient_space}
use Rattle.jc_frames.specs.declared.outcome.FrameExit.{FrameExit}
use Rattle.jc_frames.specs.declared.outcome.FrameExit.TheVariants as stop
use Rattle.jc_world.specs.declared.step_exit.StepExit.{StepExit}
use Rattle.jc_world.specs.declared.step_exit.StepExit.TheVariants.{Throw, End, Down}

-- what is thrown where a change or a new object is refused: BUFFER_FULL where the transaction has no room,
-- NO_RESOURCE where the heap has no space, NO_TRANSIENT_SPACE where a transient area has none. (A store that
-- refuses a write throws nothing.)
abbrev pub exception_of : HeapRefusal → Exception
exception_of making.StoreDown = no_resource
exception_of making.CommitFull = buffer_full
exception_of making.HeapFull = no_resource
exception_of making.NoTransientSpace = no_transient_space

abbrev pub exit_of_frames : FrameExit → StepExit
exit_of_frames (stop.Throw e) = Throw e
exit_of_frames (stop.End o) = End o

abbrev pub exit_of_creation : HeapRefusal → StepExit
exit_of_creation making.StoreDown = Down
exit_of_creation making.CommitFull = Throw (exception_of making.CommitFull)
exit_of_creation making.HeapFull = Throw (exception_of making.HeapFull)
exit_of_creation making.NoTransientSpace = Throw (exception_of making.NoTransientSpace)

abbrev pub exit_of_change : ChangeRefusal → StepExit
exit_of_change change.StoreDown = Down
exit_of_change change.CommitFull = Throw (exception_of making.CommitFull)
