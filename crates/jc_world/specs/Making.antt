-- New objects.
use Rattle.jc_frames.specs.declared.cell.Cell.TheVariants.{Reference}
use Rattle.jc_frames.specs.Frames.{Frames, Next}
use Rattle.jc_memory.specs.declared.making.NewObject.{NewObject}
use Rattle.jc_memory.specs.State.{MemoryState}
use Rattle.jc_memory.specs.Making.{object_creation, creation_refusal}
use Rattle.jc_memory.specs.Programs.{Program}
use Rattle.jc_world.specs.Instructions.{continue_with, unless}
use Rattle.jc_world.specs.Values.{with_top}

-- a new object comes on the stack, unless there is no space or no room for it
unfoldable pub new_on_top : NewObject → Frames → MemoryState → Program (Next Frames)
new_on_top o s m = unless s (creation_refusal m o) (object_creation o (λ r. continue_with (with_top (Reference r) s)))
