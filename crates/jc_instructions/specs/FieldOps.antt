-- Instructions on fields.
use Rattle.jc_frames.specs.declared.instr.FieldOp.{FieldOp}
use Rattle.jc_frames.specs.declared.instr.FieldOp.TheVariants.{GetStatic, PutStatic, GetField, PutField, GetFieldThis, PutFieldThis}
use Rattle.jc_frames.specs.Frames.{Frames, Next}
use Rattle.jc_memory.specs.State.{MemoryState}
use Rattle.jc_memory.specs.Programs.{Program}
use Rattle.jc_linker.specs.Values.{Packages}
use Rattle.jc_instructions.specs.Fields.{getfield, getfield_this, putfield, putfield_this}
use Rattle.jc_instructions.specs.StaticFields.{getstatic, putstatic}

unfoldable pub field_instruction : FieldOp → Packages → Frames → MemoryState → Program (Next Frames)
field_instruction (GetStatic of_type index) p s m = getstatic of_type index p s m
field_instruction (PutStatic of_type index) p s m = putstatic of_type index p s m
field_instruction (GetField of_type index) p s m = getfield of_type index p s m
field_instruction (PutField of_type index) p s m = putfield of_type index p s m
field_instruction (GetFieldThis of_type index) p s m = getfield_this of_type index p s m
field_instruction (PutFieldThis of_type index) p s m = putfield_this of_type index p s m
