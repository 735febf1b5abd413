-- Instructions on arrays.
use Rattle.jc_frames.specs.declared.instr.ArrayOp.{ArrayOp}
use Rattle.jc_frames.specs.declared.instr.ArrayOp.TheVariants.{Load, Store, NewArray, ANewArray, ArrayLength}
use Rattle.jc_frames.specs.Frames.{Frames, Next}
use Rattle.jc_memory.specs.State.{MemoryState}
use Rattle.jc_memory.specs.Programs.{Program}
use Rattle.jc_linker.specs.Values.{Packages}
use Rattle.jc_instructions.specs.ArrayAccess.{arraylength, array_load, array_store}
use Rattle.jc_instructions.specs.ArrayCreation.{newarray, anewarray}

unfoldable pub array_instruction : ArrayOp → Packages → Frames → MemoryState → Program (Next Frames)
array_instruction (Load of_type) p s m = array_load of_type p s m
array_instruction (Store of_type) p s m = array_store of_type p s m
array_instruction (NewArray of_type) p s m = newarray of_type s m
array_instruction (ANewArray index) p s m = anewarray index p s m
array_instruction ArrayLength p s m = arraylength p s m
