-- Instructions on fields, arrays and objects spare what is outside reach: the firewall is asked before a cell is set.
use Rattle.std.specs.Prelude.{ℕ}
use Rattle.jc_frames.specs.declared.instr.ArrayOp.{ArrayOp}
use Rattle.jc_frames.specs.declared.instr.FieldOp.{FieldOp}
use Rattle.jc_frames.specs.declared.instr.TestedType.{TestedType}
use Rattle.jc_frames.specs.Frames.{Frames}
use Rattle.jc_memory.specs.State.{MemoryState}
use Rattle.jc_memory.specs.Reading.{AllDue}
use Rattle.jc_linker.specs.Values.{Packages}
use Rattle.jc_instructions.specs.FieldOps.{field_instruction}
use Rattle.jc_instructions.specs.ArrayOps.{array_instruction}
use Rattle.jc_instructions.specs.TypeChecks.{checkcast, instanceof}
use Rattle.jc_instructions.specs.ObjectCreation.{new_instance}
use Rattle.law_code.specs.Reach.{IsOutside}
use Rattle.law_code.specs.IsolationLaws.SparingEffects.{LeavesObject}

-- whatever frames and memory an instruction finds, each of its effects spares each object outside reach
abbrev pub FieldsSpare : Type 0
FieldsSpare = (field : FieldOp) (p : Packages) (s : Frames) (m : MemoryState) (q : ℕ) → IsOutside p m q
    → AllDue (LeavesObject q) (field_instruction field p s m) m

abbrev pub ArraysSpare : Type 0
ArraysSpare = (operation : ArrayOp) (p : Packages) (s : Frames) (m : MemoryState) (q : ℕ) → IsOutside p m q
    → AllDue (LeavesObject q) (array_instruction operation p s m) m

pub record ObjectsSpare : Type 0 where
  pub made : (index : ℕ) (p : Packages) (s : Frames) (m : MemoryState) (q : ℕ) → IsOutside p m q → AllDue (LeavesObject q) (new_instance index p s m) m
  pub checked : (type : TestedType) (p : Packages) (s : Frames) (m : MemoryState) (q : ℕ) → AllDue (LeavesObject q) (checkcast type p s m) m
  pub examined : (type : TestedType) (p : Packages) (s : Frames) (m : MemoryState) (q : ℕ) → AllDue (LeavesObject q) (instanceof type p s m) m
