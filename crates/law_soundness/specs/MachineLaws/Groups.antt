-- Instructions on fields, arrays and objects leave a memory sound: what they set fits the packages that are linked.
use Rattle.std.specs.Prelude.{ℕ, ◌≡◌}
use Rattle.jc_frames.specs.declared.instr.ArrayOp.{ArrayOp}
use Rattle.jc_frames.specs.declared.instr.FieldOp.{FieldOp}
use Rattle.jc_frames.specs.declared.instr.TestedType.{TestedType}
use Rattle.jc_frames.specs.Frames.{Frames}
use Rattle.jc_transient.specs.Owners.{owner_number}
use Rattle.jc_memory.specs.State.{MemoryState}
use Rattle.jc_memory.specs.Reading.{AllDue}
use Rattle.jc_linker.specs.Values.{Packages}
use Rattle.jc_instructions.specs.FieldOps.{field_instruction}
use Rattle.jc_instructions.specs.ArrayOps.{array_instruction}
use Rattle.jc_instructions.specs.TypeChecks.{checkcast, instanceof}
use Rattle.jc_instructions.specs.ObjectCreation.{new_instance}
use Rattle.law_code.specs.Classes.{KnowsClasses}
use Rattle.law_soundness.specs.MemoryLaws.Fit.{IsFit}
use Rattle.law_soundness.specs.MemoryLaws.State.{IsSoundMemory, IsSteady}

-- whatever frames an instruction finds, in a sound memory each of its effects fits
abbrev pub FieldsFit : Type 0
FieldsFit = (field : FieldOp) (p : Packages) (s : Frames) (m : MemoryState) → KnowsClasses p → IsSoundMemory p m
    → AllDue (IsFit p) (field_instruction field p s m) m

abbrev pub ArraysFit : Type 0
ArraysFit = (operation : ArrayOp) (p : Packages) (s : Frames) (m : MemoryState) → KnowsClasses p → IsSoundMemory p m → IsSteady m
    → AllDue (IsFit p) (array_instruction operation p s m) m

-- (an object is made while code runs for another owner than the runtime environment)
pub record ObjectsFit : Type 0 where
  pub made : (index : ℕ) (p : Packages) (s : Frames) (m : MemoryState) → KnowsClasses p → IsSoundMemory p m → IsSteady m
      → (owner_number m.registers.active ≡ 0 → ⊥) → AllDue (IsFit p) (new_instance index p s m) m
  pub checked : (type : TestedType) (p : Packages) (s : Frames) (m : MemoryState) → AllDue (IsFit p) (checkcast type p s m) m
  pub examined : (type : TestedType) (p : Packages) (s : Frames) (m : MemoryState) → AllDue (IsFit p) (instanceof type p s m) m
