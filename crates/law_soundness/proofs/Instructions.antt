-- Instructions that call no method.
use Rattle.std.proofs.Common.{◌≡◌, ℕ, false}
use Rattle.std.proofs.lemmas.Bool.{not-true, true≢false}
use Rattle.std.specs.Prelude.{◌==◌}
use Rattle.jc_memory.specs.State.{MemoryState}
use Rattle.jc_memory.specs.Reading.{AllDue}
use Rattle.jc_linker.specs.Values.{Packages}
use Rattle.jc_frames.specs.declared.instr.Instr.TheVariants.{Return, Field, Array, Object, Invoke}
use Rattle.jc_frames.specs.declared.instr.ObjectOp.{ObjectOp}
use Rattle.jc_frames.specs.declared.instr.ObjectOp.TheVariants.{New, Athrow, CheckCast, InstanceOf}
use Rattle.jc_frames.specs.Frames.{Frames}
use Rattle.jc_interp.specs.Step.{instruction_at, object_instruction}
use Rattle.law_code.specs.Classes.{KnowsClasses}
use Rattle.law_soundness.specs.MemoryLaws.Fit.{IsFit}
use Rattle.law_soundness.proofs.Arrays.{arrays_are_fit}
use Rattle.law_soundness.proofs.Fields.{fields_are_fit}
use Rattle.law_soundness.proofs.Machines.{sound_callers}
use Rattle.law_soundness.proofs.ObjectInstructions.{objects_are_fit}
use Rattle.law_soundness.specs.Machines.{IsSoundMachine}
use Rattle.law_code.specs.Methods.{KnowsMethods}
use Rattle.law_soundness.specs.MachineLaws.Steps.{InstructionsFit}
use Rattle.law_soundness.proofs.Leaves.{leaves_are_fit}

operated_due : (o : ObjectOp) (place : ℕ) (p : Packages) (s : Frames) (m : MemoryState) → KnowsClasses p → KnowsMethods p → IsSoundMachine p s m
    → s.current.origin.package_number == 0 ≡ false → AllDue (IsFit p) (object_instruction o place p s m) m
operated_due (New index) place p s m known methods machine home = objects_are_fit.made index p s m known machine.sound machine.steady (machine.code home)
operated_due Athrow place p s m known methods machine home = leaves_are_fit.throws place p s m (sound_callers p s m methods machine)
operated_due (CheckCast type) place p s m known methods machine home = objects_are_fit.checked type p s m
operated_due (InstanceOf type) place p s m known methods machine home = objects_are_fit.examined type p s m

pub instructions_are_fit : InstructionsFit
unfolding instruction_at
instructions_are_fit (Return how) code place p s m known methods machine no_call plain = leaves_are_fit.returns how p s m (sound_callers p s m methods machine)
instructions_are_fit (Field field) code place p s m known methods machine no_call plain = fields_are_fit field p s m known machine.sound
instructions_are_fit (Array operation) code place p s m known methods machine no_call plain = arrays_are_fit operation p s m known machine.sound machine.steady
instructions_are_fit (Object operation) code place p s m known methods machine no_call plain =
    operated_due operation place p s m known methods machine (not-true (s.current.origin.package_number == 0) plain)
instructions_are_fit (Invoke method) code place p s m known methods machine no_call plain = absurd (true≢false no_call)
instructions_are_fit _ code place p s m known methods machine no_call plain = tt
