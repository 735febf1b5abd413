-- What is reported where a command was not cut.
use Rattle.std.specs.Prelude.{ℕ, ◌≡◌, List}
use Rattle.jcard_script.specs.declared.script.ScriptFault.{ScriptFault}
use Rattle.jcard_script.specs.declared.script.ScriptFault.TheVariants as script
use Rattle.jcard_sweeps.specs.declared.sweep_fault.TearFault.{TearFault}
use Rattle.jcard_sweeps.specs.declared.sweep_fault.TearFault.TheVariants as tear
use Rattle.jcard_sweeps.specs.ScriptFault.{IsUnpowered}
use Rattle.jcard_files.specs.declared.fault.Fault.{Fault}
use Rattle.jcard_files.specs.declared.fault.Fault.TheVariants.{BadCommand, BadProbeCommand, Down, NoMemory, ProbeTooLong, ScriptTooLong, TooManyCuts}

-- what is reported where lines were not carried out in memory over the image with this name, where a text is read and written as long as
-- there is memory
abbrev pub IsFaultInMemory : List ℕ → ScriptFault → Fault → Type 0
IsFaultInMemory image script.ReadFailed fault = fault ≡ NoMemory
IsFaultInMemory image script.WriteFailed fault = fault ≡ NoMemory
IsFaultInMemory image (script.BadLine n) fault = fault ≡ BadCommand n
IsFaultInMemory image script.TooLong fault = fault ≡ ScriptTooLong
IsFaultInMemory image (script.PowerFault cause) fault = IsUnpowered image cause fault

-- the same of the lines of a probe, which are reported as the probe's
abbrev pub IsProbeFaultInMemory : List ℕ → ScriptFault → Fault → Type 0
IsProbeFaultInMemory image (script.BadLine n) fault = fault ≡ BadProbeCommand n
IsProbeFaultInMemory image script.TooLong fault = fault ≡ ProbeTooLong
IsProbeFaultInMemory image other fault = IsFaultInMemory image other fault

-- what is reported where a command was not cut over the image with this name: the fault of the script or of the probe, or the cause itself
abbrev pub IsTearFault : List ℕ → TearFault → Fault → Type 0
IsTearFault image tear.NoMemory fault = fault ≡ NoMemory
IsTearFault image (tear.Script cause) fault = IsFaultInMemory image cause fault
IsTearFault image (tear.Probe cause) fault = IsProbeFaultInMemory image cause fault
IsTearFault image tear.Down fault = fault ≡ Down
IsTearFault image tear.TooManyCuts fault = fault ≡ TooManyCuts
