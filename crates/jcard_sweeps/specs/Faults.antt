-- Why a command was not swept.
use Rattle.std.specs.Prelude.{ℕ, ◌≡◌, ◌⊎◌, List}
use Rattle.jc_card.specs.declared.power_up.PowerFault.TheVariants.{BadLog, BadPackage}
use Rattle.jcard_script.specs.declared.script.ScriptFault.TheVariants.{PowerFault}
use Rattle.jcard_sweeps.specs.Runs.{IsRunFault}
use Rattle.jcard_sweeps.specs.declared.runs.RunFault.{RunFault}
use Rattle.jcard_sweeps.specs.declared.runs.RunFault.TheVariants as run
use Rattle.jcard_sweeps.specs.declared.sweep_fault.TearFault.{TearFault}
use Rattle.jcard_sweeps.specs.declared.sweep_fault.TearFault.TheVariants.{NoMemory, Script, Probe}

-- what is reported where a script was not carried out to its end
abbrev pub told_run_fault : RunFault → TearFault
told_run_fault run.NoMemory = NoMemory
told_run_fault (run.Script fault) = Script fault

-- memory was refused for a recovery or the probe; or, with at most this many instructions a command, one of them was not carried out to its end:
-- a recovery because the log is bad, an image because what stands in it is, and the lines of the probe, over some words, as this says
abbrev pub IsProbeFault : ℕ → List ℕ → TearFault → Type 0
IsProbeFault budget probe NoMemory = Unit {0}
IsProbeFault budget probe (Probe fault) = ((words : List ℕ) × IsRunFault budget words probe (run.Script fault)) ⊎ (fault ≡ PowerFault BadLog)
    ⊎ (fault ≡ PowerFault BadPackage)
IsProbeFault budget probe other = ⊥

-- memory was refused, or what stands in an image is bad
abbrev pub IsImageFault : TearFault → Type 0
IsImageFault NoMemory = Unit {0}
IsImageFault (Probe fault) = fault ≡ PowerFault BadPackage
IsImageFault other = ⊥

-- memory was refused, or the log of an image is bad
abbrev pub IsLogFault : RunFault → Type 0
IsLogFault run.NoMemory = Unit {0}
IsLogFault (run.Script fault) = fault ≡ PowerFault BadLog

-- memory was refused for a recovery or the lines of a probe, or one of them was not carried out to its end
abbrev pub IsLeftFault : ℕ → List ℕ → RunFault → Type 0
IsLeftFault budget probe run.NoMemory = Unit {0}
IsLeftFault budget probe (run.Script fault) = IsProbeFault budget probe (Probe fault)
