-- Why a command was not attacked.
use Rattle.std.proofs.Common.{◌≡◌, ◌⊎◌, ◌++◌, ℕ, List, inl, inr, codes, subst, sym}
use Rattle.jcard_script.specs.declared.script.ScriptFault.{ScriptFault}
use Rattle.jcard_sweeps.specs.Runs.{IsRunFault}
use Rattle.jcard_sweeps.specs.declared.runs.RunFault.{RunFault}
use Rattle.jcard_sweeps.specs.declared.runs.RunFault.TheVariants as run
use Rattle.jcard_attack.specs.Aftermaths.{IsScriptFor, IsUnfinished, in_probe, lines_counted, probed_script, told_run_fault}
use Rattle.jcard_attack.specs.Sweep.{IsTraceFault, IsUnswept}
use Rattle.jcard_attack.specs.declared.aftermaths.AttackFault.{AttackFault}
use Rattle.jcard_attack.specs.declared.aftermaths.AttackFault.TheVariants.{NoMemory, Probe, TooManyInstructions}
use Rattle.jcard_attack.specs.declared.aftermaths.Attacked.{Attacked}

-- memory was refused
pub memory_unfinished : (words : List ℕ) (c : Attacked) (fault : AttackFault) → fault ≡ NoMemory → IsUnfinished words c fault
memory_unfinished words c fault e = subst (IsUnfinished words c) (sym e) tt

pub memory_unswept : (words : List ℕ) (c : Attacked) (fault : AttackFault) → fault ≡ NoMemory → IsUnswept words c fault
memory_unswept words c fault e = inl (memory_unfinished words c fault e)

-- a script was not carried out to its end
pub run_unfinished : (words : List ℕ) (c : Attacked) (script : List ℕ) (cause : RunFault) (fault : AttackFault) → IsScriptFor c script
    → IsRunFault c.instructions words script cause → fault ≡ told_run_fault cause → IsUnfinished words c fault
run_unfinished words c script run.NoMemory fault for is e = memory_unfinished words c fault e
run_unfinished words c script (run.Script x) fault for is e = subst (IsUnfinished words c) (sym e) (inl (script, for, is))

-- nor was the probe after one
pub probe_unfinished : (words : List ℕ) (c : Attacked) (script : List ℕ) (cause : ScriptFault) (fault : ScriptFault) → IsScriptFor c script
    → IsRunFault c.instructions words (probed_script c script) (run.Script cause) → fault ≡ in_probe (lines_counted (script ++ codes "glitch none\n")) cause
    → IsUnfinished words c (Probe fault)
probe_unfinished words c script cause fault for is e = (script, cause, for, is, e)

-- the instructions were not reported
pub trace_unswept : (words : List ℕ) (c : Attacked) (fault : AttackFault) → IsTraceFault fault → IsUnswept words c fault
trace_unswept words c fault (inl e) = memory_unswept words c fault e
trace_unswept words c fault (inr e) = inr (inr (inr e))
