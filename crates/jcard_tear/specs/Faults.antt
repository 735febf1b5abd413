-- Why a command was not cut after each number of its writes.
use Rattle.std.specs.Prelude.{ℕ, ◌≡◌, ◌⊎◌, ◌+◌, ◌≤◌, true, List, ◌++◌, Option, Some, slice_get}
use Rattle.jc_words.specs.Store.{FuseStoreValue}
use Rattle.jcard_outcomes.specs.declared.recoveries.Recoveries.{Recoveries}
use Rattle.jcard_outcomes.specs.declared.standing.Left.{Left}
use Rattle.jcard_sweeps.specs.Faults.{IsProbeFault}
use Rattle.jcard_sweeps.specs.Runs.{IsRunFault, Runs}
use Rattle.jcard_sweeps.specs.ScriptLines.{Line}
use Rattle.jcard_tear.specs.Sweep.{IsCutAt, IsProbe, cut_script}
use Rattle.jcard_sweeps.specs.declared.command.Behind.{Behind}
use Rattle.jcard_sweeps.specs.declared.command.Command.{Command}
use Rattle.jcard_sweeps.specs.declared.runs.RunFault.{RunFault}
use Rattle.jcard_sweeps.specs.declared.runs.RunFault.TheVariants as run
use Rattle.jcard_sweeps.specs.declared.sweep_fault.TearFault.{TearFault}
use Rattle.jcard_sweeps.specs.declared.sweep_fault.TearFault.TheVariants.{NoMemory, Script, Probe, Down, TooManyCuts}

-- what is reported where a recovery or the probe after it was not
abbrev pub told_probe_fault : RunFault → TearFault
told_probe_fault run.NoMemory = NoMemory
told_probe_fault (run.Script fault) = Probe fault

-- a script that is carried out for the cuts of a command: the lines before it; those and it; or those and it, with the power cut after
-- some number of its writes
abbrev pub IsScriptFor : Command → List ℕ → Type 0
IsScriptFor c script = (script ≡ c.before.now) ⊎ (script ≡ c.before.now ++ c.line.now) ⊎ ((k : ℕ) × (script ≡ cut_script c k))

-- one of them was carried out to its end over these words
abbrev pub IsCarriedOut : List ℕ → Command → Type 0
IsCarriedOut words c = (script text : List ℕ) × (after : FuseStoreValue) × IsScriptFor c script × Runs c.behind.instructions words script text after

-- the command is cut after a number of writes, and this many more are not counted
abbrev pub IsCutPast : List ℕ → Command → ℕ → Type 0
IsCutPast words c step = (k : ℕ) × (left : Left) × (recoveries : Recoveries) × IsCutAt words c k left recoveries × ((65535 ≤ k + step) ⊎ (step ≡ 0))

-- why a command was not cut after every this many of its writes: memory was refused; a script for it ended so, before its end; one was
-- carried out, but not a recovery or a probe after it; the card is down at the command; or there are too many cuts
abbrev pub IsUncutFor : List ℕ → Command → ℕ → TearFault → Type 0
IsUncutFor words c step NoMemory = Unit {0}
IsUncutFor words c step (Script fault) = (script : List ℕ) × IsScriptFor c script × IsRunFault c.behind.instructions words script (run.Script fault)
IsUncutFor words c step (Probe fault) = IsCarriedOut words c × IsProbeFault c.behind.instructions c.probe.now (Probe fault)
IsUncutFor words c step Down = (text : List ℕ) × (after : FuseStoreValue) × Runs c.behind.instructions words (c.before.now ++ c.line.now) text after × (after.down ≡ true)
IsUncutFor words c step TooManyCuts = IsCutPast words c step

-- memory was refused, or the script before a line was not carried out to its end
abbrev pub IsUnbegun : ℕ → List ℕ → List ℕ → TearFault → Type 0
IsUnbegun budget words before NoMemory = Unit {0}
IsUnbegun budget words before (Script fault) = IsRunFault budget words before (run.Script fault)
IsUnbegun budget words before other = ⊥

-- the same of the command in a line, after whose cuts this was to come
abbrev pub IsLineUncut : List ℕ → Option (List ℕ) → Behind → Line → ℕ → TearFault → Type 0
IsLineUncut words given behind l step fault = IsUnbegun behind.instructions words l.before fault
    ⊎ ((c : Command) × (c.before.now ≡ l.before) × (c.line.now ≡ l.text) × (c.behind ≡ behind)
    × IsProbe behind.instructions words given l.before c.probe.now × IsUncutFor words c step fault)

-- one of the commands in these lines was not cut after each of its writes; or memory was refused for them
abbrev pub IsOneUncut : List ℕ → Option (List ℕ) → Behind → List Line → TearFault → Type 0
IsOneUncut words given behind lines fault = (fault ≡ NoMemory) ⊎ ((l : Line) × (k : ℕ) × (slice_get lines k ≡ Some l)
    × IsLineUncut words given behind l 1 fault)
