-- What a command comes to with a fault at one of its instructions, or without one.
use Rattle.std.specs.Prelude.{ℕ, ◌≡◌, ◌⊎◌, ◌+◌, ◌-◌, ◌==◌, if◌then◌else◌, List, ◌++◌, codes, drop, filter, length, min, slice_index, Option, Some, None}
use Rattle.jc_words.specs.Store.{FuseStoreValue}
use Rattle.jc_commit.specs.Image.{plain_of, recovered_of}
use Rattle.jc_commit.specs.Migration.{migrated}
use Rattle.jc_card.specs.declared.power_up.PowerFault.TheVariants.{BadLog}
use Rattle.jc_card.specs.declared.planned_fault.PlannedFault.{PlannedFault}
use Rattle.jcard_outcomes.specs.declared.standing.Left.{Left}
use Rattle.jcard_script.specs.Script.{faults_text}
use Rattle.jcard_script.specs.declared.script.ScriptFault.{ScriptFault}
use Rattle.jcard_script.specs.declared.script.ScriptFault.TheVariants.{BadLine, PowerFault}
use Rattle.jcard_sweeps.specs.Runs.{IsRunFault, Runs}
use Rattle.jcard_sweeps.specs.LastLine.{IsLastLine}
use Rattle.jcard_sweeps.specs.declared.runs.RunFault.{RunFault}
use Rattle.jcard_sweeps.specs.declared.runs.RunFault.TheVariants as run
use Rattle.jcard_attack.specs.declared.aftermaths.AttackFault.{AttackFault}
use Rattle.jcard_attack.specs.declared.aftermaths.AttackFault.TheVariants.{NoMemory, Script, Probe, Down, TooManyInstructions}
use Rattle.jcard_attack.specs.declared.aftermaths.Attacked.{Attacked}
use Rattle.jcard_attack.specs.declared.outcomes.Aftermath.{Aftermath}

-- the line that plans a fault, or none, with its line feed
abbrev pub glitch_line : Option PlannedFault → List ℕ
glitch_line None = codes "glitch none\n"
glitch_line (Some fault) = codes "glitch " ++ faults_text fault ++ codes "\n"

-- a line, and a line feed, if it lacks one
abbrev pub ended_line : List ℕ → List ℕ
ended_line line = if slice_index line (length line - 1) == 10 then line else line ++ codes "\n"

-- the script up to the command, with this fault in it, or with none
abbrev pub attacked_script : Attacked → Option PlannedFault → List ℕ
attacked_script c fault = c.before.now ++ glitch_line fault ++ ended_line c.line.now

-- a script, and then the lines of the probe, with no fault in them
abbrev pub probed_script : Attacked → List ℕ → List ℕ
probed_script c script = script ++ codes "glitch none\n" ++ c.probe.now

-- the probe is answered so after a script that printed a text of this length: the answers follow it and the line of `glitch none`
abbrev pub IsProbed : List ℕ → Attacked → List ℕ → ℕ → List ℕ → Type 0
IsProbed words c script len answers = (text : List ℕ) × (last : FuseStoreValue) × Runs c.instructions words (probed_script c script) text last
    × (answers ≡ drop (len + length (codes "planned none\n")) text)

-- after a script, carried out over these words, this is left: the heap that a recovery finds, and the answers of the probe
abbrev pub IsLeftBy : List ℕ → Attacked → List ℕ → List ℕ → FuseStoreValue → Left → Type 0
IsLeftBy words c script text after left = (plain_of left.words.items ≡ migrated 3 (recovered_of after.words))
    × IsProbed words c script (length text) left.answers.items

-- the command with this fault, or without one, comes to this: its answer, and what it leaves
abbrev pub IsAftermath : List ℕ → Attacked → Option PlannedFault → Aftermath → Type 0
IsAftermath words c fault a = (text : List ℕ) × (after : FuseStoreValue) × Runs c.instructions words (attacked_script c fault) text after
    × IsLastLine text a.answer.items × IsLeftBy words c (attacked_script c fault) text after a.left

-- the lines before the command leave this
abbrev pub IsBegun : List ℕ → Attacked → Left → Type 0
IsBegun words c left = (text : List ℕ) × (after : FuseStoreValue) × Runs c.instructions words c.before.now text after
    × IsLeftBy words c c.before.now text after left

-- what is reported where a script was not carried out to its end
abbrev pub told_run_fault : RunFault → AttackFault
told_run_fault run.NoMemory = NoMemory
told_run_fault (run.Script fault) = Script fault

-- how many line feeds a text has, up to the most that is counted
abbrev pub lines_counted : List ℕ → ℕ
lines_counted text = min (length (filter (λ b. b == 10) text)) 4294967295

-- a fault of a script in its line of the probe, before which this many lines stand
abbrev pub in_probe : ℕ → ScriptFault → ScriptFault
in_probe lines (BadLine n) = BadLine (n - lines)
in_probe lines other = other

-- a script that is carried out for a command: the lines before it, or those and it with some fault
abbrev pub IsScriptFor : Attacked → List ℕ → Type 0
IsScriptFor c script = (script ≡ c.before.now) ⊎ ((fault : Option PlannedFault) × (script ≡ attacked_script c fault))

-- why such a script, or the probe after it, was not carried out to its end; a line of the probe that has no form is counted from the probe's first
abbrev pub IsUnfinished : List ℕ → Attacked → AttackFault → Type 0
IsUnfinished words c NoMemory = Unit {0}
IsUnfinished words c (Script fault) = ((script : List ℕ) × IsScriptFor c script × IsRunFault c.instructions words script (run.Script fault))
    ⊎ (fault ≡ PowerFault BadLog)
IsUnfinished words c (Probe fault) = (script : List ℕ) × (cause : ScriptFault) × IsScriptFor c script
    × IsRunFault c.instructions words (probed_script c script) (run.Script cause) × (fault ≡ in_probe (lines_counted (script ++ codes "glitch none\n")) cause)
IsUnfinished words c Down = ⊥
IsUnfinished words c TooManyInstructions = ⊥
