-- The commands of a script, each with a fault at each of its instructions.
use Rattle.std.specs.Prelude.{ℕ, ◌≡◌, ◌⊎◌, Bool, true, false, List, [], ◌∷◌, ◌++◌, codes, None, Some, slice_get}
use Rattle.std.specs.List.{flat_map, list_any}
use Rattle.jcard_outcomes.specs.Report.{line_answer_text, line_command_text}
use Rattle.jcard_sweeps.specs.ScriptLines.{Line, command_text}
use Rattle.jcard_attack.specs.Report.{any_accepted, told_rows, verdict_text}
use Rattle.jcard_attack.specs.Sweep.{IsDownAt, IsSwept, IsUnswept}
use Rattle.jcard_attack.specs.declared.aftermaths.AttackFault.{AttackFault}
use Rattle.jcard_attack.specs.declared.aftermaths.AttackFault.TheVariants.{NoMemory}
use Rattle.jcard_attack.specs.declared.aftermaths.Attacked.{Attacked}
use Rattle.jcard_attack.specs.declared.each.LineAttack.{LineAttack}
use Rattle.jcard_attack.specs.declared.each.LineOutcome.{LineOutcome}
use Rattle.jcard_attack.specs.declared.each.LineOutcome.TheVariants.{Struck, Down}
use Rattle.jcard_attack.specs.declared.outcomes.AttackSweep.{AttackSweep}
use Rattle.jcard_attack.specs.declared.sweep.Sought.{Sought}

-- faults of the command were tried, or the card is down at it without a fault
abbrev pub IsOutcome : List ℕ → Attacked → Sought → LineOutcome → Type 0
IsOutcome words c sought (Struck sweep) = IsSwept words c sought None sweep
IsOutcome words c sought Down = IsDownAt words c

-- of the command in the line with this number this is reported
abbrev pub IsLineStruck : List ℕ → ℕ → Attacked → Sought → LineAttack → Type 0
IsLineStruck words number c sought found = (found.number ≡ number) × (found.command.items ≡ command_text c.line.now) × IsOutcome words c sought found.outcome

-- the command in a line, after each fault of which these lines of a probe come
abbrev pub IsAttackedIn : List ℕ → ℕ → Line → Attacked → Type 0
IsAttackedIn probe instructions l c = (c.before.now ≡ l.before) × (c.line.now ≡ l.text) × (c.probe.now ≡ probe) × (c.instructions ≡ instructions)

-- of the commands in these lines this is reported, one after the other
unfoldable pub AreStruck : List ℕ → List ℕ → ℕ → Sought → List Line → List LineAttack → Type 0
AreStruck words probe instructions sought [] [] = Unit {0}
AreStruck words probe instructions sought (l ∷ lines) (found ∷ more) =
    ((c : Attacked) × IsAttackedIn probe instructions l c × IsLineStruck words l.number c sought found) × AreStruck words probe instructions sought lines more
AreStruck words probe instructions sought lines attacks = ⊥

-- why a command was not attacked, which is not that the card is down; memory may be refused for its text too
abbrev pub IsLineUnswept : List ℕ → Attacked → AttackFault → Type 0
IsLineUnswept words c fault = (fault ≡ NoMemory) ⊎ IsUnswept words c fault

-- why one of the commands in these lines was not
abbrev pub IsOneUnswept : List ℕ → List ℕ → ℕ → List Line → AttackFault → Type 0
IsOneUnswept words probe instructions lines fault = (fault ≡ NoMemory) ⊎ ((k : ℕ) × (l : Line) × (c : Attacked) × (slice_get lines k ≡ Some l)
    × IsAttackedIn probe instructions l c × IsLineUnswept words c fault)

-- the rows of a command, where they are asked for
abbrev pub line_rows_text : Bool → AttackSweep → List ℕ
line_rows_text true sweep = told_rows sweep
line_rows_text false sweep = []

-- what is reported of a command in a line: its rows, where they are asked for, its answer, and the verdict
abbrev pub outcome_line : Bool → ℕ → List ℕ → LineOutcome → List ℕ
outcome_line rows number command (Struck sweep) = line_rows_text rows sweep
    ++ (line_answer_text number command sweep.undisturbed.answer.items ++ verdict_text sweep.strikes.items)
outcome_line rows number command Down = line_command_text number command ++ codes ": the card is down at the command\n"

unfoldable pub line_text : Bool → LineAttack → List ℕ
line_text rows found = outcome_line rows found.number found.command.items found.outcome

-- the verdicts of all commands
abbrev pub verdicts_text : Bool → List LineAttack → List ℕ
verdicts_text rows attacks = flat_map (line_text rows) attacks

-- a fault was accepted in it
abbrev pub is_accepted_in : LineOutcome → Bool
is_accepted_in (Struck sweep) = any_accepted sweep.strikes.items
is_accepted_in Down = false

-- in one of them
abbrev pub any_line_accepted : List LineAttack → Bool
any_line_accepted attacks = list_any (λ found. is_accepted_in found.outcome) attacks
