-- The card at a command, which is kept for all its faults.
use Rattle.std.specs.Prelude.{ℕ, ◌≡◌, List, ◌++◌, Option, None}
use Rattle.jc_words.specs.Store.{FuseStoreValue}
use Rattle.jc_card.specs.Card.{CardState}
use Rattle.jc_commit.specs.Image.{plain_of, recovered_of}
use Rattle.jc_commit.specs.Migration.{migrated}
use Rattle.jc_card.specs.State.Power.{Up, planned_card}
use Rattle.jc_card.specs.declared.planned_fault.PlannedFault.{PlannedFault}
use Rattle.jcard_outcomes.specs.declared.standing.Left.{Left}
use Rattle.jcard_script.specs.Begun.{AnswersLines, HasBegun}
use Rattle.jcard_script.specs.Script.{planned_text, text_of}
use Rattle.jcard_script.specs.ScriptStates.{IsSessionStore}
use Rattle.jcard_sweeps.specs.AtCommand.{IsAtCommand}
use Rattle.jcard_sweeps.specs.Runs.{store_of}
use Rattle.jcard_sweeps.specs.declared.at_command.AtCommand.{AtCommand}
use Rattle.jcard_attack.specs.Aftermaths.{attacked_script}
use Rattle.jcard_attack.specs.declared.aftermaths.Attacked.{Attacked}

-- a card over these words stands at the command
abbrev pub IsKeptFor : List ℕ → Attacked → AtCommand → Type 0
IsKeptFor words c = IsAtCommand words c.instructions c.before.now c.line.now

-- a card has carried out the lines before the command, the command with this fault, or with none, and `glitch none`, and this was the command's
-- response
abbrev pub HasStruck : List ℕ → Attacked → Option PlannedFault → List ℕ → CardState → Type 0
HasStruck words c fault response card = (end : CardState) × (text : List ℕ) × (planned : Option PlannedFault)
    × (begun : HasBegun c.instructions (store_of words) (attacked_script c fault) end)
    × (begun.text ≡ (text ++ planned_text planned) ++ text_of response) × (card ≡ planned_card None end)

-- a recovery finds the heap of these words where a card is left so
abbrev pub LeavesHeap : CardState → List ℕ → Type 0
LeavesHeap card found = (after : FuseStoreValue) × IsSessionStore (Up card) after × (plain_of found ≡ migrated 3 (recovered_of after.words))

-- a card leaves this: the heap that a recovery finds, and what it answers to the lines of a probe
abbrev pub Leaves : CardState → List ℕ → Left → Type 0
Leaves card probe left = LeavesHeap card left.words.items × (last : FuseStoreValue) × AnswersLines card probe left.answers.items last
