-- What `jcard tear` reports of a cut is what the law on cuts names.
use Rattle.std.specs.Prelude.{ℕ, ◌≡◌, ◌<◌, ◌⊎◌, true, List, [], ◌∷◌, ◌++◌}
use Rattle.std.specs.Str.Lines.{lines}
use Rattle.jc_words.specs.Store.{FuseStoreValue}
use Rattle.jc_commit.specs.Image.{plain_of}
use Rattle.jc_heap.specs.Heap.{HeapState, heap_of}
use Rattle.jc_platform.specs.Tokens.{Tokens}
use Rattle.jc_card.specs.Card.{CardState}
use Rattle.jc_card.specs.Session.Requests.{Command, ArmFuse}
use Rattle.jc_card.specs.State.Power.{Up, Off, KeptState}
use Rattle.jcard_script.specs.Script.{Asks, form_of}
use Rattle.jcard_outcomes.specs.declared.standing.Left.{Left}
use Rattle.jcard_sweeps.specs.declared.command.Command.{Command as CutCommand}
use Rattle.jcard_sweeps.specs.Runs.{IsLeft, Runs, store_of}
use Rattle.jcard_tear.specs.Sweep.{cut_script}
use Rattle.law_theorems.specs.Outcomes.{ComesTo}
use Rattle.law_theorems.specs.CardLaws.{IsOwnStore}
use Rattle.law_theorems.specs.ScriptLaws.{state_of}
use Rattle.law_theorems.specs.SessionTheorems.Cuts.{IsHeapCutAt}

-- so the script of a cut reads: some lines, one that arms the fuse k writes ahead, and last a command of these bytes
pub record ReadsAsCut (script : List ℕ) (k : ℕ) (bytes : List ℕ) : Type 0 where
  pub carried : List (List ℕ)
  pub stop : List ℕ
  pub line : List ℕ
  pub are : lines script ≡ carried ++ (stop ∷ line ∷ [])
  pub arms : form_of stop ≡ Asks (ArmFuse k)
  pub asks : form_of line ≡ Asks (Command bytes)

-- the lines before the command came to a card, and this heap is the one after those of its changes that are complete after this many writes:
-- after k, where the store below refused none by itself
pub record IsNamed (t : Tokens) (bytes : List ℕ) (k faults : ℕ) (h : HeapState) : Type 0 where
  pub card : CardState
  pub comes : ComesTo t (Up card)
  pub writes : ℕ
  pub cut : IsHeapCutAt card bytes writes h
  pub stopped : faults ≡ 0 → writes ≡ k

-- over an image of the product's own, a script that was carried out up to the command, with `stop k` before it, and left the card down: the
-- card was off as the command came; or the heap that is reported is so
abbrev pub CutsAreNamed : Type 0
CutsAreNamed = (t : Tokens) (words : List ℕ) (c : CutCommand) (k : ℕ) (bytes text : List ℕ) (after : FuseStoreValue) (left : Left)
    → IsOwnStore t (state_of (store_of words)) → ReadsAsCut (cut_script c k) k bytes → Runs c.behind.instructions words (cut_script c k) text after
    → after.down ≡ true → after.passed < 18446744073709551615 → IsLeft c.behind.instructions after.words c.probe.now left
    → ((budget : ℕ) × (kept : KeptState) × ComesTo t (Off budget kept))
    ⊎ IsNamed t bytes k after.refusals.faults (heap_of (plain_of left.words.items))
