-- The card at a command, which is kept for all its cuts.
use Rattle.std.specs.Prelude.{ℕ, ◌≡◌, ◌<◌, true, false, List, None, length, slice_index, vec_len}
use Rattle.jc_words.specs.Image.{log_of}
use Rattle.jc_words.specs.Store.{FuseStoreValue}
use Rattle.jc_commit.specs.Image.{IsGoodLog, count_of, is_log, limit_of, plain_of, recovered_of, top_of}
use Rattle.jc_card.specs.Card.{CardState}
use Rattle.jc_card.specs.State.Power.{Up}
use Rattle.jcard_script.specs.Begun.{AnswersLines}
use Rattle.jcard_script.specs.ScriptStates.{PowersUp}
use Rattle.jcard_outcomes.specs.declared.recoveries.Depth.TheVariants.{Zero}
use Rattle.jcard_outcomes.specs.declared.recoveries.Recoveries.{Recoveries}
use Rattle.jcard_outcomes.specs.declared.standing.Cut.{Cut}
use Rattle.jcard_outcomes.specs.declared.standing.Left.{Left}
use Rattle.jcard_sweeps.specs.AtCommand.{IsAtCommand}
use Rattle.jcard_sweeps.specs.Runs.{IsRecovered, Runs, store_of}
use Rattle.jcard_tear.specs.Sweep.{IsToldAs, IsToldCut, IsUncutAt, cut_script}
use Rattle.jcard_sweeps.specs.declared.command.Command.{Command}
use Rattle.jcard_tear.specs.declared.cuts.Shared.{Shared}
use Rattle.jcard_sweeps.specs.declared.at_command.AtCommand.{AtCommand}
use Rattle.jcard_tear.specs.declared.kept_card.KeptCut.{KeptCut}
use Rattle.jcard_tear.specs.declared.kept_card.KeptCut.TheVariants.{Uncut, Left as Leaves}
use Rattle.jcard_tear.specs.declared.last_cut.LastCut.{LastCut}

-- a card over these words stands at a command, after whose cuts no recovery is cut
abbrev pub IsKeptFor : List ℕ → Command → AtCommand → Type 0
IsKeptFor words c kept = IsAtCommand words c.behind.instructions c.before.now c.line.now kept × (c.behind.depth ≡ Zero)

-- with the power cut after k writes of the command the card is down, and any words may be left of which a recovery makes this heap
abbrev pub MayLeave : List ℕ → Command → ℕ → List ℕ → Type 0
MayLeave words c k heap = (left : List ℕ) → IsGoodLog left → recovered_of left ≡ heap → (text : List ℕ) × (after : FuseStoreValue)
    × Runs c.behind.instructions words (cut_script c k) text after × (after.down ≡ true) × (after.words ≡ left)

-- so a copy of the card was cut after k writes of the command: these words are what a recovery left then, and no recovery is to be cut
abbrev pub IsKeptCut : List ℕ → Command → ℕ → KeptCut → Type 0
IsKeptCut words c k Uncut = IsUncutAt words c k
IsKeptCut words c k (Leaves found) = IsRecovered found.items × MayLeave words c k (plain_of found.items) × (c.behind.depth ≡ Zero)

-- a card that is powered up over these words gives the lines of the probe these answers
abbrev pub GivesAnswers : ℕ → List ℕ → List ℕ → List ℕ → Type 0
GivesAnswers budget words probe answers = (card : CardState) × PowersUp budget (store_of words) (Up card) × (last : FuseStoreValue)
    × AnswersLines card probe answers last

-- so it is over what is left
abbrev pub HasAnswered : ℕ → List ℕ → Left → Type 0
HasAnswered budget probe left = GivesAnswers budget left.words.items probe left.answers.items

-- two images hold one heap: they have as many words and entries that count, one journal and one top, and below it the same words, but for the
-- journal's
pub record HoldOneHeap (v w : List ℕ) : Type 0 where
  pub long : length v ≡ length w
  pub log : log_of v ≡ log_of w
  pub count : count_of v ≡ count_of w
  pub top : top_of v ≡ top_of w
  pub words : (k : ℕ) → k < limit_of w → is_log (log_of w) k ≡ false → k < top_of w → slice_index v k ≡ slice_index w k

-- a recovery leaves these words as they are, and it is known what a card answers that powers up over them
abbrev pub IsKnown : Command → Left → Type 0
IsKnown c left = IsRecovered left.words.items × HasAnswered c.behind.instructions c.probe.now left

-- no recovery was cut
abbrev pub none_cut : Recoveries
none_cut = record { ways = 1; difference = None }

-- what is left after a recovery was asked for, and a cut that left it is reported so
abbrev pub IsLastCut : Shared → LastCut → Type 0
IsLastCut s reported = IsRecovered reported.left.words.items × HasAnswered s.command.behind.instructions s.command.probe.now reported.left
    × IsToldAs s.baseline reported.left reported.cut × (reported.cut.recoveries ≡ none_cut)

-- what a cut left is reported so
abbrev pub IsReportedAt : Shared → ℕ → Cut → Type 0
IsReportedAt s k cut = IsToldCut s.words.now s.command s.baseline k cut

-- the same heap as was left is reported so
abbrev pub IsReportedAlike : Shared → List ℕ → Cut → Type 0
IsReportedAlike s heap cut = (reported : LastCut) × IsLastCut s reported × (plain_of reported.left.words.items ≡ heap)
    × IsToldAs s.baseline reported.left cut × (cut.recoveries ≡ none_cut)

-- fewer words than addresses are left
abbrev pub IsShort : KeptCut → Type 0
IsShort Uncut = Unit {0}
IsShort (Leaves found) = vec_len found < 65536
