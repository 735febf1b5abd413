-- A command of a script that is cut after each number of its word writes.
use Rattle.std.specs.Prelude.{ℕ, ◌≡◌, ◌+◌, ◌*◌, true, false, List, [], ◌∷◌, ◌++◌, codes, decimal, length, Option, Some, None, Ok}
use Rattle.hex.specs.Hex.{encode_upper}
use Rattle.jc_words.specs.Store.{FuseStoreValue}
use Rattle.jc_objects.specs.Pins.{AreTriesIn}
use Rattle.jcard_outcomes.specs.Standing.{IsStanding, lost_of}
use Rattle.jcard_script.specs.Script.{EndsSelecting}
use Rattle.jcard_outcomes.specs.declared.recoveries.Recoveries.{Recoveries}
use Rattle.jcard_outcomes.specs.declared.standing.Cut.{Cut}
use Rattle.jcard_outcomes.specs.declared.standing.Left.{Left}
use Rattle.jcard_outcomes.specs.declared.each.LineOutcome.{LineOutcome}
use Rattle.jcard_outcomes.specs.declared.each.LineOutcome.TheVariants.{Down, Swept}
use Rattle.jcard_outcomes.specs.declared.each.LineSweep.{LineSweep}
use Rattle.jcard_outcomes.specs.declared.report.Sweep.{Sweep}
use Rattle.jcard_tear.specs.Recoveries.{AreRecoveries}
use Rattle.jcard_sweeps.specs.LastLine.{IsLastLine}
use Rattle.jcard_sweeps.specs.Runs.{IsLeft, Runs, store_of}
use Rattle.jcard_sweeps.specs.ScriptLines.{Line, command_text}
use Rattle.jcard_sweeps.specs.Report.{AreObjectsAsked, IsTold}
use Rattle.jcard_sweeps.specs.Texts.{text_of}
use Rattle.jcard_tear.specs.declared.cuts.Baseline.{Baseline}
use Rattle.jcard_sweeps.specs.declared.command.Behind.{Behind}
use Rattle.jcard_sweeps.specs.declared.command.Command.{Command}
use Rattle.jcard_tear.specs.declared.cuts.FollowUp.{FollowUp}

-- the script up to the command, with the power cut after this many of its writes
abbrev pub cut_script : Command → ℕ → List ℕ
cut_script c k = c.before.now ++ (codes "stop " ++ decimal k ++ codes "\n") ++ c.line.now

-- with the power cut after k writes of the command the card is down, this is left, and so it is with recoveries that are cut
abbrev pub IsCutAt : List ℕ → Command → ℕ → Left → Recoveries → Type 0
IsCutAt words c k left recoveries = (text : List ℕ) × (after : FuseStoreValue) × Runs c.behind.instructions words (cut_script c k) text after × (after.down ≡ true)
    × IsLeft c.behind.instructions after.words c.probe.now left × AreRecoveries c.behind.depth c.behind.instructions after.words c.probe.now left recoveries

-- the command makes no more writes than k, and is not cut
abbrev pub IsUncutAt : List ℕ → Command → ℕ → Type 0
IsUncutAt words c k = (text : List ℕ) × (after : FuseStoreValue) × Runs c.behind.instructions words (cut_script c k) text after × (after.down ≡ false)

-- a cut that left this is reported so
abbrev pub IsToldAs : Baseline → Left → Cut → Type 0
IsToldAs b left cut = IsTold b.objects.now left cut.answers.items
    × IsStanding b.spared.now b.lenient.now b.before.now b.after.now left.words.items left.answers.items cut.standing
    × (cut.lost ≡ lost_of cut.standing b.before.now.words.items left.words.items)

-- what a cut left is reported so
abbrev pub IsToldCut : List ℕ → Command → Baseline → ℕ → Cut → Type 0
IsToldCut words c b k cut = (left : Left) × IsCutAt words c k left cut.recoveries × IsToldAs b left cut

-- what the cuts after k, k + n, k + 2 n, .. writes left is reported so
unfoldable pub AreCuts : List ℕ → Command → Baseline → ℕ → ℕ → List Cut → Type 0
AreCuts words c b k n [] = Unit {0}
AreCuts words c b k n (cut ∷ cuts) = IsToldCut words c b k cut × AreCuts words c b (k + n) n cuts

-- the command was not cut: this is its answer, and this is left
abbrev pub IsDone : List ℕ → Command → List ℕ → Left → Type 0
IsDone words c answer left = (text : List ℕ) × (after : FuseStoreValue) × Runs c.behind.instructions words (c.before.now ++ c.line.now) text after × (after.down ≡ false)
    × IsLastLine text answer × IsLeft c.behind.instructions after.words c.probe.now left

-- the lines before the command were carried out: this is left
abbrev pub IsBegun : List ℕ → Command → Left → Type 0
IsBegun words c left = (text : List ℕ) × (after : FuseStoreValue) × Runs c.behind.instructions words c.before.now text after × IsLeft c.behind.instructions after.words c.probe.now left

-- what cuts are compared with, and what a sweep reports of a command that is not cut, are the same. The words with the tries left of the OwnerPINs
-- that stand after the command are spared in each comparison. Words are reported as written by non-atomic calls: no clause says which
pub record IsMeasured (words : List ℕ) (c : Command) (b : Baseline) (s : Sweep) : Type 0 where
  pub before : b.before.now ≡ s.before
  pub done : IsDone words c s.answer.items b.after.now
  pub after : s.after.words.items ≡ b.after.now.words.items
  pub told : IsTold b.objects.now b.after.now s.after.answers.items
  pub spared : AreTriesIn b.after.now.words.items b.spared.now
  pub lenient : (by_calls : List ℕ) × (b.lenient.now ≡ b.spared.now ++ by_calls)
  pub objects : AreObjectsAsked c.behind.objects s.before b.objects.now

-- what was before a command and what it leaves, its answer, and what is left of it after k, k + n, k + 2 n, .. of its writes, up to the first of
-- these numbers that does not cut it
pub record IsSweptBy (words : List ℕ) (c : Command) (k n : ℕ) (s : Sweep) : Type 0 where
  pub begun : IsBegun words c s.before
  pub cuts : (b : Baseline) × IsMeasured words c b s × AreCuts words c b k n s.cuts.items
  pub uncut : IsUncutAt words c (k + n * length s.cuts.items)
  pub depth : s.depth ≡ c.behind.depth

-- the same after each number of its writes
abbrev pub IsSwept : List ℕ → Command → Sweep → Type 0
IsSwept words c s = IsSweptBy words c 0 1 s

-- ---- the commands of a script

-- the line of the command that selects the applet with this AID; nothing where there is none
abbrev pub select_line : Option (List ℕ) → List ℕ
select_line None = []
select_line (Some aid) = codes "00A40400" ++ encode_upper (length aid ∷ []) ++ encode_upper aid ++ codes "\n"

-- the lines of a probe that are given to follow each cut, if any are
abbrev pub given_of : FollowUp → Option (List ℕ)
given_of f = text_of f.probe

-- the script was carried out to its end over these words, and then this applet is selected, by its AID, if one is
abbrev pub IsSelectedBy : ℕ → List ℕ → List ℕ → Option (List ℕ) → Type 0
IsSelectedBy budget words script selected = (text : List ℕ) × (after : FuseStoreValue)
    × EndsSelecting budget (Ok tt) (store_of words) after true script text selected

-- the lines of a probe: those that are given, or else the SELECT of the applet that is selected before the command
abbrev pub IsProbe : ℕ → List ℕ → Option (List ℕ) → List ℕ → List ℕ → Type 0
IsProbe budget words (Some given) before probe = probe ≡ given
IsProbe budget words None before probe = (selected : Option (List ℕ)) × IsSelectedBy budget words before selected × (probe ≡ select_line selected)

-- the command in this line was cut, and this came after each cut
abbrev pub IsLineSwept : List ℕ → Option (List ℕ) → Behind → Line → Sweep → Type 0
IsLineSwept words given behind l sweep = (c : Command) × (c.before.now ≡ l.before) × (c.line.now ≡ l.text) × (c.behind ≡ behind)
    × IsProbe behind.instructions words given l.before c.probe.now × IsSwept words c sweep

-- the command in this line was cut, or the card is down at it
abbrev pub IsLineOutcome : List ℕ → Option (List ℕ) → Behind → Line → LineOutcome → Type 0
IsLineOutcome words given behind l (Swept sweep) = IsLineSwept words given behind l sweep
IsLineOutcome words given behind l Down = (text : List ℕ) × (after : FuseStoreValue) × Runs behind.instructions words (l.before ++ l.text) text after
    × (after.down ≡ true)

-- of this line this is reported
abbrev pub IsLineTold : List ℕ → Option (List ℕ) → Behind → Line → LineSweep → Type 0
IsLineTold words given behind l s = (s.number ≡ l.number) × (s.command.items ≡ command_text l.text) × IsLineOutcome words given behind l s.outcome

-- the commands in these lines were cut, one after the other
unfoldable pub AreSwept : List ℕ → Option (List ℕ) → Behind → List Line → List LineSweep → Type 0
AreSwept words given behind [] [] = Unit {0}
AreSwept words given behind (l ∷ lines) (s ∷ sweeps) = IsLineTold words given behind l s × AreSwept words given behind lines sweeps
AreSwept words given behind lines sweeps = ⊥
