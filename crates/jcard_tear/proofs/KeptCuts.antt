-- Cuts of copies of a card that is kept at the command.
use Rattle.std.proofs.Common.{◌≡◌, ◌≢◌, ◌∙◌, ◌++◌, ℕ, true, false, List, [], ap, inr, length, refl, sym, subst, take}
use Rattle.std.specs.Prelude.{codes, decimal, slice_index}
use Rattle.std.proofs.Math.Nat.{pow-zero}
use Rattle.std.proofs.lemmas.Bool.{ne_eqb}
use Rattle.jc_words.specs.Layout.{first_version, version_address}
use Rattle.jc_words.specs.Store.{FuseStoreValue}
use Rattle.jc_commit.specs.Image.{IsGoodLog, plain_of, recovered_of, with_words}
use Rattle.jc_commit.specs.Migration.{migrated, migration}
use Rattle.jc_commit.specs.Replay.{replay_writes}
use Rattle.jc_commit.proofs.Migrations.{migration-recovered}
use Rattle.jc_card.specs.State.Power.{Up}
use Rattle.jcard_script.specs.Begun.{LeavesCut}
use Rattle.jcard_outcomes.specs.declared.recoveries.Depth.{Depth}
use Rattle.jcard_outcomes.specs.declared.recoveries.Depth.TheVariants.{Zero}
use Rattle.jcard_outcomes.specs.declared.recoveries.Recoveries.{Recoveries}
use Rattle.jcard_outcomes.specs.declared.standing.Cut.{Cut}
use Rattle.jcard_outcomes.specs.declared.standing.Left.{Left}
use Rattle.jcard_outcomes.specs.declared.standing.Standing.{Standing}
use Rattle.jcard_outcomes.specs.Standing.{IsStanding, lost_of}
use Rattle.jcard_tear.specs.Faults.{IsCarriedOut}
use Rattle.jcard_tear.specs.KeptCard.{GivesAnswers, HasAnswered, IsKeptFor, IsKnown, IsLastCut, IsReportedAlike, IsReportedAt, MayLeave, none_cut}
use Rattle.jcard_tear.specs.Recoveries.{AreRecoveries}
use Rattle.jcard_sweeps.specs.Runs.{IsLeft, IsRecovered, Runs, store_of}
use Rattle.jcard_tear.specs.Sweep.{IsCutAt, IsToldAs, IsUncutAt, cut_script}
use Rattle.jcard_tear.specs.declared.cuts.Baseline.{Baseline}
use Rattle.jcard_sweeps.specs.declared.command.Command.{Command}
use Rattle.jcard_tear.specs.declared.cuts.Shared.{Shared}
use Rattle.jcard_sweeps.specs.Report.{IsTold}
use Rattle.jcard_sweeps.specs.declared.at_command.AtCommand.{AtCommand}
use Rattle.jcard_tear.specs.declared.last_cut.LastCut.{LastCut}
use Rattle.jcard_tear.proofs.CutRecoveries as recoveries

-- an image that is not of the first version is not migrated
pub migrated_none : (w : List ℕ) → IsGoodLog w → slice_index w version_address ≢ first_version → migrated 3 (recovered_of w) ≡ recovered_of w
migrated_none w good later =
    let none : migration w ≡ [] = rw (ne_eqb (slice_index w version_address) first_version later) refl in
    ap (λ (ws : List (ℕ × ℕ)). with_words (recovered_of w) (take 3 ws)) (migration-recovered w good ∙ none)

-- a script is carried out by the card that is powered up over these words
pub gives_runs : (budget : ℕ) (words probe answers : List ℕ) → GivesAnswers budget words probe answers → (last : FuseStoreValue) × Runs budget words probe answers last
gives_runs budget words probe answers g = (g.2, inr (Up g.0, g.3.0, g.1, g.3.2, g.3.1))

-- what is left by words that a recovery leaves as they are
pub is_left : (budget : ℕ) (probe : List ℕ) (left : Left) → IsRecovered left.words.items → HasAnswered budget probe left → IsLeft budget left.words.items probe left
is_left budget probe left is has =
    let runs = gives_runs budget left.words.items probe left.answers.items has in
    (runs.0, sym (migrated_none left.words.items is.0 is.2 ∙ is.1), runs.1, is)

-- the same heap as was left may be left by this cut
cut_alike : (words : List ℕ) (c : Command) (k : ℕ) (heap : List ℕ) (left : Left) (r : Recoveries) → c.behind.depth ≡ Zero → MayLeave words c k heap
    → IsRecovered left.words.items → plain_of left.words.items ≡ heap → HasAnswered c.behind.instructions c.probe.now left → r ≡ none_cut → IsCutAt words c k left r
cut_alike words c k heap left r zero may is same has none =
    let m = may left.words.items is.0 (is.1 ∙ same) in
    let budget : ℕ = c.behind.instructions in
    let probe : List ℕ = c.probe.now in
    let stays = is_left budget probe left is has in
    let shallow : AreRecoveries Zero budget left.words.items probe left none_cut =
    (sym (pow-zero (length (replay_writes left.words.items))), recoveries.none_cut budget left.words.items probe left stays) in
    let reported = subst (λ (x : Recoveries). AreRecoveries Zero budget left.words.items probe left x) (sym none) shallow in
    let deep = subst (λ (d : Depth). AreRecoveries d budget left.words.items probe left r) (sym zero) reported in (
      m.0,
      m.1,
      m.2,
      m.3,
      subst (λ (w : List ℕ). IsLeft budget w probe left) (sym m.4) stays,
      subst (λ (w : List ℕ). AreRecoveries c.behind.depth budget w probe left r) (sym m.4) deep,
    )

-- so what was reported of it is reported of this cut
pub reported_at : (s : Shared) (k : ℕ) (heap : List ℕ) (cut : Cut) → s.command.behind.depth ≡ Zero → MayLeave s.words.now s.command k heap
    → IsReportedAlike s heap cut → IsReportedAt s k cut
reported_at s k heap cut zero may t = (t.0.left, cut_alike s.words.now s.command k heap t.0.left cut.recoveries zero may t.1.0 t.2 t.1.1 t.4, t.3)

-- what is left, where its answers are known, and are said to be
pub told_last_cut : (s : Shared) (left : Left) (reported : LastCut) → IsKnown s.command left → reported.left ≡ left → IsToldAs s.baseline left reported.cut
    → reported.cut.recoveries ≡ none_cut → IsLastCut s reported
told_last_cut s left reported known same told none =
    let is = subst (λ (l : Left). IsKnown s.command l) (sym same) known in
    (is.0, is.1, subst (λ (l : Left). IsToldAs s.baseline l reported.cut) (sym same) told, none)

-- a copy of what was reported last reports the same
pub copied_alike : (s : Shared) (reported : LastCut) (heap : List ℕ) (cut : Cut) → IsLastCut s reported → plain_of reported.left.words.items ≡ heap
    → cut.standing ≡ reported.cut.standing → cut.lost ≡ reported.cut.lost → cut.answers.items ≡ reported.cut.answers.items → cut.recoveries ≡ reported.cut.recoveries
    → IsReportedAlike s heap cut
copied_alike s reported heap cut is same standing lost answers recoveries =
    let b : Baseline = s.baseline in (
      reported,
      is,
      same,
      (
        subst (λ (t : List ℕ). IsTold b.objects.now reported.left t) (sym answers) is.2.0,
        subst (λ (x : Standing). IsStanding b.spared.now b.lenient.now b.before.now b.after.now reported.left.words.items reported.left.answers.items x) (sym standing)
            is.2.1,
        lost ∙ is.2.2 ∙ ap (λ (x : Standing). lost_of x b.before.now.words.items reported.left.words.items) (sym standing),
      ),
      recoveries ∙ is.3,
    )

-- a script was carried out to its end
pub kept_carried : (words : List ℕ) (c : Command) (k : ℕ) (found : List ℕ) → IsRecovered found → MayLeave words c k (plain_of found) → IsCarriedOut words c
kept_carried words c k found is may = let m = may found is.0 is.1 in (cut_script c k, m.0, m.1, inr (inr (k, refl)), m.2)

-- ---- a copy of the card that is kept

module _ (words : List ℕ) (c : Command) (k : ℕ) (kept : AtCommand) (stop command : List ℕ) (store : FuseStoreValue) (for : IsKeptFor words c kept)
    (spelt : command ≡ kept.command.items) (line : stop ≡ codes "stop " ++ decimal k) (leaves : LeavesCut kept.begun stop command store) where
  ends : (left : List ℕ) → IsGoodLog left → recovered_of left ≡ recovered_of store.words
      → (text : List ℕ) × Runs c.behind.instructions words (cut_script c k) text (record store { words = left })
  ends left good same =
      let reported = subst (λ (x : List ℕ). LeavesCut kept.begun stop x store) spelt leaves in
      let whole = subst (λ (x : List ℕ). LeavesCut kept.begun x kept.command.items store) line reported in
      whole c.behind.instructions (store_of words) c.before.now c.line.now for.0.0 for.0.1 left good same

  pub kept_uncut : IsGoodLog store.words → store.down ≡ false → IsUncutAt words c k
  kept_uncut good up = let e = ends store.words good refl in (e.0, store, e.1, up)

  pub kept_leaves : (heap : List ℕ) → heap ≡ recovered_of store.words → store.down ≡ true → MayLeave words c k heap
  kept_leaves heap is down = λ left good same. let e = ends left good (same ∙ is) in (e.0, record store { words = left }, e.1, down, refl)
