use Rattle.std.proofs.Common.{◌≡◌, ◌∙◌, ◌++◌, ap, refl, sym}
use Rattle.jcard_outcomes.specs.CommandShares.{share_start, whole_told}
use Rattle.jcard_outcomes.proofs.Splits.{rest_again}
use Rattle.jcard_outcomes.proofs.command_shares.told_by.Goals as goal
use Rattle.jcard_outcomes.proofs.command_shares.told_by.Goals.{in-Some+in_default-verdicts_in, in_default}

pub returns : goal.returns
returns c =
    let start : c.deref.result.now ≡ share_start c.args.number c.args.count =
    c.deref.ensures.value ∙ c.in_ok-push_share_start.ensures ∙ ap (λ l. l ++ share_start c.args.number c.args.count) c.new-start.ensures.items in (
      refl,
      elim c.match-after.branch [
        | in-Some+in_default-verdicts_in w ↦ λ whole verdicts e. w.in_default-verdicts_in.ensures whole verdicts
            (rest_again c.args.text.now c.deref.result.now w.in-Some.rest.now (whole_told whole ++ verdicts) w.in-Some.ensures
            (e ∙ ap (λ s. s ++ (whole_told whole ++ verdicts)) (sym start)))
        | in_default w ↦ λ whole verdicts e. w.in_default.ensures (whole_told whole ++ verdicts) (e ∙ ap (λ s. s ++ (whole_told whole ++ verdicts)) (sym start))
      ],
      rw c.if-branch.false at c.in_ok-is_of_more.ensures,
    )
