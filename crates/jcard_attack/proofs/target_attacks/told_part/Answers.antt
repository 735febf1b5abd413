use Rattle.std.proofs.Common.{◌∙◌, ◌++◌, ap, inl, refl}
use Rattle.std.specs.Prelude.{not}
use Rattle.jcard_attack.specs.Report.{any_accepted}
use Rattle.jcard_outcomes.specs.CommandShares.{share_text}
use Rattle.jcard_outcomes.specs.Part.{head_text}
use Rattle.jcard_sweeps.specs.ScriptLines.{line_of}
use Rattle.jcard_attack.specs.Names.{faults_name}
use Rattle.jcard_sweeps.proofs.RunFaults.{cause_passed_on}
use Rattle.jcard_attack.proofs.target_attacks.told_part.Goals as goal

pub returns-in_err-name : goal.returns-in_err-name
returns-in_err-name g c =
    let is = c.attacked_in-attacked.ensures in
    cause_passed_on _ _ c.from_residual.result _ c.from_residual.ensures.1
    (c.attacked_in-attacked.result, (is.before, is.line, is.probe, is.instructions), inl tt)

pub returns-in_err-lines : goal.returns-in_err-lines
returns-in_err-lines g c =
    let is = c.attacked_in-attacked.ensures in
    cause_passed_on _ _ c.from_residual-in_err-lines.result _ c.from_residual-in_err-lines.ensures.1
    (c.attacked_in-attacked.result, (is.before, is.line, is.probe, is.instructions), inl tt)

pub returns-in_err-text : goal.returns-in_err-text
returns-in_err-text g c =
    let is = c.attacked_in-attacked.ensures in
    cause_passed_on _ _ c.from_residual-in_err-text.result _ c.from_residual-in_err-text.ensures.1
    (c.attacked_in-attacked.result, (is.before, is.line, is.probe, is.instructions), inl tt)

pub returns : goal.returns
returns g c =
    let is = c.attacked_in-attacked.ensures in
    let share = c.args.share in
    let own = faults_name c.args.attacking (line_of c.args.line) share.step in
    let name = c.deref-3.ensures.value ∙ c.in_ok-name.ensures in
    let lines = c.deref-4.ensures.value ∙ c.in_ok-lines.ensures in
    let accepted = c.is_any_accepted-is_whole.ensures ∙ ap any_accepted c.deref-2.ensures.value in (
      c.attacked_in-attacked.result,
      c.in_ok-sweep.sweep,
      (is.before, is.line, is.probe, is.instructions),
      c.in_ok-sweep.ensures,
      c.in_ok-text.ensures
          ∙ ap (λ n. head_text n ++ share_text share.first share.step (not c.is_any_accepted-is_whole.result) c.deref-4.result.now) name
          ∙ ap (λ b. head_text own ++ share_text share.first share.step (not b) c.deref-4.result.now) accepted
          ∙ ap (λ l. head_text own ++ share_text share.first share.step (not (any_accepted c.in_ok-sweep.sweep.strikes.items)) l) lines,
      refl,
    )
