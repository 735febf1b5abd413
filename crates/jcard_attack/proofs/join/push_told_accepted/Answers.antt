use Rattle.std.proofs.Common.{◌∙◌, ◌++◌, ap, length, map, refl}
use Rattle.jcard_attack.specs.PartLines.{first_name}
use Rattle.jcard_attack.specs.Report.{told_by}
use Rattle.jcard_attack.proofs.VerdictSteps.{accepted_written, some_told}
use Rattle.jcard_attack.proofs.join.push_told_accepted.Goals as goal

pub returns : goal.returns
returns c =
    let faults = c.args.faults.now in
    let accepted = c.in_ok-accepted.accepted in
    let name = c.in_ok-first.ensures ∙ ap (λ l. first_name (map told_by l)) c.deref.ensures.value in (
      c.in_ok-push_accepted.ensures ∙ ap (λ l. c.args.text.now.items ++ l) (accepted_written faults accepted.items (length faults) c.len.result _ refl
          (c.len.ensures ∙ accepted.ok.0) c.in_ok-accepted.ensures (c.lent.ensures ∙ name)),
      c.is_some.ensures ∙ some_told (λ t. t.items) faults accepted.items c.in_ok-first.first c.in_ok-accepted.ensures name,
    )
