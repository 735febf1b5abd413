use Rattle.std.proofs.Common.{◌∙◌, ap, map, subst}
use Rattle.std.specs.Prelude.{OnOk}
use Rattle.jcard_attack.specs.PartLines.{first_name}
use Rattle.jcard_attack.specs.Report.{told_by}
use Rattle.jcard_attack.proofs.VerdictSteps.{silence_written}
use Rattle.jcard_attack.proofs.join.push_told_silent.Goals as goal

pub returns : goal.returns
returns c =
    let name = c.in_ok-first.ensures ∙ ap (λ l. first_name (map told_by l)) c.deref.ensures.value in
    rw (silence_written c.args.faults.now c.in_ok-silent.silent.items c.len.result _ (c.len.ensures ∙ c.in_ok-silent.silent.ok.0)
    c.in_ok-silent.ensures (c.lent.ensures ∙ name)) at c.push_silence.ensures
