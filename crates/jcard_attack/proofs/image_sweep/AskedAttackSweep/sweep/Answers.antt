use Rattle.std.proofs.Common.{[], refl, inl, inr, subst}
use Rattle.jcard_texts.proofs.Known.{appends_same}
use Rattle.jcard_attack.specs.Output.{IsAttackTold}
use Rattle.jcard_attack.specs.declared.target_attacks.Attacking.{Attacking}
use Rattle.jcard_attack.proofs.AskedLines.{asked_after}
use Rattle.jcard_files.proofs.Effects.{unfailed}
use Rattle.jcard_attack.proofs.image_sweep.AskedAttackSweep.sweep.Goals as goal

pub returns-in-Ok : goal.returns-in-Ok
returns-in-Ok g c =
    let written = c.write_attack.ensures.0 in
    let told = subst (λ report. IsAttackTold report c.in-Ok.told.is_accepted c.write_attack.result written.0) c.deref.ensures.value written.2 in
    let lines = asked_after c.args.swept.probe c.unwrap_or.result _ c.unwrap_or.ensures refl in
    let attacking : Attacking = record { subject = c.args.swept.subject; probe = c.unwrap_or.result; asked = c.args.self.now } in
    ((written.0, written.1, (attacking, (refl, refl, lines), inr (c.in-Ok.told, c.in-Ok.ensures, (told, refl)))), c.write_attack.ensures.1)

pub returns-in-Err : goal.returns-in-Err
returns-in-Err g c =
    let fault = c.attack_fault.result in
    let lines = asked_after c.args.swept.probe c.unwrap_or.result _ c.unwrap_or.ensures refl in
    let attacking : Attacking = record { subject = c.args.swept.subject; probe = c.unwrap_or.result; asked = c.args.self.now } in (
      ([], appends_same _, (attacking, (refl, refl, lines), inl (fault, refl, refl, refl, (c.in-Err.cause, c.in-Err.ensures, c.attack_fault.ensures.told)))),
      unfailed _ fault c.attack_fault.ensures.unwritten,
    )
