use Rattle.std.proofs.Common.{subst}
use Rattle.jcard_sweeps.specs.ImageSweep.{SweepsImage}
use Rattle.jcard_attack.specs.AttackAsked.{attack_asked_by}
use Rattle.jcard_attack.specs.ImageSweep.{IsAttacked}
use Rattle.jcard_attack.proofs.image_sweep.attack_image.Goals as goal

pub returns : goal.returns
returns g c =
    let on = c.sweep_image.ensures.0 in
    let told = subst (λ asked. SweepsImage c.args.image.now asked (IsAttacked (attack_asked_by c.args.asked)) c.sweep_image.result on.0 on.1) c.sweep_of.ensures on.3 in
    ((on.0, on.1, on.2, told, on.4), c.sweep_image.ensures.1)
