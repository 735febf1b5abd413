use Rattle.std.proofs.Common.{◌∙◌, ap}
use Rattle.jcard_attack.specs.Report.{any_accepted}
use Rattle.jcard_attack.proofs.target_attacks.told_attack.Goals as goal

pub returns : goal.returns
returns g c = (c.in_ok-sweep.sweep, c.in_ok-sweep.ensures, c.in_ok-text.ensures, c.is_any_accepted.ensures ∙ ap any_accepted c.deref-2.ensures.value)
