use Rattle.std.proofs.Common.{◌≡◌, ◌++◌, drop}
use Rattle.jcard_attack.specs.Each.{verdicts_text}
use Rattle.jcard_attack.proofs.each.verdicts.Given as goal

abbrev pub invariant-loop-found : goal.invariant-loop-found
invariant-loop-found l = l.text.items ++ verdicts_text l.rows (drop l.found-index l.attacks) ≡ verdicts_text l.rows l.attacks
