use Rattle.std.proofs.Common.{Option, refl, subst}
use Rattle.std.specs.Prelude.{IfSome}
use Rattle.std.proofs.lemmas.Option.{IfSome_then}
use Rattle.jcard_attack.specs.KeptCard.{IsKeptFor}
use Rattle.jcard_sweeps.specs.declared.at_command.AtCommand.{AtCommand}
use Rattle.jcard_attack.proofs.sweep.aftermath_on_card.Goals as goal

pub returns-in-Some : goal.returns-in-Some
returns-in-Some c =
    let shared = c.args.shared.now in
    let kept = subst (λ (o : Option AtCommand). IfSome o (IsKeptFor shared.words.now shared.attacked)) c.in-Some.is c.requires in
    IfSome_then c.aftermath_of_copy.result c.aftermath_of_copy.ensures (λ a is. is shared.words.now shared.attacked kept refl)
