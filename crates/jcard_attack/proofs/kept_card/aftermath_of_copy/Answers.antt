use Rattle.std.proofs.Common.{◌∙◌, ap, subst, sym}
use Rattle.hex.specs.Hex.{encode_upper}
use Rattle.jcard_attack.specs.KeptCard.{Leaves}
use Rattle.jcard_attack.proofs.KeptFaults.{struck_aftermath}
use Rattle.jcard_attack.proofs.kept_card.aftermath_of_copy.Goals as goal

pub returns-in-Ok : goal.returns-in-Ok
returns-in-Ok c = λ words a for probe.
    let next = c.in_ok-next.next in
    let left = c.in_ok-left.left in
    struck_aftermath words a c.args.fault c.struck_copy.new.response next (record { answer = c.in-Ok.answer; left = left }) (c.in_ok-next.ensures words a for)
    (subst (λ p. Leaves next p left) (sym probe) c.in_ok-left.ensures) (c.in-Ok.ensures ∙ ap encode_upper c.as_bytes.ensures.value)
