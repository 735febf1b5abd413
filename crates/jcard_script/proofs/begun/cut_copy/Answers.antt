use Rattle.std.proofs.Common.{◌≡◌, ◌∙◌, ℕ, ap, subst}
use Rattle.jc_card.specs.Card.{CardState}
use Rattle.jc_card.specs.State.Power.{Up, armed_card}
use Rattle.jc_card.specs.State.{with_fuse}
use Rattle.jcard_script.proofs.GoesOn.{armed_at_rest, goes_on}
use Rattle.jcard_script.proofs.begun.cut_copy.Goals as goal

pub returns-clause-leaves : goal.returns-clause-leaves
returns-clause-leaves g c =
    let k : ℕ = c.in_ok-k.k in
    let old : CardState = c.in-Ok.copy in
    let new : CardState = c.arm.new.self in
    let e = c.arm.ensures in
    let same : old ≡ c.args.card.now = c.in-Ok.ensures in
    let is : new ≡ armed_card k old = subst (λ (n : ℕ). new ≡ armed_card n old) c.from.ensures e.armed in
    let up = ap (λ (x : CardState). x.memory.heap.down) same ∙ c.requires.up in
    let fused : Up new ≡ with_fuse k (Up old) = armed_at_rest k old new is up e.settled e.outside e.none in
    goes_on k c.args.card.now new c.args.stop.now c.args.command.now c.store_after.result c.in_ok-k.ensures
    (fused ∙ ap (λ (x : CardState). with_fuse k (Up x)) same) c.store_after.ensures.leaves
