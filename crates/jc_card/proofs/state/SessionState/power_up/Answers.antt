use Rattle.std.proofs.Common.{◌≡◌, refl, rules, subst}
use Rattle.jc_card.specs.PowerUp.Outcome.{PowerUpFails}
use Rattle.jc_card.specs.declared.power_up.PowerFault.TheVariants.{StoreDown}
use Rattle.jc_card.proofs.state.SessionState.power_up.Goals as goal

pub returns-in-Err-StoreDown-default-clause-powered : goal.returns-in-Err-StoreDown-default-clause-powered
returns-in-Err-StoreDown-default-clause-powered g c =
    let S = g.S.WordStore in
    let found = c.in-Err-StoreDown-default in
    (subst (λ f. PowerUpFails S.words S.down S.passed S.refusals c.args.store f found.store) found.field-0-0-is found.ensures, refl)

pub returns-in-Err : goal.returns-in-Err
returns-in-Err g c =
    let other : c.in-Err.fault ≡ StoreDown → ⊥ = search rules in
    record {
      up = tt;
      powered = tt;
      fault = (other, c.in-Err.store, c.in-Err.ensures, refl);
    }
