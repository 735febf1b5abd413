use Rattle.std.proofs.Common.{subst, sym}
use Rattle.jc_commit.specs.Journal.{OpeningFails}
use Rattle.jc_commit.specs.declared.refusal.OpenRefusal.TheVariants.{BadLog, StoreDown}
use Rattle.jc_card.specs.PowerUp.{fault_of}
use Rattle.jc_card.specs.PowerUp.Outcome.{PowerUpFails}
use Rattle.jc_card.proofs.PoweredUp.{head_found}
use Rattle.jc_card.proofs.PoweringUp.{image_leaves, image_refuses, powers_up}
use Rattle.jc_card.proofs.card.Card.power_up.Goals as goal

pub returns-in-Err : goal.returns-in-Err
returns-in-Err g c =
    let S = g.S.WordStore in
    let store = c.args.store in
    let first = c.check_image.ensures in
    let fails : PowerUpFails S.words S.down S.passed S.refusals store (fault_of c.in-Err.fault) store = (
      image_refuses c.check_image.result c.in-Err.fault (S.words store) c.in-Err.is first.magic.0 first.version.0 first.size.0,
      image_leaves S.words S.down S.passed S.refusals store c.in-Err.fault,
    ) in
    subst (λ f. PowerUpFails S.words S.down S.passed S.refusals store f store) (sym c.from.ensures) fails

pub returns-in-Ok : goal.returns-in-Ok
returns-in-Ok g c =
    let S = g.S.WordStore in
    let w = S.words c.args.store in
    let start = c.start.ensures in
    powers_up S.words S.down S.passed S.refusals c.args.store c.into_store.result c.in-Ok.image
    (head_found c.check_image.result w c.in_default.not-Err c.check_image.ensures.ok.0) c.in-Ok.ensures c.into_store.ensures c.args.budget c.start.result
    start.ok start.heap start.budget start.reset start.cause start.same

pub returns-in-Err-BadLog-default : goal.returns-in-Err-BadLog-default
returns-in-Err-BadLog-default g c =
    let S = g.S.WordStore in
    let w = S.words c.args.store in
    let found = c.in-Err-BadLog-default in
    let fails : OpeningFails S.words S.down S.passed S.refusals c.args.store BadLog found.store
    = subst (λ f. OpeningFails S.words S.down S.passed S.refusals c.args.store f found.store) found.field-0-0-is found.ensures in
    ((head_found c.check_image.result w c.in_default.not-Err c.check_image.ensures.ok.0, fails.0), fails.1)

pub returns-in-Err-StoreDown-default : goal.returns-in-Err-StoreDown-default
returns-in-Err-StoreDown-default g c =
    let S = g.S.WordStore in
    let w = S.words c.args.store in
    let found = c.in-Err-StoreDown-default in
    let fails : OpeningFails S.words S.down S.passed S.refusals c.args.store StoreDown found.store
    = subst (λ f. OpeningFails S.words S.down S.passed S.refusals c.args.store f found.store) found.field-0-0-is found.ensures in
    ((head_found c.check_image.result w c.in_default.not-Err c.check_image.ensures.ok.0, fails.good), fails)
