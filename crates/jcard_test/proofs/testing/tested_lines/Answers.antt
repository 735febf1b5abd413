use Rattle.jcard_test.proofs.PlannedCards.{answered_cards}
use Rattle.jcard_test.proofs.testing.tested_lines.Goals as goal

pub returns-in-Ok : goal.returns-in-Ok
returns-in-Ok g c = answered_cards c.tested_cards.result c.args.plan.now c.args.name.now c.args.lines.now c.in-Ok.cards.items c.in-Ok.ensures c.tested_cards.ensures

pub returns-in-Err : goal.returns-in-Err
returns-in-Err g c = (c.args.plan.now, tt)
