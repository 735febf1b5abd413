use Rattle.std.proofs.Common.{◌≤◌, ◌++◌, [], List, drop}
use Rattle.jcard_test.specs.Cards.{AreCards}
use Rattle.jcard_outcomes.specs.declared.card_rows.CardRows.{CardRows}
use Rattle.jcard_test.proofs.cards.cards_of.Given as goal

abbrev pub invariant-loop-line : goal.invariant-loop-line
invariant-loop-line l = (4096 ≤ l.words)
    × ((more : List CardRows) → AreCards (drop l.line-index l.lines) l.words l.rows.items more → AreCards l.lines l.first [] (l.cards.items ++ more))
