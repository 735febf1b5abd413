use Rattle.std.proofs.Common.{◌≡◌, ◌++◌, drop}
use Rattle.jcard_outcomes.specs.Junit.{cards_cases}
use Rattle.jcard_outcomes.proofs.junit.push_cards.Given as goal

abbrev pub invariant-loop-card : goal.invariant-loop-card
invariant-loop-card l = l.text.items ++ cards_cases l.file l.first (drop l.card-index l.file.cards.items) ≡ l.fn.text.items ++ cards_cases l.file 0 l.file.cards.items
