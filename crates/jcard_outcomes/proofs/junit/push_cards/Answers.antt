use Rattle.std.proofs.Common.{◌∙◌, ◌+◌, ap, length, min}
use Rattle.jcard_outcomes.proofs.RowReports.{card_more, card_whole}
use Rattle.jcard_outcomes.proofs.junit.push_cards.Goals as goal

pub loop-card-preserved : goal.loop-card-preserved
loop-card-preserved c = card_more c.args.file.now c.loop-card.first _ c.args.file.now.cards.items c.loop-card.card-index c.card-item.result _ c.loop-card.text.items
    c.push_rows.new.text.items (rw c.deref-card-items.ensures.value at c.loop-card-test.true)
    (rw c.deref-card-items.ensures.value at c.card-item.is) (rw c.deref.ensures.value at c.in_ok-push_rows.ensures)
    (c.saturating_add-first.ensures ∙ ap (λ rows. min (c.loop-card.first + length rows) 18446744073709551615) c.as_slice.ensures.value) c.loop-card.invariant

pub returns : goal.returns
returns c = card_whole c.args.file.now c.loop-card.first c.args.file.now.cards.items c.loop-card.card-index _ c.loop-card.text.items
    (rw c.deref-card-items.ensures.value at c.loop-card-test.false)
    c.loop-card.invariant
