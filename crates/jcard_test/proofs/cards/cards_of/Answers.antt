use Rattle.std.proofs.Common.{◌∷◌, [], refl, subst, sym}
use Rattle.jcard_test.specs.Cards.{IsNewCard}
use Rattle.jcard_test.proofs.CardSteps.{card_ended, card_last, card_next, card_pushed, card_row, card_same}
use Rattle.jcard_test.proofs.cards.cards_of.Goals as goal
use Rattle.jcard_test.proofs.cards.cards_of.Goals.{in-Some-card_size+in_ok-push-in-Some-card_size, in-None+in_ok-push_row-in-None}

pub loop-line-preserved-in_default : goal.loop-line-preserved-in_default
loop-line-preserved-in_default c = (
  c.loop-line.invariant.0,
  λ more a. c.loop-line.invariant.1 more (card_same c.args.lines.now c.loop-line.line-index c.line-item.result c.loop-line-test.true c.line-item.is
      c.loop-line.words c.loop-line.rows.items more (rw c.in_default.is at c.in_ok-row.ensures) a),
)

pub loop-line-preserved : goal.loop-line-preserved
loop-line-preserved c =
    let lines = c.args.lines.now in
    let i = c.loop-line.line-index in
    let row = c.in-Some.row in
    let says = rw c.in-Some.is at c.in_ok-row.ensures in
    elim c.match-card_size.branch [
      | in-Some-card_size+in_ok-push-in-Some-card_size w ↦
          let size = w.in-Some-card_size.size in
          let new = subst (λ t. IsNewCard t size) c.as_str.ensures.value w.in-Some-card_size.ensures in
          rw (w.cards-is, w.words-is, w.rows-is, w.new-rows-in-Some-card_size.ensures.items) (
            new.3,
            λ more a. card_pushed lines c.args.first c.loop-line.cards.items _ _ more w.in_ok-push-in-Some-card_size.ensures.items
                (c.loop-line.invariant.1 (_ ∷ more) (card_next lines i c.line-item.result c.loop-line-test.true c.line-item.is c.loop-line.words
                c.loop-line.rows.items more row size _ says new refl refl a)),
          )
      | in-None+in_ok-push_row-in-None w ↦
          rw (w.cards-is, w.words-is, w.rows-is) (
            c.loop-line.invariant.0,
            λ more a. c.loop-line.invariant.1 more (card_row lines i c.line-item.result c.loop-line-test.true c.line-item.is c.loop-line.words
                c.loop-line.rows.items more row _ says (λ size new. w.in-None.ensures size (subst (λ t. IsNewCard t size) (sym c.as_str.ensures.value) new)) w.in_ok-push_row-in-None.ensures a),
          )
    ]

pub returns : goal.returns
returns c = card_ended c.args.lines.now c.args.first c.loop-line.cards.items _ _ c.in_ok-push.ensures.items
    (c.loop-line.invariant.1 (_ ∷ []) (card_last c.args.lines.now c.loop-line.line-index c.loop-line.words c.loop-line.rows.items _ c.loop-line-test.false refl refl))
