use Rattle.std.proofs.Common.{◌∙◌, arith, ap, map, sym}
use Rattle.std.proofs.lemmas.List.{length-map}
use Rattle.jcard_outcomes.proofs.Ends.{lent}
use Rattle.jcard_outcomes.proofs.PartHeads.{behind_all, behind_more, behind_none, behind_other, text_at}
use Rattle.jcard_outcomes.proofs.sweep_head.bodies_behind.Goals as goal

pub loop-place-init : goal.loop-place-init
loop-place-init c = behind_none c.args.name.now (map (λ t. t.items) c.args.texts.now) (lent c.new-bodies.result.items) (ap lent c.new-bodies.ensures.items)

pub loop-place-preserved : goal.loop-place-preserved
loop-place-preserved c =
    let at = text_at (λ t. t.items) c.args.texts.now c.loop-place.place c.index-texts-place.result c.loop-place-test.true c.index-texts-place.is in
    behind_more c.args.name.now (map (λ t. t.items) c.args.texts.now) (lent c.loop-place.bodies.items) (lent c.push_body.new.bodies.items) c.loop-place.place
    c.in-Some.body.now c.loop-place.invariant (omega (arith, length-map c.args.texts.now (λ t. t.items), c.loop-place-test.true))
    (at ∙ rw c.deref.ensures.value at c.in-Some.ensures, c.requires.plain) c.in_ok-push_body-in-Some.ensures.pushed

pub returns-in-None : goal.returns-in-None
returns-in-None c =
    let at = text_at (λ t. t.items) c.args.texts.now c.loop-place.place c.index-texts-place.result c.loop-place-test.true c.index-texts-place.is in
    behind_other c.args.name.now (map (λ t. t.items) c.args.texts.now) (lent c.loop-place.bodies.items) c.loop-place.place c.requires.first.0
    c.loop-place.invariant (omega (arith, length-map c.args.texts.now (λ t. t.items), c.loop-place-test.true))
    (c.requires.first.1, c.requires.plain) (λ body e. c.in-None.ensures body (c.deref.ensures.value ∙ sym at ∙ e))

pub returns : goal.returns
returns c = behind_all c.args.name.now (map (λ t. t.items) c.args.texts.now) (lent c.loop-place.bodies.items) c.loop-place.place
    c.loop-place.invariant (omega (arith, length-map c.args.texts.now (λ t. t.items), c.loop-place-test.false))
