use Rattle.std.proofs.Common.{◌≡◌, ◌∙◌, ℕ, [], ap, subst, sym}
use Rattle.std.proofs.lemmas.Option.{IfSome_then}
use Rattle.jc_words.specs.Store.{FuseStoreValue}
use Rattle.jc_card.specs.Card.{CardState}
use Rattle.jc_card.specs.State.Power.{Up}
use Rattle.jcard_script.specs.Begun.{HasBegun}
use Rattle.jcard_script.specs.ScriptStates.{PowersUp}
use Rattle.jcard_sweeps.specs.Runs.{store_of}
use Rattle.jcard_sweeps.proofs.WholeRuns.{under_fuse}
use Rattle.jcard_tear.proofs.answers.answers_over.Goals as goal

-- a card that has carried out no line is as it was powered up
powered : (budget : ℕ) (before : FuseStoreValue) (card : CardState) → HasBegun budget before [] card → PowersUp budget before (Up card)
powered budget before card begun = subst (PowersUp budget before) (sym begun.carried.0) begun.powers

pub returns : goal.returns
returns c =
    let fresh : c.new-store.result ≡ store_of c.args.words.now =
    c.new-store.ensures ∙ ap under_fuse c.of.ensures ∙ ap store_of c.in-Ok.ensures.items in
    let begun = subst (λ (f : FuseStoreValue). HasBegun c.args.budget f [] c.in_ok-card.card) fresh c.in_ok-card.ensures in
    IfSome_then c.probed.result c.probed.ensures (λ answers is. (c.in_ok-card.card, powered c.args.budget (store_of c.args.words.now) c.in_ok-card.card begun, is.0, is.1))
