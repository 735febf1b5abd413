use Rattle.std.proofs.Common.{subst, sym}
use Rattle.jc_card.specs.Card.{CardState}
use Rattle.jcard_script.specs.Begun.{HasBegun}
use Rattle.jcard_script.specs.HeldCard.{state_of_held}
use Rattle.jcard_script.specs.Script.{AreCarriedOut, ended_lines}
use Rattle.jcard_script.specs.ScriptStates.{ScriptState}
use Rattle.jcard_script.proofs.begun.begin_script.Goals as goal

pub returns : goal.returns
returns g c =
    let start = c.start-session.ensures in
    let first : ScriptState = state_of_held c.start-session.result.0.held in
    let fed = c.is_fed-fed.ensures.fed c.if-not-fed.false in
    let up = c.in_ok-card.ensures in
    subst (λ (card : CardState). HasBegun c.args.budget c.args.fuse c.args.script.now card) (sym c.sharing.ensures)
    (record {
      first = first;
      text = fed.1.0;
      powers = rw fed.0 at start.powered;
      carried = subst (λ (s : ScriptState). AreCarriedOut (ended_lines c.args.script.now) first s fed.1.0) up.0 fed.1.1;
      whole = c.ends_a_line.ensures c.if-not-ends_a_line.false;
    })
