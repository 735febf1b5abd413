use Rattle.std.proofs.Common.{Bool, true, false, IsTrue, rules, subst}
use Rattle.std.specs.Bool.{OnTrue}
use Rattle.std.specs.Str.Lines.{lines}
use Rattle.jcard_script.specs.HeldCard.{state_of_held}
use Rattle.jcard_script.specs.Script.{AreCarriedOut}
use Rattle.jcard_script.specs.ScriptStates.{ScriptState}
use Rattle.jcard_script.proofs.begun.answered.Goals as goal

whole_at_end : (b : Bool) (P : Type 0) → IsTrue b → OnTrue b P → P
whole_at_end true P is p = p
whole_at_end false P is p = search rules

is_true : IsTrue true
is_true = search rules

pub returns-in-Ok : goal.returns-in-Ok
returns-in-Ok g c =
    let ran = c.run-ended.ensures.script in
    let ended = rw c.in-Ok.is at ran.6 in
    let last : ScriptState = state_of_held c.run-ended.new.self.held in
    let carried = subst (λ (s : ScriptState). AreCarriedOut (lines ran.0) s last ran.1) c.of_card-session.ensures.card ended.1 in
    (ran.0, ran.1, ran.3, ran.4, whole_at_end ran.2 _ ended.0 ran.5, (last, (is_true, carried), c.into_store-store.ensures.store))
