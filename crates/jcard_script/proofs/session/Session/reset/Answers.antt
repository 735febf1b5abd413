use Rattle.std.proofs.Common.{◌≡◌, ap, rules, subst, sym}
use Rattle.jc_card.specs.Session.Serving.{AnswersResetOver}
use Rattle.jc_card.specs.State.{answer_of_power_up, power_of}
use Rattle.jcard_script.specs.HeldCard.{state_of_held}
use Rattle.jcard_script.specs.ScriptStates.{IsReset, fuse_kind}
use Rattle.jcard_script.proofs.PowerUps.{reset_answered}
use Rattle.jcard_script.proofs.session.Session.reset.Goals as goal

pub returns-clause-powered : goal.returns-clause-powered
returns-clause-powered g c =
    let before = state_of_held c.args.self.now.held in
    let after = power_of c.explain.new.held in
    let held : state_of_held c.hold.new.self.held ≡ after = ap (λ s. state_of_held s.held) c.hold.ensures in
    let powered : IsReset before after = search rules in (
      answer_of_power_up after,
      subst (λ s. AnswersResetOver fuse_kind before (answer_of_power_up after) s) (sym held) (reset_answered before after powered),
      c.power_up_reply-reply.ensures c.hold.new.self.response,
    )
