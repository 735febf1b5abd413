use Rattle.std.proofs.Common.{ℕ, subst, sym}
use Rattle.jc_card.specs.State.Power.{Off}
use Rattle.jc_card.specs.Session.Requests.{Down}
use Rattle.jc_card.specs.Session.Serving.{AnswersCommand}
use Rattle.jc_card.specs.State.{kept_power, power_of}
use Rattle.jc_card.proofs.HeldStates.{command_answered, command_refused}
use Rattle.jc_card.proofs.session.carry_out.Goals as goal

pub returns-then-exchange : goal.returns-then-exchange
returns-then-exchange g c =
    let S = g.S.WordStore in
    let done = command_answered S.words S.down S.passed S.refusals c.exchange.result (power_of c.args.held) (power_of c.exchange.new.self) c.args.command.now
    c.exchange.new.response c.if-exchange.true c.exchange.ensures.answer (rw c.if-exchange.true at c.exchange.ensures.up) in
    record { good = done.0; answer = done.1 }

pub returns : goal.returns
returns g c =
    let S = g.S.WordStore in
    let before = kept_power S.words S.down S.passed S.refusals (power_of c.args.held) in
    let left = command_refused S.words S.down S.passed S.refusals c.exchange.result (power_of c.args.held) (power_of c.exchange.new.self)
    c.into_store-store.result c.args.command.now c.exchange.new.response c.if-exchange.false c.requires.good c.exchange.ensures.answer
    c.into_store-store.ensures in
    record {
      good = left.0;
      answer = subst (λ (n : ℕ). AnswersCommand before c.args.command.now Down (kept_power S.words S.down S.passed S.refusals (Off n c.into_store-store.result)))
          (sym c.budget-budget.ensures) left.1;
    }
