use Rattle.std.proofs.Common.{◌≡◌, ◌≤◌, map, take, length, vec_len, vec_capacity}
use Rattle.jc_card.specs.Dispatching.{usual_budget}
use Rattle.jc_card.specs.State.{IsGood, kept_power, power_of}
use Rattle.jc_card.specs.State.Power.{StoreState}
use Rattle.jc_card.specs.Session.Requests.{reply_of}
use Rattle.jc_card.specs.Session.{IsSession, requests_of}
use Rattle.jc_card.proofs.session.session.Given as goal

abbrev pub invariant-loop-event : goal.invariant-loop-event
invariant-loop-event g l =
    let S = g.S.WordStore in
    let before : StoreState = record { words = S.words l.fn.store; down = S.down l.fn.store; passed = S.passed l.fn.store; refusals = S.refusals l.fn.store } in
    record {
      session : IsSession usual_budget before (requests_of (take l.event-index l.events)) (map reply_of l.answers.items)
          (kept_power S.words S.down S.passed S.refusals (power_of l.held));
      good : IsGood S.words (power_of l.held);
      count : vec_len l.answers ≡ l.event-index;
      room : length l.events ≤ vec_capacity l.answers;
    }
