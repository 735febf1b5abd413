use Rattle.std.proofs.Common.{◌<◌, ◌≤◌, length, map, inr, arith}
use Rattle.jc_card.specs.Dispatching.{usual_budget}
use Rattle.jc_card.specs.State.{kept_power, power_of}
use Rattle.jc_card.specs.State.Power.{StoreState}
use Rattle.jc_card.specs.Session.Requests.{reply_of}
use Rattle.jc_card.specs.Session.{requests_of}
use Rattle.jc_card.proofs.HeldStates.{store_held}
use Rattle.jc_card.proofs.SessionRuns.{session_ended, session_more, stops_at_reset}
use Rattle.jc_card.proofs.WholeSessions.{are_whole}
use Rattle.jc_card.proofs.session.session.Goals as goal

pub loop-event-preserved : goal.loop-event-preserved
loop-event-preserved g c =
    let S = g.S.WordStore in
    let i = c.loop-event.invariant in
    let below : c.loop-event.event-index < length c.args.events.now = omega arith in
    let before : StoreState =
    record { words = S.words c.args.store; down = S.down c.args.store; passed = S.passed c.args.store; refusals = S.refusals c.args.store } in
    let last = kept_power S.words S.down S.passed S.refusals (power_of c.loop-event.held) in
    let next = kept_power S.words S.down S.passed S.refusals (power_of c.in-Ok-serve.next) in
    record {
      session = session_more usual_budget before c.args.events.now c.loop-event.event-index c.loop-event.answers.items c.push.new.self.items
          last next c.event-item.result c.in-Ok-serve.answer below c.event-item.is c.in-Ok-push.ensures.items
          i.session c.in-Ok-serve.ensures.served;
      good = c.in-Ok-serve.ensures.good;
      count = omega (arith, c.in-Ok-push.ensures.len);
      room = omega (arith, c.in-Ok-push.ensures.capacity);
    }

pub returns-in-Err-serve-clause-session : goal.returns-in-Err-serve-clause-session
returns-in-Err-serve-clause-session g c =
    let S = g.S.WordStore in
    let n = c.loop-event.event-index in
    let below : c.loop-event.event-index < length c.args.events.now = omega arith in
    let before : StoreState =
    record { words = S.words c.args.store; down = S.down c.args.store; passed = S.passed c.args.store; refusals = S.refusals c.args.store } in
    let left = c.in-Err-serve.store in
    let after : StoreState = record { words = S.words left; down = S.down left; passed = S.passed left; refusals = S.refusals left } in
    let last = kept_power S.words S.down S.passed S.refusals (power_of c.loop-event.held) in
    inr (stops_at_reset usual_budget before after c.args.events.now (map reply_of c.loop-event.answers.items) last n c.event-item.result c.in-Err-serve.fault below
    c.event-item.is c.loop-event.invariant.session c.in-Err-serve.ensures.fault)

pub returns-clause-session : goal.returns-clause-session
returns-clause-session g c =
    let S = g.S.WordStore in
    let before : StoreState =
    record { words = S.words c.args.store; down = S.down c.args.store; passed = S.passed c.args.store; refusals = S.refusals c.args.store } in
    let over : length c.args.events.now ≤ c.loop-event.event-index = omega arith in
    let last = kept_power S.words S.down S.passed S.refusals (power_of c.loop-event.held) in (
      last,
      session_ended usual_budget before c.args.events.now (map reply_of c.loop-event.answers.items) last c.loop-event.event-index over
          c.loop-event.invariant.session,
      store_held S.words S.down S.passed S.refusals (power_of c.loop-event.held) c.into_store-store-2.result c.loop-event.invariant.good
          c.into_store-store-2.ensures,
    )

pub returns-clause-whole : goal.returns-clause-whole
returns-clause-whole g c = λ none.
    let S = g.S.WordStore in
    let before : StoreState =
    record { words = S.words c.args.store; down = S.down c.args.store; passed = S.passed c.args.store; refusals = S.refusals c.args.store } in
    let left = c.into_store-store-2.result in
    let after : StoreState = record { words = S.words left; down = S.down left; passed = S.passed left; refusals = S.refusals left } in
    let over : length c.args.events.now ≤ c.loop-event.event-index = omega arith in
    let last = kept_power S.words S.down S.passed S.refusals (power_of c.loop-event.held) in
    are_whole usual_budget before after (requests_of c.args.events.now) (map reply_of c.loop-event.answers.items) last
    (session_ended usual_budget before c.args.events.now (map reply_of c.loop-event.answers.items) last c.loop-event.event-index over
    c.loop-event.invariant.session)
    (store_held S.words S.down S.passed S.refusals (power_of c.loop-event.held) left c.loop-event.invariant.good c.into_store-store-2.ensures) none
