-- Sessions over a store that refuses no write.
use Rattle.std.proofs.Common.{◌≡◌, ℕ, ◌+◌, ◌<◌, ◌≤◌, List, [], ◌∷◌, false, refl, sym, ◌∙◌, ap, subst, arith}
use Rattle.jc_words.specs.Count.{saturating_count}
use Rattle.jc_words.specs.Refusals.{Refusals, refused_once}
use Rattle.jc_card.specs.Card.{CardState}
use Rattle.jc_card.specs.Session.Requests.{Request, Command, Reset, ArmFuse, PlanFault, Reply, Response, Ready, Down}
use Rattle.jc_card.specs.State.Power.{PowerState, Up, Off, KeptState, StoreState, IsStoreOf, armed_card, budget_of, durable_state, durable_state_in_store, planned_card}
use Rattle.jc_card.specs.Session.Starting.{Starts, IsPoweredUp}
use Rattle.jc_card.specs.Session.Serving.{Serves, SessionRun}
use Rattle.jc_card.specs.Session.{ServesWhole, RunsWhole}
use Rattle.jc_card.specs.SessionLaws.{AreWholeSessions, ResetsBeginAnew, DownTellsRefusals, IsToldByReply, IsToldOfRefusal}
use Rattle.jc_card.proofs.Refusals.{one_more, count_raised, powered_refusals, done_refusals, served_grows, run_grows}

no_rise : (p : ℕ) (old new : Refusals) → old.count < 18446744073709551615 → new ≡ refused_once false p old → new.count ≡ old.count → ⊥
no_rise p old new small risen same =
    let e : saturating_count old.count 1 ≡ old.count + 1 = one_more old.count small in omega (arith, count_raised p old new risen, same, e)

-- where the count does not rise, the card stays up, and serves a request as one with whole copies
served_whole : (card : CardState) (request : Request) (reply : Reply) (next : PowerState) → Serves (Up card) request reply next
    → card.memory.heap.refusals.count < 18446744073709551615 → (durable_state next).refusals.count ≡ card.memory.heap.refusals.count →
    (mid : CardState) × (next ≡ Up mid) × ServesWhole card request reply mid
served_whole card (Command bytes) (Response r) (Up next) h small same = (next, refl, h)
served_whole card (Command bytes) Down (Off b k) h small same = absurd (no_rise k.passed card.memory.heap.refusals k.refusals small h.1.2 same)
served_whole card Reset Ready (Up next) h small same = (next, refl, h)
served_whole card Reset Down (Off b k) h small same =
    absurd (no_rise k.passed card.memory.heap.refusals k.refusals small (ap (λ (x : KeptState). x.refusals) h.0) same)
served_whole card (ArmFuse k) reply next h small same = (armed_card k card, h.1, (h.0, refl))
served_whole card (PlanFault fault) reply next h small same = (planned_card fault card, h.1, (h.0, refl))
served_whole card request reply next h small same = absurd h

run_whole : (requests : List Request) (replies : List Reply) (card : CardState) (last : PowerState) → SessionRun (Up card) requests replies last
    → card.memory.heap.refusals.count < 18446744073709551615 → (durable_state last).refusals.count ≡ card.memory.heap.refusals.count →
    (end : CardState) × (last ≡ Up end) × RunsWhole card requests replies end
run_whole [] [] card last h small same = (card, h, refl)
run_whole (request ∷ requests) (reply ∷ replies) card last h small same =
    let up = served_grows (Up card) request reply h.0 h.1 in
    let on = run_grows h.0 requests replies last h.2 in
    let stays : (durable_state h.0).refusals.count ≡ card.memory.heap.refusals.count = omega (arith, up, on, same) in
    let served = served_whole card request reply h.0 h.1 small stays in
    let count : served.0.memory.heap.refusals.count ≡ card.memory.heap.refusals.count = sym (ap (λ p. (durable_state p).refusals.count) served.1) ∙ stays in
    let rest = run_whole requests replies served.0 last (subst (λ p. SessionRun p requests replies last) served.1 h.2) (omega (arith, count, small))
    (same ∙ sym count) in
    (rest.0, rest.1, (served.0, served.2, rest.2))
run_whole [] (reply ∷ replies) card last h small same = absurd h
run_whole (request ∷ requests) [] card last h small same = absurd h

start_count : (budget : ℕ) (before : StoreState) (first : PowerState) → Starts budget before first → before.refusals.count ≤ (durable_state first).refusals.count
start_count budget before (Up card) h =
    let e : card.memory.heap.refusals.count ≡ before.refusals.count = ap (λ (x : Refusals). x.count) (powered_refusals (durable_state_in_store before) budget card h.1) in
    omega (arith, e)
start_count budget before (Off b k) h =
    let e = count_raised k.passed before.refusals k.refusals (ap (λ (x : KeptState). x.refusals) h.1) in omega (arith, e)

started_up : (budget : ℕ) (before : StoreState) (first : PowerState) → Starts budget before first → before.refusals.count < 18446744073709551615
    → (durable_state first).refusals.count ≡ before.refusals.count →
    (card : CardState) × (first ≡ Up card) × IsPoweredUp (durable_state_in_store before) budget card
started_up budget before (Up card) h small same = (card, refl, h.1)
started_up budget before (Off b k) h small same = absurd (no_rise k.passed before.refusals k.refusals small (ap (λ (x : KeptState). x.refusals) h.1) same)

pub are_whole : AreWholeSessions
are_whole budget before after requests replies last session store none =
    let left : after.refusals.count ≡ (durable_state last).refusals.count = ap (λ (x : KeptState). x.refusals.count) store.kept in
    let up = start_count budget before session.0 session.1 in
    let on = run_grows session.0 requests replies last session.2 in
    let stays : (durable_state session.0).refusals.count ≡ before.refusals.count = omega (arith, left, up, on, none.1) in
    let first = started_up budget before session.0 session.1 none.0 stays in
    let count : first.0.memory.heap.refusals.count ≡ before.refusals.count = sym (ap (λ p. (durable_state p).refusals.count) first.1) ∙ stays in
    let run = run_whole requests replies first.0 last (subst (λ p. SessionRun p requests replies last) first.1 session.2) (omega (arith, count, none.0))
    (sym left ∙ (none.1 ∙ sym count)) in
    (first.0, run.0, first.2, run.2, subst (λ p. IsStoreOf p after) run.1 store)

pub begin_anew : ResetsBeginAnew
begin_anew card next h = record {
  heap = ap (λ v. v.now) h.heap;
  closed = ap (λ v. v.begun) h.heap;
  blank = h.reset.ram;
  unselected = ap (λ r. r.selected) h.reset.registers;
  unloaded = h.reset.load;
  budget = h.budget;
}

told_by_reply : (s : PowerState) (request : Request) (reply : Reply) (next : PowerState) → Serves s request reply next → IsToldByReply request reply s next
told_by_reply (Up card) (Command bytes) (Response r) (Up next) h = done_refusals bytes r card next h
told_by_reply (Up card) (Command bytes) Down (Off b k) h = tt
told_by_reply (Off b k) (Command bytes) Down (Off d l) h = tt
told_by_reply s Reset Ready (Up card) h = powered_refusals (durable_state s) (budget_of s) card h
told_by_reply s Reset Down (Off b k) h = tt
told_by_reply s (ArmFuse k) reply next h = subst (λ r. IsToldByReply (ArmFuse k) r s next) (sym h.0) (refl, h.1)
told_by_reply s (PlanFault fault) reply next h = subst (λ r. IsToldByReply (PlanFault fault) r s next) (sym h.0) (refl, h.1)
told_by_reply s request reply next h = absurd h

told_down : (s : PowerState) (request : Request) (next : PowerState) → Serves s request Down next → IsToldOfRefusal request s next
told_down (Up card) (Command bytes) (Off b k) h = h.1.2
told_down (Off b k) (Command bytes) (Off d l) h = λ i. Off (h.1 i) (h.0 i)
told_down (Up card) Reset (Off b k) h = ap (λ (x : KeptState). x.refusals) h.0
told_down (Off d l) Reset (Off b k) h = ap (λ (x : KeptState). x.refusals) h.0
told_down s (ArmFuse k) next h = cc h.0
told_down s (PlanFault fault) next h = cc h.0
told_down s request next h = absurd h

pub down_tells : DownTellsRefusals
down_tells s request reply next h = record {
  told = told_by_reply s request reply next h;
  down = λ e. told_down s request next (subst (λ r. Serves s request r next) e h);
}
