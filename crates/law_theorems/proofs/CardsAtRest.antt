-- What sessions come to is a card of its own, at rest.
use Rattle.std.proofs.Common.{List, [], ◌∷◌, sym, subst}
use Rattle.jc_platform.specs.Tokens.{Tokens}
use Rattle.jc_platform.proofs.OneAnswer.{one_table}
use Rattle.jc_card.specs.Dispatching.{with_response}
use Rattle.jc_card.specs.Session.Requests.{Request, Command, Reset, ArmFuse, PlanFault, Reply, Response, Ready, Down}
use Rattle.jc_card.specs.State.Power.{PowerState, Up, Off, budget_of, durable_state, durable_state_in_store}
use Rattle.jc_card.specs.Session.Serving.{Serves, SessionRun}
use Rattle.jc_card.specs.Session.Starting.{Starts}
use Rattle.law_theorems.specs.Cards.{IsOwnPower, StaysOwn}
use Rattle.law_theorems.specs.Rest.{IsResting}
use Rattle.law_theorems.proofs.Rest.{armed_rests, leave_at_rest, rests_so}
use Rattle.law_theorems.proofs.Sessions.{stays_own}
use Rattle.law_theorems.specs.Outcomes.{ComesTo, StoresCome}

pub comes_own : (t : Tokens) (s : PowerState) → ComesTo t s → IsOwnPower t s
comes_own t s c = let stays : StaysOwn = stays_own one_table in stays.session t (Off c.budget c.first) c.requests c.replies s c.bytes c.own c.run

pub stores_come : StoresCome
stores_come budget t before requests replies s own bytes session = started session.0 session.1 session.2
  where
    started : (first : PowerState) → Starts budget before first → SessionRun first requests replies s → ComesTo t s
    started (Up card) h run = record {
      budget = budget;
      first = durable_state_in_store before;
      requests = Reset ∷ requests;
      replies = Ready ∷ replies;
      own = own.own;
      bytes = (tt, bytes);
      run = (Up card, h.1, run);
    }
    started (Off b k) h run = record {
      budget = budget;
      first = durable_state_in_store before;
      requests = Reset ∷ requests;
      replies = Down ∷ replies;
      own = own.own;
      bytes = (tt, bytes);
      run = (Off b k, (h.1, h.2), run);
    }

-- ---- and at rest

abbrev pub Rests : PowerState → Type 0
Rests (Up card) = IsResting card.memory.heap
Rests (Off b k) = Unit {0}

request_rests : (s : PowerState) (request : Request) (reply : Reply) (next : PowerState) → Rests s → Serves s request reply next → Rests next
request_rests (Up card) (Command bytes) (Response r) (Up next) rest h = leave_at_rest bytes card (with_response next r) next.memory rest h
request_rests (Up card) (Command bytes) Down (Off b k) rest h = tt
request_rests (Off b k) (Command bytes) Down (Off d l) rest h = tt
request_rests s Reset Ready (Up card) rest h = rests_so (durable_state s) (budget_of s) card h
request_rests s Reset Down (Off b k) rest h = tt
request_rests (Up card) (ArmFuse k) reply next rest h = subst Rests (sym h.1) (armed_rests k card rest)
request_rests (Off b kept) (ArmFuse k) reply next rest h = subst Rests (sym h.1) tt
request_rests (Up card) (PlanFault fault) reply next rest h = subst Rests (sym h.1) rest
request_rests (Off b kept) (PlanFault fault) reply next rest h = subst Rests (sym h.1) tt
request_rests s request reply next rest h = absurd h

run_rests : (requests : List Request) (replies : List Reply) (s last : PowerState) → Rests s → SessionRun s requests replies last → Rests last
run_rests [] [] s last rest h = subst Rests (sym h) rest
run_rests (request ∷ requests) (reply ∷ replies) s last rest h =
    run_rests requests replies h.0 last (request_rests s request reply h.0 rest h.1) h.2
run_rests [] (reply ∷ replies) s last rest h = absurd h
run_rests (request ∷ requests) [] s last rest h = absurd h

pub comes_rests : (t : Tokens) (s : PowerState) → ComesTo t s → Rests s
comes_rests t s c = run_rests c.requests c.replies (Off c.budget c.first) s tt c.run
