-- Runs of sessions, request by request.
use Rattle.std.proofs.Common.{◌≡◌, ◌<◌, ◌≤◌, ◌+◌, ◌∙◌, ℕ, List, [], ◌∷◌, ◌++◌, Some, length, get_or, map, take, refl, sym, ap, subst}
use Rattle.std.specs.Option.{option_map}
use Rattle.std.proofs.lemmas.List.{map-append, take-map, take_all, take_more}
use Rattle.std.proofs.lemmas.Option.{slice_get-map, slice_get_read}
use Rattle.jc_card.specs.declared.power_up.PowerFault.{PowerFault}
use Rattle.jc_card.specs.declared.event.Answer.{Answer}
use Rattle.jc_card.specs.declared.event.Event.{Event}
use Rattle.jc_card.specs.Session.Requests.{Request, Reset, Reply, reply_of, request_of}
use Rattle.jc_card.specs.State.Power.{PowerState, StoreState}
use Rattle.jc_card.specs.Session.Serving.{Serves, SessionRun}
use Rattle.jc_card.specs.Session.Starting.{FailsToReset}
use Rattle.jc_card.specs.Session.{IsSession, FailsAtReset, requests_of}

-- one run after another
pub run_then : (requests more : List Request) (replies given : List Reply) (s t u : PowerState) → SessionRun s requests replies t → SessionRun t more given u
    → SessionRun s (requests ++ more) (replies ++ given) u
run_then [] more [] given s t u run next = subst (λ p. SessionRun p more given u) run next
run_then (request ∷ requests) more (reply ∷ replies) given s t u run next =
    (run.0, run.1, run_then requests more replies given run.0 t u run.2 next)
run_then [] more (reply ∷ replies) given s t u run next = absurd run
run_then (request ∷ requests) more [] given s t u run next = absurd run

-- one more event is served
pub session_more : (budget : ℕ) (before : StoreState) (events : List Event) (n : ℕ) (answers given : List Answer) (t u : PowerState) (event : Event) (answer : Answer)
    → n < length events → event ≡ get_or events n event → given ≡ answers ++ answer ∷ [] → IsSession budget before (requests_of (take n events)) (map reply_of answers) t
    → Serves t (request_of event) (reply_of answer) u → IsSession budget before (requests_of (take (n + 1) events)) (map reply_of given) u
session_more budget before events n answers given t u event answer below is more session served =
    let asked : requests_of (take (n + 1) events) ≡ requests_of (take n events) ++ request_of event ∷ [] =
    ap (map request_of) (take_more events n event below ∙ ap (λ x. take n events ++ x ∷ []) (sym is)) ∙ map-append request_of (take n events) (event ∷ []) in
    let told : map reply_of given ≡ map reply_of answers ++ reply_of answer ∷ [] = ap (map reply_of) more ∙ map-append reply_of answers (answer ∷ []) in
    subst (λ l. IsSession budget before l (map reply_of given) u) (sym asked)
    (subst (λ l. IsSession budget before (requests_of (take n events) ++ request_of event ∷ []) l u) (sym told) (
      session.0,
      session.1,
      run_then (requests_of (take n events)) (request_of event ∷ []) (map reply_of answers) (reply_of answer ∷ []) session.0 t u session.2 (u, served, refl),
    ))

-- all events were served
pub session_ended : (budget : ℕ) (before : StoreState) (events : List Event) (replies : List Reply) (last : PowerState) (n : ℕ) → length events ≤ n
    → IsSession budget before (requests_of (take n events)) replies last → IsSession budget before (requests_of events) replies last
session_ended budget before events replies last n over session =
    subst (λ l. IsSession budget before (requests_of l) replies last) (take_all n events over) session

-- the first n events were served, and the reset after them finds a fault
pub stops_at_reset : (budget : ℕ) (before after : StoreState) (events : List Event) (replies : List Reply) (last : PowerState) (n : ℕ) (event : Event) (fault : PowerFault)
    → n < length events → event ≡ get_or events n event → IsSession budget before (requests_of (take n events)) replies last
    → (request_of event ≡ Reset) × FailsToReset fault last after → FailsAtReset budget fault before (requests_of events) after
stops_at_reset budget before after events replies last n event fault below is session fails = (
  n,
  replies,
  last,
  slice_get-map request_of events n ∙ ap (option_map request_of) (slice_get_read events (length events) n event refl below is) ∙ ap Some fails.0,
  subst (λ l. IsSession budget before l replies last) (sym (take-map request_of n events)) session,
  fails.1,
)
