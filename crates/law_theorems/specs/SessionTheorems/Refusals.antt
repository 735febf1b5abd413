-- The answer down.
use Rattle.std.specs.Prelude.{◌≡◌, ◌<◌, ◌↔◌}
use Rattle.jc_card.specs.Session.Requests.{Request, Reply, Down}
use Rattle.jc_card.specs.SessionLaws.{IsToldOfRefusal, refusals_before}
use Rattle.jc_card.specs.State.Power.{PowerState, durable_state}
use Rattle.jc_card.specs.Session.Serving.{Serves}

-- However a request is served, while the count of refused writes has not come to its end: it is answered down exactly where the store
-- refused one write, or the card was off and a command came; and where it is not, no write was refused
pub record TellsDown (s : PowerState) (request : Request) (reply : Reply) (next : PowerState) : Type 0 where
  pub down : (reply ≡ Down) ↔ IsToldOfRefusal request s next
  pub other : (reply ≡ Down → ⊥) → (durable_state next).refusals ≡ refusals_before request s

abbrev pub DownTells : Type 0
DownTells = (s : PowerState) (request : Request) (reply : Reply) (next : PowerState) → Serves s request reply next
    → (durable_state s).refusals.count < 18446744073709551615 → TellsDown s request reply next
