-- Sessions whose store refused no write.
use Rattle.std.specs.Prelude.{ℕ, List, Ok}
use Rattle.jc_card.specs.Session.Requests.{Request, Reply}
use Rattle.jc_card.specs.State.Power.{StoreState}
use Rattle.jc_card.specs.Session.{SessionEnds, IsWholeSession, RefusesNone}

-- a session over a store that refused no write is that of a card that keeps whole copies of its heap
abbrev pub AreOfWholeCopies : Type 0
AreOfWholeCopies = (budget : ℕ) (before after : StoreState) (requests : List Request) (replies : List Reply) → SessionEnds budget (Ok replies) before requests after
    → RefusesNone before.refusals.count after.refusals.count → IsWholeSession budget before requests replies after
