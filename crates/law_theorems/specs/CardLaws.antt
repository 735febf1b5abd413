-- How sessions end over stores that the product's commands left.
use Rattle.std.specs.Prelude.{ℕ, ◌≡◌, List, length, Ok, Err}
use Rattle.jc_commit.specs.Image.{recovered_of}
use Rattle.jc_heap.specs.Heap.{heap_of}
use Rattle.jc_image.specs.declared.laying.ImageRoom.{ImageRoom}
use Rattle.jc_platform.specs.Table.{Reads}
use Rattle.jc_platform.specs.Tokens.{Tokens}
use Rattle.jc_card.specs.ProductImages.{IsMade, new_card_heap}
use Rattle.jc_card.specs.declared.power_up.PowerFault.{PowerFault as Fault}
use Rattle.jc_card.specs.declared.power_up.PowerFault.TheVariants.{NoMemory}
use Rattle.jc_card.specs.declared.session.SessionFault.TheVariants.{PowerFault}
use Rattle.jc_card.specs.Session.Requests.{Request, Reply}
use Rattle.jc_card.specs.State.Power.{StoreState, durable_state_in_store}
use Rattle.jc_card.specs.Session.{SessionEnds}
use Rattle.law_theorems.specs.Cards.{AreOfBytes, IsOwnKept}
use Rattle.law_theorems.specs.CardImages.{Keeps}

-- a store that commands left: its words keep a card from which they may go on
pub record IsOwnStore (t : Tokens) (store : StoreState) : Type 0 where
  pub keeps : Keeps store.words (durable_state_in_store store)
  pub own : IsOwnKept t (durable_state_in_store store)

-- Such is the store of a new image. A session over such a store leaves such a one, which powers up again, also where it ended by a
-- fault; and neither its first power up nor a reset in it finds a fault but want of memory
pub record SessionsEndWell : Type 0 where
  pub new : (t : Tokens) (room : ImageRoom) (text : List ℕ) (store : StoreState) → IsMade store.words → Reads text (Ok t)
      → heap_of (recovered_of store.words) ≡ new_card_heap (length store.words) room text t → IsOwnStore t store
  pub made : (t : Tokens) (store : StoreState) → IsOwnStore t store → IsMade store.words
  pub done : (budget : ℕ) (t : Tokens) (before after : StoreState) (requests : List Request) (replies : List Reply) → AreOfBytes requests → IsOwnStore t before
      → SessionEnds budget (Ok replies) before requests after → IsOwnStore t after
  pub fault : (budget : ℕ) (t : Tokens) (before after : StoreState) (requests : List Request) (fault : Fault) → AreOfBytes requests → IsOwnStore t before
      → SessionEnds budget (Err (PowerFault fault)) before requests after → (fault ≡ NoMemory) × IsOwnStore t after
