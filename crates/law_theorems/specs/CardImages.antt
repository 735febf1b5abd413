-- Images that the product's commands made.
use Rattle.std.specs.Prelude.{ℕ, ◌≡◌, Bool, List, length, Ok}
use Rattle.jc_words.specs.Refusals.{Refusals}
use Rattle.jc_commit.specs.Image.{IsGoodLog, limit_of, recovered_of}
use Rattle.jc_heap.specs.Heap.{heap_of}
use Rattle.jc_heap.specs.Image.{IsWellFormed}
use Rattle.jc_heap.specs.Heap.Store.{HoldsHeap}
use Rattle.jc_image.specs.declared.laying.ImageRoom.{ImageRoom}
use Rattle.jc_platform.specs.Table.{Reads}
use Rattle.jc_platform.specs.Tokens.{Tokens}
use Rattle.jc_card.specs.Card.{CardState}
use Rattle.jc_card.specs.ProductImages.{IsMade, new_card_heap}
use Rattle.jc_card.specs.State.Power.{KeptState}
use Rattle.law_theorems.specs.Cards.{IsOwnCard, IsOwnKept}

-- these words keep what is left of a card: a recovery of them leaves its heap
pub record Keeps (words : List ℕ) (k : KeptState) : Type 0 where
  pub good : IsGoodLog words
  pub laid : IsWellFormed (recovered_of words)
  pub durable : heap_of (recovered_of words) ≡ k.durable
  pub size : limit_of words ≡ k.size

-- A new image is one that commands may go on from. Each that commands made of such a one is an image that the product makes, and so powers
-- up again: the words of the store that a card gives back, and those that keep what is left of one
pub record ImagesStayMade : Type 0 where
  pub new : (t : Tokens) (room : ImageRoom) (text words : List ℕ) (k : KeptState) → IsMade words → Reads text (Ok t)
      → heap_of (recovered_of words) ≡ new_card_heap (length words) room text t → Keeps words k → IsOwnKept t k
  pub kept : (t : Tokens) (words : List ℕ) (k : KeptState) → IsOwnKept t k → Keeps words k → IsMade words
  pub card : (t : Tokens) (words : List ℕ) (down : Bool) (passed : ℕ) (refusals : Refusals) (card : CardState) → IsOwnCard t card
      → HoldsHeap words down passed refusals card.memory.heap → IsMade words
