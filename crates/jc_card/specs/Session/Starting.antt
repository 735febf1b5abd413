-- Powering up: at the beginning, over whatever words a store has, and at a reset.
use Rattle.std.specs.Prelude.{ℕ, ◌≡◌, false}
use Rattle.jc_commit.specs.Image.{limit_of}
use Rattle.jc_heap.specs.Heap.{heap_at_rest}
use Rattle.jc_interp.specs.Attacks.{undisturbed}
use Rattle.jc_card.specs.Card.{CardState}
use Rattle.jc_card.specs.ProductImages.{IsCardHeap, IsMade}
use Rattle.jc_card.specs.PowerUp.{PowerUpRefuses, RefusalLeaves}
use Rattle.jc_card.specs.PowerUp.Reset.{IsAtReset}
use Rattle.jc_card.specs.declared.power_up.PowerFault.{PowerFault}
use Rattle.jc_card.specs.declared.power_up.PowerFault.TheVariants.{StoreDown}
use Rattle.jc_card.specs.State.Power.{PowerState, Up, Off, KeptState, StoreState, IsStoreOf, budget_of, durable_state, durable_state_in_store, with_power, with_refusal}

-- the card of what was left, with a budget of n and no attack: its heap is the durable one, at rest, and all else is as after a reset
pub record IsPoweredUp (k : KeptState) (n : ℕ) (card : CardState) : Type 0 where
  pub made : IsCardHeap k.durable.head.1 k.durable
  pub heap : card.memory.heap ≡ heap_at_rest k.durable card.memory.heap.passed k.refusals k.size
  pub reset : IsAtReset k.durable card
  pub budget : card.budget ≡ undisturbed n

-- a power up over a store, with this budget, ends so: the card is up, over words that the product makes; or a write was refused
abbrev pub Starts : ℕ → StoreState → PowerState → Type 0
Starts budget store (Up card) = IsMade store.words × IsPoweredUp (durable_state_in_store store) budget card
Starts budget store (Off b k) = PowerUpRefuses StoreDown store.words × (k ≡ with_refusal k.passed (durable_state_in_store store)) × (b ≡ budget)

-- a power up over a store finds this fault, which its words have and which is not that a write was refused; the words that
-- it leaves are these
pub record FailsToStart (fault : PowerFault) (before after : StoreState) : Type 0 where
  pub cause : PowerUpRefuses fault before.words
  pub other : fault ≡ StoreDown → ⊥
  pub stands : RefusalLeaves fault before.words after.words
  pub size : limit_of after.words ≡ limit_of before.words
  pub up : after.down ≡ false
  pub refusals : after.refusals ≡ before.refusals

-- a reset of a card that is so finds this fault, which the words of its store have; what was left of it stays, with the power on
abbrev pub FailsToReset : PowerFault → PowerState → StoreState → Type 0
FailsToReset fault s after = (before : StoreState) × IsStoreOf s before × PowerUpRefuses fault before.words × (fault ≡ StoreDown → ⊥)
    × IsStoreOf (Off (budget_of s) (with_power after.passed (durable_state s))) after
