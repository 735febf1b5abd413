-- What comes of powering a card up: the card, or why there is none and what is left of the store.
use Rattle.std.specs.Prelude.{ℕ, ◌≡◌, Bool, false, List, Result, Ok, Err}
use Rattle.jc_words.specs.Refusals.{Refusals}
use Rattle.jc_commit.specs.Image.{limit_of, recovered_of}
use Rattle.jc_commit.specs.Migration.{migrated}
use Rattle.jc_commit.specs.Journal.{IsStoppedOpening}
use Rattle.jc_commit.specs.State.{recovered_journal}
use Rattle.jc_heap.specs.Heap.{heap_of, heap_view}
use Rattle.jc_card.specs.Card.{CardState}
use Rattle.jc_interp.specs.Attacks.{undisturbed}
use Rattle.jc_card.specs.ProductImages.{IsMade}
use Rattle.jc_card.specs.PowerUp.{IsRecovered, PowerUpRefuses}
use Rattle.jc_card.specs.PowerUp.Reset.{IsAtReset}
use Rattle.jc_card.specs.declared.power_up.PowerFault.{PowerFault}
use Rattle.jc_card.specs.declared.power_up.PowerFault.TheVariants.{BadMagic, BadVersion, BadSize, BadLog, BadTable, BadPackage, NoMemory, StoreDown}

-- a store that is up, and whose words the product makes, becomes this card, with a budget of n and no attack: its heap is what the recovery
-- and the migration leave, and all else is as after a reset
pub record IsPoweredOver (words : List ℕ) (down : Bool) (passed : ℕ) (refusals : Refusals) (n : ℕ) (card : CardState) : Type 0 where
  pub made : IsMade words
  pub was_up : down ≡ false
  pub heap : card.memory.heap ≡ heap_view (recovered_journal words passed refusals) (limit_of words)
  pub reset : IsAtReset (heap_of (recovered_of words)) card
  pub budget : card.budget ≡ undisturbed n

-- the store was up, and holds what its recovery and its migration leave: their writes have passed, and none was refused
pub record IsLeftRecovered {S : Type 0} (words : S → List ℕ) (down : S → Bool) (passed : S → ℕ) (refusals : S → Refusals) (old new : S) : Type 0 where
  pub left : IsRecovered (migrated 3 (recovered_of (words old))) (words new)
  pub was_up : down old ≡ false
  pub is_up : down new ≡ false
  pub writes : passed new ≡ (recovered_journal (words old) (passed old) (refusals old)).passed
  pub none_refused : refusals new ≡ refusals old

-- what a fault leaves of the store: one that is found before the recovery leaves it as it was
abbrev pub FaultLeaves : {S : Type 0} → (S → List ℕ) → (S → Bool) → (S → ℕ) → (S → Refusals) → S → PowerFault → S → Type 0
FaultLeaves words down passed refusals old BadMagic new = new ≡ old
FaultLeaves words down passed refusals old BadVersion new = new ≡ old
FaultLeaves words down passed refusals old BadSize new = new ≡ old
FaultLeaves words down passed refusals old BadLog new = new ≡ old
FaultLeaves words down passed refusals old BadTable new = IsLeftRecovered words down passed refusals old new
FaultLeaves words down passed refusals old BadPackage new = IsLeftRecovered words down passed refusals old new
FaultLeaves words down passed refusals old NoMemory new = IsLeftRecovered words down passed refusals old new
FaultLeaves words down passed refusals old StoreDown new = IsStoppedOpening words down passed refusals old new

-- a store does not power up, for this fault, which its words have, and is left so
abbrev pub PowerUpFails : {S : Type 0} → (S → List ℕ) → (S → Bool) → (S → ℕ) → (S → Refusals) → S → PowerFault → S → Type 0
PowerUpFails words down passed refusals old fault new =
    PowerUpRefuses fault (words old) × FaultLeaves words down passed refusals old fault new

-- what comes of powering up over a store, with this budget
abbrev pub PowersUpOver : {S : Type 0} → (S → List ℕ) → (S → Bool) → (S → ℕ) → (S → Refusals) → S → ℕ → Result CardState (PowerFault × S) → Type 0
PowersUpOver words down passed refusals old budget (Ok card) = IsPoweredOver (words old) (down old) (passed old) (refusals old) budget card
PowersUpOver words down passed refusals old budget (Err e) = PowerUpFails words down passed refusals old e.0 e.1
