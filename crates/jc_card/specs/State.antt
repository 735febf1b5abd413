-- What a session holds, and what becomes of it.
pub mod Power
use Rattle.std.specs.Prelude.{ℕ, ◌≡◌, Bool, true, false, List}
use Rattle.jc_words.specs.Count.{saturating_count}
use Rattle.jc_words.specs.Refusals.{Refusals, with_fuse_at}
use Rattle.jc_words.specs.Store.{FuseStoreValue, with_fuse_armed}
use Rattle.jc_commit.specs.Image.{IsGoodLog}
use Rattle.jc_heap.specs.Heap.{heap_at_rest}
use Rattle.jc_heap.specs.Heap.Store.{HoldsHeap}
use Rattle.jc_memory.specs.Programs.{Completes, IsTornIn}
use Rattle.jc_card.specs.Answers.{exchange}
use Rattle.jc_card.specs.Dispatching.{with_response}
use Rattle.jc_card.specs.State.Power.{PowerOver, PowerState, Up, Off, durable_state_in_store}
use Rattle.jc_card.specs.PowerUp.Outcome.{IsPoweredOver, PowerUpFails}
use Rattle.jc_card.specs.Session.Requests.{Reply, Ready, Down}
use Rattle.jc_card.specs.declared.power_up.PowerFault.TheVariants.{StoreDown}
use Rattle.jc_card.specs.declared.state.SessionState.{SessionState}
use Rattle.jc_card.specs.declared.state.SessionState.TheVariants.{Card, Store}

-- it is up where there is a card, and keeps the store of a card that is off
abbrev pub power_of : {S : Type 0} → SessionState S → PowerOver S
power_of (Card card) = Up card
power_of (Store store budget) = Off budget store

-- the store of a card that is held has refused no write
abbrev pub IsUp : {V : Type 0} → PowerOver V → Type 0
IsUp (Up card) = card.memory.heap.down ≡ false
IsUp (Off budget kept) = Unit {0}

-- what is answered after a power up
abbrev pub answer_of_power_up : {V : Type 0} → PowerOver V → Reply
answer_of_power_up (Up card) = Ready
answer_of_power_up (Off budget kept) = Down

-- a command was carried out in place, with this response; or its card was torn within it; or there was no card, and nothing was done
abbrev pub AnswersInPlace : {V : Type 0} → Bool → PowerOver V → List ℕ → List ℕ → PowerOver V → Type 0
AnswersInPlace true (Up card) bytes response (Up next) = Completes (exchange bytes card) card.memory (with_response next response) next.memory
AnswersInPlace true (Up card) bytes response (Off budget kept) = ⊥
AnswersInPlace true (Off budget kept) bytes response next = ⊥
AnswersInPlace false (Up card) bytes response (Up next) = IsTornIn (exchange bytes card) card.memory next.memory
AnswersInPlace false (Up card) bytes response (Off budget kept) = ⊥
AnswersInPlace false (Off budget kept) bytes response (Off after next) = (next ≡ kept) × (after ≡ budget)
AnswersInPlace false (Off budget kept) bytes response (Up next) = ⊥

-- the fuse is armed: k further writes pass. A card that is up is as it was, at rest
abbrev pub with_fuse : ℕ → PowerOver FuseStoreValue → PowerOver FuseStoreValue
with_fuse k (Up card) = Up (record card {
  memory = record card.memory {
    heap = heap_at_rest card.memory.heap.durable card.memory.heap.passed
        (with_fuse_at (saturating_count card.memory.heap.passed k) card.memory.heap.refusals) card.memory.heap.size;
  };
})
with_fuse k (Off budget store) = Off budget (with_fuse_armed k store)

-- ---- by what is read of a store

-- a power up over a store, with this budget, ends so: the card is up, as after a reset, and no write was refused; or one was
abbrev pub PowersUpTo : {S : Type 0} → (S → List ℕ) → (S → Bool) → (S → ℕ) → (S → Refusals) → S → ℕ → PowerOver S → Type 0
PowersUpTo words down passed refusals store budget (Up card) = IsPoweredOver (words store) (down store) (passed store) (refusals store) budget card
PowersUpTo words down passed refusals store budget (Off b after) = PowerUpFails words down passed refusals store StoreDown after × (b ≡ budget)

-- this is the store of what is held
abbrev pub IsHeldIn : {S : Type 0} → (S → List ℕ) → (S → Bool) → (S → ℕ) → (S → Refusals) → PowerOver S → S → Type 0
IsHeldIn words down passed refusals (Up card) store = HoldsHeap (words store) (down store) (passed store) (refusals store) card.memory.heap
IsHeldIn words down passed refusals (Off budget kept) store = store ≡ kept

-- a card has refused no write, and the store of one that is off has a good log
abbrev pub IsGood : {S : Type 0} → (S → List ℕ) → PowerOver S → Type 0
IsGood words (Up card) = card.memory.heap.down ≡ false
IsGood words (Off budget store) = IsGoodLog (words store)

-- the same where what is left of a card is kept in place of its store
abbrev pub kept_power : {S : Type 0} → (S → List ℕ) → (S → Bool) → (S → ℕ) → (S → Refusals) → PowerOver S → PowerState
kept_power words down passed refusals (Up card) = Up card
kept_power words down passed refusals (Off budget store) = Off budget
    (durable_state_in_store (record { words = words store; down = down store; passed = passed store; refusals = refusals store }))
