-- How the session of a script stands, and what a power up makes of it.
use Rattle.std.specs.Prelude.{ℕ, ◌≡◌, false, List, Option, None}
use Rattle.jc_words.specs.Store.{FuseStoreValue}
use Rattle.jc_commit.specs.Image.{IsGoodLog, limit_of, recovered_of}
use Rattle.jc_heap.specs.Heap.{HeapState, HeapView, heap_of}
use Rattle.jc_heap.specs.Image.{IsWellFormed}
use Rattle.jc_heap.specs.Moves.{IsTorn}
use Rattle.jc_card.specs.Card.{selected_aid}
use Rattle.jc_card.specs.PowerUp.Outcome.{IsPoweredOver, PowerUpFails}
use Rattle.jc_card.specs.declared.power_up.PowerFault.{PowerFault as Fault}
use Rattle.jc_card.specs.declared.power_up.PowerFault.TheVariants.{StoreDown}
use Rattle.jc_card.specs.State.Power.{PowerOver, Up, Off, budget_of}
use Rattle.jc_card.specs.Session.Serving.{StoreKind}
use Rattle.jc_card.specs.State.{with_fuse}

-- a session that keeps the store of a card that is off as it is
abbrev pub ScriptState : Type 0
ScriptState = PowerOver FuseStoreValue

-- the store of a heap: its words stand for the durable heap, and its counts and its fuse are the heap's
pub record IsStoreOf (heap : HeapView) (store : FuseStoreValue) : Type 0 where
  pub good : IsGoodLog store.words
  pub laid : IsWellFormed (recovered_of store.words)
  pub durable : heap_of (recovered_of store.words) ≡ heap.durable
  pub size : limit_of store.words ≡ heap.size
  pub down : store.down ≡ heap.down
  pub passed : store.passed ≡ heap.passed
  pub refusals : store.refusals ≡ heap.refusals

-- the session's store is so
abbrev pub IsSessionStore : ScriptState → FuseStoreValue → Type 0
IsSessionStore (Up card) store = IsStoreOf card.memory.heap store
IsSessionStore (Off budget held) store = store ≡ held

-- the power is back, in the store below too
abbrev pub with_power : FuseStoreValue → FuseStoreValue
with_power f = record f { down = false; down_below = false }

-- once the power is back, a power up over a store that was so fails by this fault, which the store's words have, and leaves it so
abbrev pub FailsOver : FuseStoreValue → Fault → FuseStoreValue → Type 0
FailsOver before fault after = PowerUpFails (λ f. f.words) (λ f. f.down) (λ f. f.passed) (λ f. f.refusals) (with_power before) fault after

-- a power up over a store that was so, with this budget, ends so: the card is up, as after a reset, and no write was refused; or one was,
-- and a part of the recovery was done, so that another leaves what this one would have left
abbrev pub PowersUp : ℕ → FuseStoreValue → ScriptState → Type 0
PowersUp budget before (Up card) = IsPoweredOver before.words false before.passed before.refusals budget card
PowersUp budget before (Off b after) = FailsOver before StoreDown after × (b ≡ budget)

-- it finds another fault, so that no write was refused, and none passed but those of a recovery
abbrev pub FailsUp : FuseStoreValue → Fault → FuseStoreValue → Type 0
FailsUp before fault after = (fault ≡ StoreDown → ⊥) × FailsOver before fault after

-- a reset: the power comes back to the session's store, and the card powers up, with the budget that it had
abbrev pub IsReset : ScriptState → ScriptState → Type 0
IsReset s t = (store : FuseStoreValue) × IsSessionStore s store × PowersUp (budget_of s) store t

-- a reset that finds a fault
abbrev pub FailsReset : Fault → ScriptState → ScriptState → Type 0
FailsReset fault s t = (before after : FuseStoreValue) × IsSessionStore s before × FailsUp before fault after × (t ≡ Off (budget_of s) after)

-- the store of a heap that such a loss of power leaves
abbrev pub IsStoreLeft : (ℕ → HeapState → Type 0) → HeapView → FuseStoreValue → Type 0
IsStoreLeft May heap store = (torn : HeapView) × IsTorn May heap torn × IsStoreOf torn store

-- the AID of the applet that is selected; none where none is, or the card is off
abbrev pub selected_in : ScriptState → Option (List ℕ)
selected_in (Up card) = selected_aid card
selected_in (Off budget store) = None

-- sessions that keep the store itself
abbrev pub fuse_kind : StoreKind FuseStoreValue
fuse_kind = record { IsLeft = IsStoreLeft; Resets = IsReset; armed = with_fuse }
