-- A card with its power, and what is left of it without.
use Rattle.std.specs.Prelude.{ℕ, ◌≡◌, ◌==◌, ◌&&◌, nat_le, nat_lt, Bool, true, false, List, length, slice_index, Option}
use Rattle.std.specs.List.{list_all}
use Rattle.std.specs.Option.{option_map}
use Rattle.jc_words.specs.Layout.{top_address}
use Rattle.jc_words.specs.Count.{saturating_count}
use Rattle.jc_words.specs.Refusals.{Refusals, refused_once, with_fuse_at}
use Rattle.jc_commit.specs.Image.{IsGoodLog, limit_of, recovered_of}
use Rattle.jc_heap.specs.Heap.{HeapState, HeapView, heap_of}
use Rattle.jc_heap.specs.Image.{base, image, missing_words_of_image, package_addresses}
use Rattle.jc_card.specs.Card.{CardState}
use Rattle.jc_card.specs.PlannedFault.{attack_of}
use Rattle.jc_card.specs.declared.planned_fault.PlannedFault.{PlannedFault}

-- what is left of a card without power: the heap that a recovery gives, and whether its words are laid; of its store, whether it is
-- down, how many writes have passed, those that it has refused, and where the heap ends in it
pub record KeptState : Type 0 where
  pub durable : HeapState
  pub laid : Bool
  pub down : Bool
  pub passed : ℕ
  pub refusals : Refusals
  pub size : ℕ

-- a card is up, or it is off, with the budget that it has when it is up again and with what is kept of its store
pub data PowerOver (V : Type 0) : Type 0 where
  Up : CardState → PowerOver V
  Off : ℕ → V → PowerOver V

-- the same where what is left of it is kept
abbrev pub PowerState : Type 0
PowerState = PowerOver KeptState

-- what a loss of power leaves of a heap, whose words are laid
abbrev pub durable_rest : HeapView → KeptState
durable_rest v = record { durable = v.durable; laid = true; down = v.down; passed = v.passed; refusals = v.refusals; size = v.size }

-- what a loss of power leaves now
abbrev pub durable_state : PowerState → KeptState
durable_state (Up card) = durable_rest card.memory.heap
durable_state (Off budget k) = k

-- the budget that a card has, or has when it is up again
abbrev pub budget_of : {V : Type 0} → PowerOver V → ℕ
budget_of (Up card) = card.budget.left
budget_of (Off budget kept) = budget

-- this many writes have passed, and one more was refused
abbrev pub with_refusal : ℕ → KeptState → KeptState
with_refusal passed k = record k { down = true; passed = passed; refusals = refused_once false passed k.refusals }

-- the power is back, and this many writes have passed
abbrev pub with_power : ℕ → KeptState → KeptState
with_power passed k = record k { down = false; passed = passed }

-- the fuse of its store is armed, so that k further writes pass, and nothing else changes
abbrev pub armed_card : ℕ → CardState → CardState
armed_card k card = record card {
  memory = record card.memory {
    heap = record card.memory.heap { refusals = with_fuse_at (saturating_count card.memory.heap.passed k) card.memory.heap.refusals };
  };
}

-- the same of a card that is up or off
abbrev pub armed : ℕ → PowerState → PowerState
armed k (Up card) = Up (armed_card k card)
armed k (Off budget kept) = Off budget (record kept { refusals = with_fuse_at (saturating_count kept.passed k) kept.refusals })

-- this fault comes in each command from now on, or none, and nothing else changes
abbrev pub planned_card : Option PlannedFault → CardState → CardState
planned_card fault card = record card { budget = record card.budget { attack = option_map (attack_of card.budget.left) fault } }

-- the same of a card that is up; one that is off has no commands, and after its reset no fault
abbrev pub planned : {V : Type 0} → Option PlannedFault → PowerOver V → PowerOver V
planned fault (Up card) = Up (planned_card fault card)
planned fault (Off budget kept) = Off budget kept

-- the words of a store, whether it is down, how many writes have passed, and those that it has refused
pub record StoreState : Type 0 where
  pub words : List ℕ
  pub down : Bool
  pub passed : ℕ
  pub refusals : Refusals

-- whether words are laid: the top is not below the places that every heap has nor above the words, the records reach up to it, and no
-- package stands at or above it
unfoldable pub is_well_formed : List ℕ → Bool
is_well_formed words = nat_le (base (image words)) (slice_index words top_address) && (nat_le (slice_index words top_address) (length words)
    && (missing_words_of_image (image words) == 0 && list_all (λ a. nat_lt a (slice_index words top_address)) (package_addresses (image words))))

-- what is left of a card in its store
abbrev pub durable_state_in_store : StoreState → KeptState
durable_state_in_store store = record {
  durable = heap_of (recovered_of store.words);
  laid = is_well_formed (recovered_of store.words);
  down = store.down;
  passed = store.passed;
  refusals = store.refusals;
  size = limit_of store.words;
}

-- the store of a card that is so: a recovery of its words gives the durable heap
pub record IsStoreOf (s : PowerState) (store : StoreState) : Type 0 where
  pub good : IsGoodLog store.words
  pub kept : durable_state_in_store store ≡ durable_state s
