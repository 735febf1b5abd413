-- What is answered to requests, and what becomes of the card.
use Rattle.std.specs.Prelude.{ℕ, ◌≡◌, false, true, List, [], ◌∷◌}
use Rattle.jc_words.specs.Refusals.{refused_once}
use Rattle.jc_heap.specs.Heap.{HeapState, HeapView}
use Rattle.jc_memory.specs.Programs.{Completes, TearLeaves}
use Rattle.jc_card.specs.Answers.{exchange}
use Rattle.jc_card.specs.Dispatching.{with_response}
use Rattle.jc_card.specs.Session.Requests.{Request, Command, Reset, ArmFuse, PlanFault, Reply, Response, Ready, Down, Armed, Planned}
use Rattle.jc_card.specs.State.Power.{KeptState, PowerOver, PowerState, Up, Off, armed, budget_of, durable_state, planned, with_refusal}
use Rattle.jc_card.specs.Session.Starting.{IsPoweredUp}

-- how a session keeps the store of a card that is off, by such a value: what a loss of power keeps of a heap, where the durable heap is
-- one of these for the writes that had passed; what a reset leads to, up or off; and what arming the fuse does
pub record StoreKind (V : Type 0) : Type 1 where
  pub IsLeft : (ℕ → HeapState → Type 0) → HeapView → V → Type 0
  pub Resets : PowerOver V → PowerOver V → Type 0
  pub armed : ℕ → PowerOver V → PowerOver V

-- a command may be answered so, and lead there
abbrev pub AnswersCommandOver : {V : Type 0} → StoreKind V → PowerOver V → List ℕ → Reply → PowerOver V → Type 0
-- no write was refused: all of it was done
AnswersCommandOver kind (Up card) bytes (Response r) (Up next) = Completes (exchange bytes card) card.memory (with_response next r) next.memory
-- a write was refused within it: the heap is the one that a loss leaves when this many writes have passed
AnswersCommandOver kind (Up card) bytes Down (Off b kept) =
    (b ≡ card.budget.left) × kind.IsLeft (TearLeaves (exchange bytes card) card.memory) card.memory.heap kept
-- without power nothing is done
AnswersCommandOver kind (Off b kept) bytes Down (Off d next) = (next ≡ kept) × (d ≡ b)
AnswersCommandOver kind (Up card) bytes (Response r) (Off b kept) = ⊥
AnswersCommandOver kind (Up card) bytes Ready next = ⊥
AnswersCommandOver kind (Up card) bytes Down (Up next) = ⊥
AnswersCommandOver kind (Up card) bytes (Armed k) next = ⊥
AnswersCommandOver kind (Up card) bytes (Planned fault) next = ⊥
AnswersCommandOver kind (Off b kept) bytes (Response r) next = ⊥
AnswersCommandOver kind (Off b kept) bytes Ready next = ⊥
AnswersCommandOver kind (Off b kept) bytes Down (Up next) = ⊥
AnswersCommandOver kind (Off b kept) bytes (Armed n) next = ⊥
AnswersCommandOver kind (Off b kept) bytes (Planned fault) next = ⊥

-- a reset may be answered so, and lead there, whether the card was up or off
abbrev pub AnswersResetOver : {V : Type 0} → StoreKind V → PowerOver V → Reply → PowerOver V → Type 0
AnswersResetOver kind s Ready (Up card) = kind.Resets s (Up card)
AnswersResetOver kind s Down (Off b kept) = kind.Resets s (Off b kept)
AnswersResetOver kind s Ready (Off b kept) = ⊥
AnswersResetOver kind s Down (Up card) = ⊥
AnswersResetOver kind s (Response r) next = ⊥
AnswersResetOver kind s (Armed n) next = ⊥
AnswersResetOver kind s (Planned fault) next = ⊥

-- a request may be answered so, and lead there
abbrev pub ServesOver : {V : Type 0} → StoreKind V → PowerOver V → Request → Reply → PowerOver V → Type 0
ServesOver kind s (Command bytes) reply next = AnswersCommandOver kind s bytes reply next
ServesOver kind s Reset reply next = AnswersResetOver kind s reply next
ServesOver kind s (ArmFuse k) reply next = (reply ≡ Armed k) × (next ≡ kind.armed k s)
ServesOver kind s (PlanFault fault) reply next = (reply ≡ Planned fault) × (next ≡ planned fault s)

-- these requests may be answered so, one after another, from one state to the other
abbrev pub RunOver : {V : Type 0} → StoreKind V → PowerOver V → List Request → List Reply → PowerOver V → Type 0
RunOver kind s [] [] last = last ≡ s
RunOver {V} kind s (request ∷ requests) (reply ∷ replies) last =
    (next : PowerOver V) × ServesOver kind s request reply next × RunOver kind next requests replies last
RunOver kind s [] (reply ∷ replies) last = ⊥
RunOver kind s (request ∷ requests) [] last = ⊥

-- ---- where what is left of a card is kept

-- a loss of power leaves the words of the heap laid, in a store of the same size that has refused one more write
abbrev pub IsKeptOf : (ℕ → HeapState → Type 0) → HeapView → KeptState → Type 0
IsKeptOf May heap k =
    May k.passed k.durable × (k.down ≡ true) × (k.refusals ≡ refused_once false k.passed heap.refusals) × (k.size ≡ heap.size) × (k.laid ≡ true)

-- a reset led there: no write was refused; or one was, and the same is left
abbrev pub IsReset : PowerState → PowerState → Type 0
IsReset s (Up card) = IsPoweredUp (durable_state s) (budget_of s) card
IsReset s (Off b k) = (k ≡ with_refusal k.passed (durable_state s)) × (b ≡ budget_of s)

-- the kind of the sessions that keep so what is left of a card
abbrev pub kept_kind : StoreKind KeptState
kept_kind = record { IsLeft = IsKeptOf; Resets = IsReset; armed = armed }

-- a command may be answered so in such a session, and lead there
abbrev pub AnswersCommand : PowerState → List ℕ → Reply → PowerState → Type 0
AnswersCommand s bytes reply next = AnswersCommandOver kept_kind s bytes reply next

-- so a reset
abbrev pub AnswersReset : PowerState → Reply → PowerState → Type 0
AnswersReset s reply next = AnswersResetOver kept_kind s reply next

-- so any request
abbrev pub Serves : PowerState → Request → Reply → PowerState → Type 0
Serves s request reply next = ServesOver kept_kind s request reply next

-- so requests, one after another
abbrev pub SessionRun : PowerState → List Request → List Reply → PowerState → Type 0
SessionRun s requests replies last = RunOver kept_kind s requests replies last
