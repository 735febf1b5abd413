-- Sessions over a store.
pub mod Requests
pub mod Serving
pub mod Starting
use Rattle.std.specs.Prelude.{ℕ, ◌≡◌, ◌⊎◌, List, map, take, slice_get, Some, Result, Ok, Err, ◌<◌, [], ◌∷◌}
use Rattle.std.specs.Global.{Vec}
use Rattle.jc_card.specs.declared.power_up.PowerFault.{PowerFault as Fault}
use Rattle.jc_card.specs.declared.event.Event.{Event}
use Rattle.jc_card.specs.declared.event.Answer.{Answer}
use Rattle.jc_card.specs.declared.session.SessionFault.{SessionFault}
use Rattle.jc_card.specs.declared.session.SessionFault.TheVariants.{NoMemory, PowerFault}
use Rattle.jc_card.specs.Session.Requests.{Request, Reset, Reply, reply_of, request_of, Command, ArmFuse, PlanFault, Response, Ready, Down, Armed, Planned}
use Rattle.jc_card.specs.State.Power.{PowerState, StoreState, IsStoreOf, Up, armed_card, durable_rest, durable_state_in_store, planned_card}
use Rattle.jc_card.specs.Session.Starting.{Starts, FailsToStart, FailsToReset, IsPoweredUp}
use Rattle.jc_card.specs.Session.Serving.{SessionRun}
use Rattle.jc_memory.specs.Programs.{Completes}
use Rattle.jc_card.specs.Answers.{exchange}
use Rattle.jc_card.specs.Card.{CardState}
use Rattle.jc_card.specs.Dispatching.{with_response}

-- a session over a store, with this budget: a power up, and then these requests, which are answered so and lead there
abbrev pub IsSession : ℕ → StoreState → List Request → List Reply → PowerState → Type 0
IsSession budget before requests replies last = (first : PowerState) × Starts budget before first × SessionRun first requests replies last

-- the first n requests were served, the next is a reset, and it found this fault and left the store so
abbrev pub FailsAtReset : ℕ → Fault → StoreState → List Request → StoreState → Type 0
FailsAtReset budget fault before requests after = (n : ℕ) × (replies : List Reply) × (last : PowerState) × (slice_get requests n ≡ Some Reset)
    × IsSession budget before (take n requests) replies last × FailsToReset fault last after

-- how a session ends, and the store that it gives back: that of its last state. For want of memory nothing was done; a fault of
-- a power up comes at the beginning or at a reset
abbrev pub SessionEnds : ℕ → Result (List Reply) SessionFault → StoreState → List Request → StoreState → Type 0
SessionEnds budget (Ok replies) before requests after = (last : PowerState) × IsSession budget before requests replies last × IsStoreOf last after
SessionEnds budget (Err NoMemory) before requests after = after ≡ before
SessionEnds budget (Err (PowerFault fault)) before requests after = FailsToStart fault before after ⊎ FailsAtReset budget fault before requests after

-- what events ask
abbrev pub requests_of : List Event → List Request
requests_of events = map request_of events

-- what the answers say
abbrev pub replies_of : Result (Vec Answer) SessionFault → Result (List Reply) SessionFault
replies_of (Ok answers) = Ok (map reply_of answers.items)
replies_of (Err fault) = Err fault

-- ---- sessions without power loss: a card that keeps whole copies of its heap, the present and the durable one

-- such a card answers a request so, and is then so: a command by all of what it may do to the copies, a reset by making the
-- durable copy the present one; arming the fuse and planning a fault leave the copies as they are
abbrev pub ServesWhole : CardState → Request → Reply → CardState → Type 0
ServesWhole card (Command bytes) (Response r) next = Completes (exchange bytes card) card.memory (with_response next r) next.memory
ServesWhole card Reset Ready next = IsPoweredUp (durable_rest card.memory.heap) card.budget.left next
ServesWhole card (ArmFuse k) reply next = (reply ≡ Armed k) × (next ≡ armed_card k card)
ServesWhole card (PlanFault fault) reply next = (reply ≡ Planned fault) × (next ≡ planned_card fault card)
ServesWhole card (Command bytes) Ready next = ⊥
ServesWhole card (Command bytes) Down next = ⊥
ServesWhole card (Command bytes) (Armed k) next = ⊥
ServesWhole card (Command bytes) (Planned fault) next = ⊥
ServesWhole card Reset (Response r) next = ⊥
ServesWhole card Reset Down next = ⊥
ServesWhole card Reset (Armed k) next = ⊥
ServesWhole card Reset (Planned fault) next = ⊥

-- these requests, one after another
abbrev pub RunsWhole : CardState → List Request → List Reply → CardState → Type 0
RunsWhole card [] [] last = last ≡ card
RunsWhole card (request ∷ requests) (reply ∷ replies) last = (next : CardState) × ServesWhole card request reply next × RunsWhole next requests replies last
RunsWhole card [] (reply ∷ replies) last = ⊥
RunsWhole card (request ∷ requests) [] last = ⊥

-- no write was refused: the count of refusals, which stays at the last value of a u64, is as it was
abbrev pub RefusesNone : ℕ → ℕ → Type 0
RefusesNone before after = (before < 18446744073709551615) × (after ≡ before)

-- a session of such a card over a store, with this budget, from its power up on: it is answered so, and leaves such a store
abbrev pub IsWholeSession : ℕ → StoreState → List Request → List Reply → StoreState → Type 0
IsWholeSession budget before requests replies after = (first last : CardState) × IsPoweredUp (durable_state_in_store before) budget first
    × RunsWhole first requests replies last × IsStoreOf (Up last) after
