-- Laws of sessions.
use Rattle.std.specs.Prelude.{ℕ, ◌≡◌, true, false, List, Some, None}
use Rattle.jc_words.specs.Refusals.{Refusals, refused_once}
use Rattle.jc_transient.specs.State.{IsCleared}
use Rattle.jc_interp.specs.Attacks.{undisturbed}
use Rattle.jc_memory.specs.Commands.{has_extended_length}
use Rattle.jc_card.specs.Command.{Apdu, apdu_of}
use Rattle.jc_card.specs.Card.{CardState}
use Rattle.jc_card.specs.Dispatching.{is_select, manager_aid}
use Rattle.jc_card.specs.Session.Requests.{Request, Command, Reset, ArmFuse, PlanFault, Reply, Response, Ready, Down, Armed, Planned}
use Rattle.jc_card.specs.State.Power.{PowerState, Up, Off, StoreState, IsStoreOf, armed, durable_state, planned}
use Rattle.jc_card.specs.Session.Serving.{AnswersCommand, Serves}
use Rattle.jc_card.specs.Session.{IsSession, IsWholeSession, RefusesNone}

-- over a store that refuses no write a session is that of a card that keeps whole copies of its heap
abbrev pub AreWholeSessions : Type 0
AreWholeSessions = (budget : ℕ) (before after : StoreState) (requests : List Request) (replies : List Reply) (last : PowerState) →
    IsSession budget before requests replies last → IsStoreOf last after → RefusesNone before.refusals.count after.refusals.count
    → IsWholeSession budget before requests replies after

-- nothing is left of what died with the power: the present heap is the durable one, no transaction is open, the transient
-- contents are blank, nothing is selected, no load is open and no attack is planned; and the budget stays
pub record BeginsAnew (card next : CardState) : Type 0 where
  pub heap : next.memory.heap.now ≡ card.memory.heap.durable
  pub closed : next.memory.heap.begun ≡ false
  pub blank : IsCleared next.memory.ram
  pub unselected : next.memory.registers.selected ≡ None
  pub unloaded : next.load ≡ None
  pub budget : next.budget ≡ undisturbed card.budget.left

abbrev pub ResetsBeginAnew : Type 0
ResetsBeginAnew = (card next : CardState) → Serves (Up card) Reset Ready (Up next) → BeginsAnew card next

-- SELECT of the manager's AID, in the short form, leaves nothing selected, however the applet was left that was selected
abbrev pub ManagerUnselects : Type 0
ManagerUnselects = (card next : CardState) (bytes response : List ℕ) (c : Apdu) → has_extended_length bytes ≡ false → apdu_of bytes ≡ Some c → is_select c ≡ true
    → c.content ≡ manager_aid →
    AnswersCommand (Up card) bytes (Response response) (Up next) → next.memory.registers.selected ≡ None

-- what is known of refused writes before a request is served: where it arms the fuse, after that
abbrev pub refusals_before : Request → PowerState → Refusals
refusals_before (ArmFuse k) s = (durable_state (armed k s)).refusals
refusals_before (Command bytes) s = (durable_state s).refusals
refusals_before Reset s = (durable_state s).refusals
refusals_before (PlanFault fault) s = (durable_state s).refusals

-- with the reply down the card is off; with any other to a command or a reset it is up, and the store has refused no further write
abbrev pub IsToldByReply : Request → Reply → PowerState → PowerState → Type 0
IsToldByReply request Down s (Off budget k) = Unit {0}
IsToldByReply request Down s (Up card) = ⊥
IsToldByReply request (Response r) s (Up card) = (durable_state (Up card)).refusals ≡ refusals_before request s
IsToldByReply request (Response r) s (Off budget k) = ⊥
IsToldByReply request Ready s (Up card) = (durable_state (Up card)).refusals ≡ refusals_before request s
IsToldByReply request Ready s (Off budget k) = ⊥
IsToldByReply request (Armed k) s next = (request ≡ ArmFuse k) × (next ≡ armed k s)
IsToldByReply request (Planned fault) s next = (request ≡ PlanFault fault) × (next ≡ planned fault s)

-- and down is answered where the store has refused one more, or the card was off and is asked by a command
abbrev pub IsToldOfRefusal : Request → PowerState → PowerState → Type 0
IsToldOfRefusal (Command bytes) (Off budget k) next = next ≡ Off budget k
IsToldOfRefusal (Command bytes) (Up card) next = (durable_state next).refusals ≡ refused_once false (durable_state next).passed (durable_state (Up card)).refusals
IsToldOfRefusal Reset s next = (durable_state next).refusals ≡ refused_once false (durable_state next).passed (durable_state s).refusals
IsToldOfRefusal (ArmFuse k) s next = ⊥
IsToldOfRefusal (PlanFault fault) s next = ⊥

pub record TellsRefusals (s : PowerState) (request : Request) (reply : Reply) (next : PowerState) : Type 0 where
  pub told : IsToldByReply request reply s next
  pub down : reply ≡ Down → IsToldOfRefusal request s next

abbrev pub DownTellsRefusals : Type 0
DownTellsRefusals = (s : PowerState) (request : Request) (reply : Reply) (next : PowerState) → Serves s request reply next → TellsRefusals s request reply next
