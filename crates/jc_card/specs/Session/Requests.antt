-- What is asked in a session, and what is answered.
use Rattle.std.specs.Prelude.{ℕ, List, Option}
use Rattle.jc_card.specs.declared.event.Answer.{Answer}
use Rattle.jc_card.specs.declared.event.Answer.TheVariants as answer
use Rattle.jc_card.specs.declared.event.Event.{Event}
use Rattle.jc_card.specs.declared.event.Event.TheVariants as event
use Rattle.jc_card.specs.declared.planned_fault.PlannedFault.{PlannedFault}

-- the command of these bytes, a reset, that the fuse of the store is armed, so that this many further writes pass, or that this fault comes in
-- each command from now on up to a reset, or none
pub data Request : Type 0 where
  Command : List ℕ → Request
  Reset : Request
  ArmFuse : ℕ → Request
  PlanFault : Option PlannedFault → Request

-- the response of a card, that it is up after a reset, that it is off, that the fuse lets this many writes pass, or that this fault is planned
pub data Reply : Type 0 where
  Response : List ℕ → Reply
  Ready : Reply
  Down : Reply
  Armed : ℕ → Reply
  Planned : Option PlannedFault → Reply

-- what an event asks, by its bytes alone
abbrev pub request_of : Event → Request
request_of (event.Command bytes) = Command bytes.items
request_of event.Reset = Reset

-- what an answer says
abbrev pub reply_of : Answer → Reply
reply_of (answer.Response response) = Response response
reply_of answer.Ready = Ready
reply_of answer.Down = Down
