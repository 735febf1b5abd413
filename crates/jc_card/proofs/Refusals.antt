-- Counts of refused writes over sessions.
use Rattle.std.proofs.Common.{◌≡◌, ℕ, ◌+◌, ◌<◌, ◌≤◌, List, [], ◌∷◌, Option, refl, ap, ◌∙◌, false, arith}
use Rattle.jc_words.specs.Count.{saturating_count}
use Rattle.jc_words.specs.Refusals.{Refusals, refused_once}
use Rattle.jc_words.proofs.Refusals.{count-refused_once}
use Rattle.jc_heap.specs.Heap.{HeapView}
use Rattle.jc_memory.specs.Programs.{Completes}
use Rattle.jc_memory.proofs.ProgramLemmas.{refusals_did}
use Rattle.jc_card.specs.Answers.{exchange}
use Rattle.jc_card.specs.Card.{CardState}
use Rattle.jc_card.specs.Dispatching.{with_response}
use Rattle.jc_card.specs.Session.Requests.{Request, Command, Reset, ArmFuse, PlanFault, Reply, Response, Ready, Down}
use Rattle.jc_card.specs.State.Power.{PowerState, Up, Off, KeptState, armed, budget_of, durable_state, planned}
use Rattle.jc_card.specs.declared.planned_fault.PlannedFault.{PlannedFault}
use Rattle.jc_card.specs.Session.Starting.{IsPoweredUp}
use Rattle.jc_card.specs.Session.Serving.{AnswersCommand, AnswersReset, Serves, SessionRun}

-- a count of refusals of one more
pub one_more : (n : ℕ) → n < 18446744073709551615 → saturating_count n 1 ≡ n + 1
one_more n h = omega (arith, h)

grows : (n : ℕ) → n ≤ saturating_count n 1
grows n = omega arith

is_same : (m n : ℕ) → n ≡ m → m ≤ n
is_same m n e = omega (arith, e)

-- a write that was refused raises the count
pub count_raised : (p : ℕ) (old new : Refusals) → new ≡ refused_once false p old → new.count ≡ saturating_count old.count 1
count_raised p old new e = ap (λ (r : Refusals). r.count) e ∙ count-refused_once false p old

is_raised : (p : ℕ) (old new : Refusals) → new ≡ refused_once false p old → old.count ≤ new.count
is_raised p old new e = omega (arith, count_raised p old new e, grows old.count)

-- a card that was powered up has the refusals of what was left
pub powered_refusals : (k : KeptState) (budget : ℕ) (card : CardState) → IsPoweredUp k budget card → card.memory.heap.refusals ≡ k.refusals
powered_refusals k budget card p = ap (λ (v : HeapView). v.refusals) p.heap

-- a command that was carried out refuses nothing
pub done_refusals : (bytes r : List ℕ) (card next : CardState) → Completes (exchange bytes card) card.memory (with_response next r) next.memory
    → next.memory.heap.refusals ≡ card.memory.heap.refusals
done_refusals bytes r card next did = refusals_did (exchange bytes card) card.memory next.memory (with_response next r) did

-- no command lowers the count
command_grows : (s : PowerState) (bytes : List ℕ) (reply : Reply) (next : PowerState) → AnswersCommand s bytes reply next
    → (durable_state s).refusals.count ≤ (durable_state next).refusals.count
command_grows (Up card) bytes (Response r) (Up next) h = is_same _ _ (ap (λ (x : Refusals). x.count) (done_refusals bytes r card next h))
command_grows (Up card) bytes Down (Off b k) h = is_raised k.passed _ _ h.1.2
command_grows (Off b k) bytes Down (Off d l) h = is_same _ _ (ap (λ (x : KeptState). x.refusals.count) h.0)
command_grows s bytes reply next h = absurd h

-- nor does a reset
reset_grows : (s : PowerState) (reply : Reply) (next : PowerState) → AnswersReset s reply next
    → (durable_state s).refusals.count ≤ (durable_state next).refusals.count
reset_grows s Ready (Up card) h = is_same _ _ (ap (λ (x : Refusals). x.count) (powered_refusals (durable_state s) (budget_of s) card h))
reset_grows s Down (Off b k) h = is_raised k.passed _ _ (ap (λ (x : KeptState). x.refusals) h.0)
reset_grows s reply next h = absurd h

-- nor does arming the fuse
armed_count : (k : ℕ) (s : PowerState) → (durable_state (armed k s)).refusals.count ≡ (durable_state s).refusals.count
armed_count k (Up card) = refl
armed_count k (Off b kept) = refl

-- nor does planning a fault, which leaves the store as it is
pub planned_durable : (fault : Option PlannedFault) (s : PowerState) → durable_state (planned fault s) ≡ durable_state s
planned_durable fault (Up card) = refl
planned_durable fault (Off b kept) = refl

pub served_grows : (s : PowerState) (request : Request) (reply : Reply) (next : PowerState) → Serves s request reply next
    → (durable_state s).refusals.count ≤ (durable_state next).refusals.count
served_grows s (Command bytes) reply next h = command_grows s bytes reply next h
served_grows s Reset reply next h = reset_grows s reply next h
served_grows s (ArmFuse k) reply next h = is_same _ _ (ap (λ p. (durable_state p).refusals.count) h.1 ∙ armed_count k s)
served_grows s (PlanFault fault) reply next h =
    is_same _ _ (ap (λ p. (durable_state p).refusals.count) h.1 ∙ ap (λ (k : KeptState). k.refusals.count) (planned_durable fault s))

pub run_grows : (s : PowerState) (requests : List Request) (replies : List Reply) (last : PowerState) → SessionRun s requests replies last
    → (durable_state s).refusals.count ≤ (durable_state last).refusals.count
run_grows s [] [] last h = is_same _ _ (ap (λ p. (durable_state p).refusals.count) h)
run_grows s (request ∷ requests) (reply ∷ replies) last h =
    let first = served_grows s request reply h.0 h.1 in
    let rest = run_grows h.0 requests replies last h.2 in
    omega (arith, first, rest)
run_grows s [] (reply ∷ replies) last h = absurd h
run_grows s (request ∷ requests) [] last h = absurd h
