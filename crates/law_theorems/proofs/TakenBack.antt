-- Sessions take back what is not committed.
use Rattle.std.proofs.Common.{◌≡◌, ℕ, Bool, true, false, List, [], ◌∷◌, ◌++◌, inl, inr, refl, sym, subst, ◌∙◌, ap}
use Rattle.std.proofs.lemmas.Bool.{true≢false}
use Rattle.jc_heap.specs.Heap.{HeapState, HeapView}
use Rattle.jc_heap.specs.Moves.{Begin, Abort}
use Rattle.jc_memory.specs.State.{MemoryState, Effect, HeapMove, SetRegisters, apply_effect}
use Rattle.jc_memory.specs.Programs.{Finish, Completes}
use Rattle.jc_memory.specs.Reading.{AllEffectsDue, HasTracePrefix}
use Rattle.jc_platform.specs.Tokens.{Tokens}
use Rattle.jc_dispatch.specs.Phase.{close, abort_if_open, then_with, registers_released}
use Rattle.jc_card.specs.Answers.{exchange}
use Rattle.jc_card.specs.Card.{CardState}
use Rattle.jc_card.specs.Dispatching.{with_response}
use Rattle.jc_card.specs.Session.Requests.{Request, Command, Reset, ArmFuse, PlanFault, Reply, Response, Ready, Down, Armed, Planned}
use Rattle.jc_card.specs.State.Power.{PowerState, Up, Off, KeptState, armed, durable_state}
use Rattle.jc_card.specs.Session.Serving.{AnswersReset, Serves, SessionRun}
use Rattle.jc_card.specs.Session.Starting.{IsPoweredUp}
use Rattle.law_code.specs.Orderly.{KeepsTransactionOrder}
use Rattle.law_code.specs.TransactionLaws.{IsDurableOutside, TearLeavesAfter}
use Rattle.law_code.proofs.AtomicEffects.{begun_inside, behind, lost_at}
use Rattle.law_soundness.specs.LoadedPackages.{AreBytes}
use Rattle.law_theorems.specs.Cards.{IsOfBytes, IsOwnCard}
use Rattle.law_theorems.proofs.Rest.{leave_at_rest, rests_so}
use Rattle.law_theorems.specs.Outcomes.{AreDown, ComesTo, IsDown, memory_at}
use Rattle.law_theorems.specs.Losses.{IsLeft, IsLeftBy, IsWhatWasFound}
use Rattle.law_theorems.specs.SessionTheorems.TakenBack.{IsTakenBack}
use Rattle.law_theorems.specs.Tries.{IsAsFound}
use Rattle.law_theorems.proofs.Founds.{is_found}
use Rattle.law_theorems.proofs.Orders.{commands_orderly}
use Rattle.law_theorems.proofs.Prefixes.{behind_both, due_after, front}
use Rattle.law_theorems.proofs.CardsAtRest.{comes_own, comes_rests}

-- ---- while all is answered down

down_off : (b : ℕ) (k : KeptState) (request : Request) (reply : Reply) (next : PowerState) → IsDown reply → Serves (Off b k) request reply next
    → (l : KeptState) × (next ≡ Off b l) × (l.durable ≡ k.durable)
down_off b k (Command bytes) Down (Off d l) down h = (l, ap (λ n. Off n l) h.1, ap (λ (x : KeptState). x.durable) h.0)
down_off b k Reset Down (Off d l) down h = (l, ap (λ n. Off n l) h.1, ap (λ (x : KeptState). x.durable) h.0)
down_off b k (ArmFuse n) reply next down h = (durable_state (armed n (Off b k)), h.1, refl)
down_off b k (PlanFault fault) reply next down h = (k, h.1, refl)
down_off b k (Command bytes) (Response r) next down h = absurd down
down_off b k (Command bytes) Ready next down h = absurd down
down_off b k (Command bytes) (Armed n) next down h = absurd h
down_off b k (Command bytes) (Planned fault) next down h = absurd h
down_off b k (Command bytes) Down (Up card) down h = absurd h
down_off b k Reset (Response r) next down h = absurd down
down_off b k Reset Ready next down h = absurd down
down_off b k Reset (Armed n) next down h = absurd h
down_off b k Reset (Planned fault) next down h = absurd h
down_off b k Reset Down (Up card) down h = absurd h

no_more : (replies : List Reply) (s last : PowerState) → SessionRun s [] (replies ++ (Ready ∷ [])) last → ⊥
no_more [] s last h = h
no_more (reply ∷ replies) s last h = h

no_answer : (requests : List Request) (s last : PowerState) → SessionRun s (requests ++ (Reset ∷ [])) [] last → ⊥
no_answer [] s last h = h
no_answer (request ∷ requests) s last h = h

pub resets : (requests : List Request) (replies : List Reply) (b : ℕ) (k : KeptState) (next : CardState) → AreDown replies
    → SessionRun (Off b k) (requests ++ (Reset ∷ [])) (replies ++ (Ready ∷ [])) (Up next)
    → (l : KeptState) × (l.durable ≡ k.durable) × IsPoweredUp l b next
resets [] [] b k next down h = (k, refl, subst (λ s. AnswersReset (Off b k) Ready s) (sym h.2) h.1)
resets [] (reply ∷ replies) b k next down h = absurd (no_more replies h.0 (Up next) h.2)
resets (request ∷ requests) [] b k next down h = absurd (no_answer requests h.0 (Up next) h.2)
resets (request ∷ requests) (reply ∷ replies) b k next down h =
    let off = down_off b k request reply h.0 down.0 h.1 in
    let rest = resets requests replies b off.0 next down.1
    (subst (λ s. SessionRun s (requests ++ (Reset ∷ [])) (replies ++ (Ready ∷ [])) (Up next)) off.1 h.2) in
    (rest.0, rest.1 ∙ off.2, rest.2)

-- ---- within a command

module _ (t : Tokens) (card : CardState) (comes : ComesTo t (Up card)) where
  own : IsOwnCard t card
  own = comes_own t (Up card) comes

  shut : card.memory.heap.begun ≡ false
  shut = own.ready.closed

  settled : IsDurableOutside card.memory
  settled = λ off. sym (own.ready.sound.settled off)

  orderly : (bytes : List ℕ) (es : List Effect) → AreBytes bytes → HasTracePrefix (exchange bytes card) card.memory es
      → AllEffectsDue KeepsTransactionOrder es card.memory
  orderly bytes es are begins = commands_orderly t card own bytes es are begins

  -- what stands durable after effects of a command
  pub left_of : (bytes : List ℕ) (es : List Effect) (left : HeapState) → AreBytes bytes → HasTracePrefix (exchange bytes card) card.memory es
      → left ≡ (memory_at card es).heap.durable → IsLeft card es left
  left_of bytes es left are begins is = by (behind es card.memory (orderly bytes es are begins) settled)
    where
      by : TearLeavesAfter es card.memory (memory_at card es).heap.durable → IsLeft card es left
      by (inl now) = inl (now.0, is ∙ now.1)
      by (inr (stands, inl saved)) = absurd (true≢false (sym stands ∙ (begun_inside es card.memory saved.0 ∙ shut)))
      by (inr (stands, inr f)) = inr (
        stands,
        record {
          earlier = f.0;
          during = f.1;
          are = f.2;
          inside = f.3;
          found = subst (λ h. IsAsFound card.packages f.1 (apply_effect (HeapMove Begin) (memory_at card f.0)) (memory_at card f.0).heap.now h)
              (sym (is ∙ ap (λ l. (memory_at card l).heap.durable) f.2)) (is_found t card own bytes f.0 f.1 (record {
                comes = comes;
                are = are;
                begins = subst (HasTracePrefix (exchange bytes card) card.memory) f.2 begins;
              }) f.3);
        },
      )

  open_left : (es : List Effect) (left : HeapState) → (memory_at card es).heap.begun ≡ true → IsLeft card es left → IsWhatWasFound card es left
  open_left es left stands (inl now) = absurd (true≢false (sym stands ∙ now.0))
  open_left es left stands (inr was) = was.1

first_left : (t : Tokens) (card : CardState) (request : Request) (mid : PowerState) → ComesTo t (Up card) → IsOfBytes request → Serves (Up card) request Down mid
    → (k : KeptState) × (mid ≡ Off card.budget.left k) × IsLeftBy card request k.durable
first_left t card (Command bytes) (Off b k) comes are h =
    let p = lost_at (exchange bytes card) card.memory k.passed k.durable h.1.0 in
    (k, ap (λ n. Off n k) h.0, (p.0, p.1, left_of t card comes bytes p.0 k.durable are p.1 p.2))
first_left t card Reset (Off b k) comes are h = (k, ap (λ n. Off n k) h.1, ap (λ (x : KeptState). x.durable) h.0 ∙ settled t card comes (shut t card comes))
first_left t card (Command bytes) (Up next) comes are h = absurd h
first_left t card Reset (Up next) comes are h = absurd h
first_left t card (ArmFuse n) mid comes are h = cc h.0
first_left t card (PlanFault fault) mid comes are h = cc h.0

closed_by : (b : Bool) (m new : MemoryState) → b ≡ true
    → Completes (abort_if_open b (λ v. then_with (SetRegisters (registers_released v.registers)) v (λ w. Finish (tt {0}))) m) m tt new
    → (new.heap.now ≡ m.heap.durable) × (new.heap.begun ≡ false)
closed_by true m new e did = (ap (λ (v : MemoryState). v.heap.now) did.1, ap (λ (v : MemoryState). v.heap.begun) did.1)
closed_by false m new e did = absurd (true≢false (sym e))

closed_so : (m new : MemoryState) → m.heap.begun ≡ true → Completes (close m) m tt new → (new.heap.now ≡ m.heap.durable) × (new.heap.begun ≡ false)
unfolding close
closed_so m new stands did = closed_by m.heap.begun m new stands did

pub taken_back : IsTakenBack
taken_back = record {
  lost = λ t card next request requests replies comes are down run.
      let first = first_left t card request run.0 comes are run.1 in
      let rest = resets requests replies card.budget.left first.0 next down
      (subst (λ s. SessionRun s (requests ++ (Reset ∷ [])) (replies ++ (Ready ∷ [])) (Up next)) first.1 run.2) in
      let now : next.memory.heap.now ≡ (first.0).durable = ap (λ (v : HeapView). v.now) rest.2.heap ∙ rest.1 in
      (subst (IsLeftBy card request) (sym now) first.2, rests_so rest.0 card.budget.left next rest.2);
  aborted = λ t card bytes es within.
      let begins = front (exchange bytes card) card.memory es (HeapMove Abort ∷ []) within.begins in
      let due = due_after KeepsTransactionOrder es (HeapMove Abort ∷ []) card.memory
      (orderly t card within.comes bytes (es ++ (HeapMove Abort ∷ [])) within.are within.begins) in
      let same : (memory_at card (es ++ (HeapMove Abort ∷ []))).heap.now ≡ (memory_at card es).heap.durable =
      ap (λ (m : MemoryState). m.heap.now) (behind_both es (HeapMove Abort ∷ []) card.memory) in
      open_left t card within.comes es _ due.0 (left_of t card within.comes bytes es _ within.are begins same);
  returned = λ t card bytes es new within stands did.
      let c = closed_so (memory_at card es) new stands did in
      (open_left t card within.comes es new.heap.now stands (left_of t card within.comes bytes es new.heap.now within.are within.begins c.0), c.1);
  ended = λ t card next bytes response comes are did.
      leave_at_rest bytes card (with_response next response) next.memory (comes_rests t (Up card) comes) did;
}
