-- What a session holds, by what is read of its store, as one that keeps what is left of a card.
use Rattle.std.proofs.Common.{◌≡◌, ◌∙◌, ℕ, List, Bool, true, false, refl, sym, ap, subst}
use Rattle.std.proofs.lemmas.Bool.{false≢true, true≢false}
use Rattle.jc_words.specs.Refusals.{Refusals, refused_once}
use Rattle.jc_commit.specs.Image.{IsGoodLog, recovered_of}
use Rattle.jc_heap.specs.Heap.{HeapState}
use Rattle.jc_memory.specs.Programs.{TearLeaves}
use Rattle.jc_card.specs.Answers.{exchange}
use Rattle.jc_card.specs.PowerUp.Outcome.{PowerUpFails}
use Rattle.jc_card.specs.State.Power.{IsStoreOf, KeptState, Off, PowerOver, PowerState, StoreState, Up, budget_of, durable_state_in_store, with_refusal}
use Rattle.jc_card.specs.Session.Requests.{Down, Response}
use Rattle.jc_card.specs.Session.Serving.{AnswersCommand, AnswersReset}
use Rattle.jc_card.specs.State.{AnswersInPlace, IsGood, IsHeldIn, IsUp, PowersUpTo, answer_of_power_up, kept_power}
use Rattle.jc_card.specs.Session.Starting.{FailsToStart, IsPoweredUp, Starts}
use Rattle.jc_card.specs.declared.power_up.PowerFault.{PowerFault as Fault}
use Rattle.jc_card.specs.declared.power_up.PowerFault.TheVariants.{StoreDown}
use Rattle.jc_card.proofs.Laid.{if_laid}
use Rattle.jc_card.proofs.Starts.{card_starts, fault_starts, store_starts}

-- a reset by a power up over the store of what was held
pub reset_answered : (s t : PowerState) (store : StoreState) (budget : ℕ) → budget ≡ budget_of s → IsStoreOf s store → Starts budget store t
    → AnswersReset s (answer_of_power_up t) t
reset_answered s (Up card) store budget same held starts =
    subst (λ (k : KeptState). IsPoweredUp k (budget_of s) card) held.kept
    (subst (λ (n : ℕ). IsPoweredUp (durable_state_in_store store) n card) same starts.1)
reset_answered s (Off b k) store budget same held starts = (starts.1 ∙ ap (with_refusal k.passed) held.kept, starts.2 ∙ same)

module _ {S : Type 0} (words : S → List ℕ) (down : S → Bool) (passed : S → ℕ) (refusals : S → Refusals) where
  abbrev state : S → StoreState
  state store = record { words = words store; down = down store; passed = passed store; refusals = refusals store }

  abbrev kept : PowerOver S → PowerState
  kept s = kept_power words down passed refusals s

  -- what is answered after a power up, and the budget, are the same
  pub same_answer : (s : PowerOver S) → answer_of_power_up s ≡ answer_of_power_up (kept s)
  same_answer (Up card) = refl
  same_answer (Off budget store) = refl

  pub same_budget : (s : PowerOver S) → budget_of s ≡ budget_of (kept s)
  same_budget (Up card) = refl
  same_budget (Off budget store) = refl

  -- a power up over a store whose power is back
  pub held_starts : (budget : ℕ) (before mid : S) (s : PowerOver S) → words mid ≡ words before → refusals mid ≡ refusals before → down mid ≡ false → IsUp s
      → PowersUpTo words down passed refusals mid budget s → IsGood words s × Starts budget (state before) (kept s)
  held_starts budget before mid (Up card) same is up held powers = (
    held,
    card_starts budget (state before) (words mid) (passed mid) (refusals mid) card card same is refl powers.made powers.heap powers.reset powers.budget,
  )
  held_starts budget before mid (Off b after) same is up held powers = (
    powers.0.1.still.good,
    subst (λ (n : ℕ). Starts budget (state before) (Off n (durable_state_in_store (state after)))) (sym powers.1)
        (store_starts budget (state before) (state after) (words mid) (refusals mid) (durable_state_in_store (state after)) same is refl powers.0.0
        powers.0.1.still powers.0.1.is_down (powers.0.1.was_up up)),
  )

  -- or a fault was found, and its store is what a session holds
  pub fault_held : (budget : ℕ) (before mid after store : S) (s : PowerOver S) (fault : Fault) → words mid ≡ words before → refusals mid ≡ refusals before
      → down mid ≡ false → (fault ≡ StoreDown → ⊥) → PowerUpFails words down passed refusals mid fault after → s ≡ Off budget after
      → IsHeldIn words down passed refusals s store → FailsToStart fault (state before) (state store)
  fault_held budget before mid after store s fault same is up other fails holds held =
      let left : store ≡ after = subst (λ (t : PowerOver S). IsHeldIn words down passed refusals t store) holds held in
      subst (λ (x : S). FailsToStart fault (state before) (state x)) (sym left)
      (fault_starts words down passed refusals mid after (state before) fault same is up other fails)

  -- its store
  pub store_held : (s : PowerOver S) (store : S) → IsGood words s → IsHeldIn words down passed refusals s store → IsStoreOf (kept s) (state store)
  store_held (Up card) store good held = record {
    good = held.good;
    kept = λ i. record {
      durable = held.durable i;
      laid = if_laid (recovered_of (words store)) held.laid i;
      down = held.down i;
      passed = held.passed i;
      refusals = held.refusals i;
      size = held.size i;
    };
  }
  store_held (Off budget left) store good held = record {
    good = subst (λ (x : S). IsGoodLog (words x)) (sym held) good;
    kept = ap (λ (x : S). durable_state_in_store (state x)) held;
  }

  -- a command that was carried out
  pub command_answered : (b : Bool) (s t : PowerOver S) (bytes response : List ℕ) → b ≡ true → AnswersInPlace b s bytes response t → IsUp t
      → IsGood words t × AnswersCommand (kept s) bytes (Response response) (kept t)
  command_answered true (Up card) (Up next) bytes response is h up = (up, h)
  command_answered true (Up card) (Off budget left) bytes response is h up = absurd h
  command_answered true (Off budget left) t bytes response is h up = absurd h
  command_answered false s t bytes response is h up = absurd (false≢true is)

  -- and one that was not, whose store is all that is left
  pub command_refused : (b : Bool) (s t : PowerOver S) (store : S) (bytes response : List ℕ) → b ≡ false → IsGood words s → AnswersInPlace b s bytes response t
      → IsHeldIn words down passed refusals t store
      → IsGoodLog (words store) × AnswersCommand (kept s) bytes Down (kept (Off (budget_of s) store))
  command_refused true s t store bytes response is good h held = absurd (true≢false is)
  command_refused false (Up card) (Up next) store bytes response is up h held =
      let May : ℕ → HeapState → Type 0 = TearLeaves (exchange bytes card) card.memory in (
        held.good,
        (
          refl,
          (
            subst (λ (p : ℕ). May p (durable_state_in_store (state store)).durable) (sym held.passed)
                (subst (λ (d : HeapState). May next.memory.heap.passed d) (sym held.durable) h.left),
            held.down ∙ h.down,
            held.refusals ∙ h.refusals ∙ (λ i. refused_once (up i) (sym held.passed i) card.memory.heap.refusals),
            held.size ∙ h.size,
            if_laid (recovered_of (words store)) held.laid,
          ),
        ),
      )
  command_refused false (Up card) (Off budget left) store bytes response is good h held = absurd h
  command_refused false (Off budget left) (Off after next) store bytes response is good h held =
      let same = held ∙ h.0 in (
        subst (λ (x : S). IsGoodLog (words x)) (sym same) good,
        (ap (λ (x : S). durable_state_in_store (state x)) same, refl),
      )
  command_refused false (Off budget left) (Up next) store bytes response is good h held = absurd h
