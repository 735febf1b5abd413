-- Power ups of sessions over stores that commands left.
use Rattle.std.proofs.Common.{◌≡◌, ℕ, zero, suc, List, [], ◌∷◌, take, true, Option, refl, sym, ◌∙◌, ap, subst, inl, inr}
use Rattle.std.specs.Prelude.{◌⊎◌}
use Rattle.jc_commit.specs.Image.{recovered_of}
use Rattle.jc_platform.specs.Tokens.{Tokens}
use Rattle.jc_card.specs.ProductImages.{IsMade}
use Rattle.jc_card.specs.PowerUp.{PowerUpRefuses}
use Rattle.jc_card.specs.declared.power_up.PowerFault.{PowerFault as Fault}
use Rattle.jc_card.specs.declared.power_up.PowerFault.TheVariants.{NoMemory, StoreDown}
use Rattle.jc_card.proofs.PoweredUp.{refused_made}
use Rattle.jc_card.specs.Session.Requests.{Request, Command, Reset, ArmFuse, PlanFault, Reply, Response, Ready, Down}
use Rattle.jc_card.specs.State.Power.{KeptState, PowerState, Up, Off, StoreState, IsStoreOf, armed, budget_of, durable_state, durable_state_in_store, planned, with_power}
use Rattle.jc_card.specs.declared.planned_fault.PlannedFault.{PlannedFault}
use Rattle.jc_card.specs.Session.Serving.{AnswersCommand, AnswersReset, Serves, SessionRun}
use Rattle.jc_card.specs.Session.Starting.{FailsToReset, FailsToStart, Starts}
use Rattle.jc_card.specs.Session.{IsSession, FailsAtReset}
use Rattle.jc_card.proofs.Laid.{if_laid, laid_if}
use Rattle.jc_card.proofs.Resets.{start_fails}
use Rattle.law_theorems.specs.Cards.{AreOfBytes, IsOwnKept, IsOwnPower, StaysOwn}
use Rattle.law_theorems.specs.CardLaws.{IsOwnStore, SessionsEndWell}
use Rattle.law_theorems.specs.CardImages.{Keeps}
use Rattle.law_theorems.proofs.Sessions.{OneTable, kept_own, powered_own, stays_own}
use Rattle.law_theorems.proofs.CardImages.{images_made}

-- ---- the words of a card that was up are laid, and stay so

abbrev IsLaidIn : PowerState → Type 0
IsLaidIn s = (durable_state s).laid ≡ true

command_laid : (s : PowerState) (bytes : List ℕ) (reply : Reply) (next : PowerState) → IsLaidIn s → AnswersCommand s bytes reply next → IsLaidIn next
command_laid (Up card) bytes (Response r) (Up next) laid did = refl
command_laid (Up card) bytes Down (Off b k) laid lost = lost.1.4
command_laid (Off b k) bytes Down (Off d l) laid same = ap (λ (x : KeptState). x.laid) same.0 ∙ laid
command_laid s bytes reply next laid none = absurd none

reset_laid : (s : PowerState) (reply : Reply) (next : PowerState) → IsLaidIn s → AnswersReset s reply next → IsLaidIn next
reset_laid s Ready (Up card) laid up = refl
reset_laid s Down (Off b k) laid same = ap (λ (x : KeptState). x.laid) same.0 ∙ laid
reset_laid s reply next laid none = absurd none

armed_laid : (k : ℕ) (s : PowerState) → IsLaidIn s → IsLaidIn (armed k s)
armed_laid k (Up card) laid = refl
armed_laid k (Off b kept) laid = laid

planned_laid : (fault : Option PlannedFault) (s : PowerState) → IsLaidIn s → IsLaidIn (planned fault s)
planned_laid fault (Up card) laid = refl
planned_laid fault (Off b kept) laid = laid

request_laid : (s : PowerState) (request : Request) (reply : Reply) (next : PowerState) → IsLaidIn s → Serves s request reply next → IsLaidIn next
request_laid s (Command bytes) reply next laid served = command_laid s bytes reply next laid served
request_laid s Reset reply next laid served = reset_laid s reply next laid served
request_laid s (ArmFuse k) reply next laid served = subst IsLaidIn (sym served.1) (armed_laid k s laid)
request_laid s (PlanFault fault) reply next laid served = subst IsLaidIn (sym served.1) (planned_laid fault s laid)

session_laid : (s : PowerState) (requests : List Request) (replies : List Reply) (last : PowerState) → IsLaidIn s → SessionRun s requests replies last
    → IsLaidIn last
session_laid s [] [] last laid same = subst IsLaidIn (sym same) laid
session_laid s (request ∷ requests) (reply ∷ replies) last laid run =
    session_laid run.0 requests replies last (request_laid s request reply run.0 laid run.1) run.2
session_laid s [] (reply ∷ replies) last laid none = absurd none
session_laid s (request ∷ requests) [] last laid none = absurd none

-- the first of some requests of bytes are of bytes
first_bytes : (n : ℕ) (requests : List Request) → AreOfBytes requests → AreOfBytes (take n requests)
first_bytes zero requests are = tt
first_bytes (suc n) [] are = tt
first_bytes (suc n) (request ∷ requests) are = (are.0, first_bytes n requests are.1)

-- ---- the store of a card that commands left

store_own : (t : Tokens) (last : PowerState) (store : StoreState) → IsOwnPower t last → IsLaidIn last → IsStoreOf last store → IsOwnStore t store
store_own t last store own laid is = record {
  keeps = record { good = is.good; laid = laid_if (recovered_of store.words) (ap (λ (x : KeptState). x.laid) is.kept ∙ laid); durable = refl; size = refl };
  own = subst (IsOwnKept t) (sym is.kept) (kept_own t last own);
}

made_of : (t : Tokens) (store : StoreState) → IsOwnStore t store → IsMade store.words
made_of t store own = images_made.kept t store.words (durable_state_in_store store) own.own own.keeps

-- ---- sessions over it

module _ (budget : ℕ) (g : OneTable) (t : Tokens) (before : StoreState) (own : IsOwnStore t before) where
  first_own : (first : PowerState) → Starts budget before first → IsOwnPower t first × IsLaidIn first
  first_own (Up card) h = (powered_own g t (durable_state_in_store before) budget card own.own h.1, refl)
  first_own (Off b k) h = (
    subst (IsOwnKept t) (sym h.1) (record { packages = own.own.packages; linked = own.own.linked; heap = own.own.heap; layout = own.own.layout }),
    ap (λ (x : KeptState). x.laid) h.1 ∙ if_laid (recovered_of before.words) own.keeps.laid,
  )

  last_own : (requests : List Request) (replies : List Reply) (last : PowerState) → AreOfBytes requests → IsSession budget before requests replies last
      → IsOwnPower t last × IsLaidIn last
  last_own requests replies last are h =
      let first = first_own h.0 h.1 in
      let stays : StaysOwn = stays_own g in
      (stays.session t h.0 requests replies last are first.0 h.2, session_laid h.0 requests replies last first.1 h.2)

-- words that the product made have no other fault
no_other : (fault : Fault) (words : List ℕ) → IsMade words → PowerUpRefuses fault words → (fault ≡ StoreDown → ⊥) → fault ≡ NoMemory
no_other fault words made cause other = one (refused_made words fault made cause)
  where
    one : (fault ≡ NoMemory) ⊎ (fault ≡ StoreDown) → fault ≡ NoMemory
    one (inl is) = is
    one (inr is) = absurd (other is)

-- a reset that finds a fault leaves such a store
reset_own : (t : Tokens) (s : PowerState) (after : StoreState) (fault : Fault) → IsOwnPower t s → IsLaidIn s → FailsToReset fault s after
    → (fault ≡ NoMemory) × IsOwnStore t after
reset_own t s after fault own laid fails =
    let left = kept_own t s own in (
      no_other fault fails.0.words (made_of t fails.0 (store_own t s fails.0 own laid fails.1)) fails.2 fails.3,
      store_own t (Off (budget_of s) (with_power after.passed (durable_state s))) after (record {
        packages = left.packages;
        linked = left.linked;
        heap = left.heap;
        layout = left.layout;
      }) laid fails.4,
    )

fault_is : (budget : ℕ) → OneTable → (t : Tokens) (before after : StoreState) (requests : List Request) (fault : Fault) → AreOfBytes requests → IsOwnStore t before
    → FailsToStart fault before after ⊎ FailsAtReset budget fault before requests after → (fault ≡ NoMemory) × IsOwnStore t after
fault_is budget g t before after requests fault are own (inl start) =
    reset_own t (Off budget (durable_state_in_store before)) after fault own.own (if_laid (recovered_of before.words) own.keeps.laid)
    (start_fails fault (Off budget (durable_state_in_store before)) before after (record { good = own.keeps.good; kept = refl }) start)
fault_is budget g t before after requests fault are own (inr stops) =
    let last = last_own budget g t before own (take stops.0 requests) stops.1 stops.2 (first_bytes stops.0 requests are) stops.4 in
    reset_own t stops.2 after fault last.0 last.1 stops.5

pub end_well : OneTable → SessionsEndWell
end_well g = record {
  new = λ t room text store made reads is.
      let keeps : Keeps store.words (durable_state_in_store store) = record { good = made.log; laid = made.laid; durable = refl; size = refl } in
      record { keeps = keeps; own = images_made.new t room text store.words (durable_state_in_store store) made reads is keeps };
  made = made_of;
  done = λ budget t before after requests replies are own ends.
      let last = last_own budget g t before own requests replies ends.0 are ends.1 in store_own t ends.0 after last.0 last.1 ends.2;
  fault = λ budget t before after requests fault are own ends. fault_is budget g t before after requests fault are own ends;
}
