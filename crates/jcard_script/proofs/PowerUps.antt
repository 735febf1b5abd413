-- What a power up leaves, and a command.
use Rattle.std.proofs.Common.{◌≡◌, ◌∙◌, ℕ, Bool, true, false, List, Result, Ok, Err, refl, subst, sym}
use Rattle.std.specs.Prelude.{IfErr, OnOk}
use Rattle.std.specs.Bool.{OnTrue}
use Rattle.std.proofs.lemmas.Bool.{true≢false}
use Rattle.jc_words.specs.Store.{FuseStoreValue}
use Rattle.jc_card.specs.PowerUp.Outcome.{IsPoweredOver, PowerUpFails}
use Rattle.jc_card.specs.declared.power_up.PowerFault.{PowerFault as Fault}
use Rattle.jc_card.specs.declared.power_up.PowerFault.TheVariants.{StoreDown}
use Rattle.jc_card.specs.State.Power.{Up, Off, budget_of}
use Rattle.jc_card.specs.Session.Requests.{Down, Response}
use Rattle.jc_card.specs.Session.Serving.{AnswersCommandOver, AnswersResetOver}
use Rattle.jc_card.specs.State.{AnswersInPlace, IsHeldIn, PowersUpTo, answer_of_power_up}
use Rattle.jcard_script.specs.ScriptStates.{FailsOver, FailsUp, IsReset, IsSessionStore, PowersUp, ScriptState, fuse_kind, with_power}

-- what is read of a store with a fuse
abbrev powers_to : FuseStoreValue → ℕ → ScriptState → Type 0
powers_to store budget s = PowersUpTo (λ (f : FuseStoreValue). f.words) (λ f. f.down) (λ f. f.passed) (λ f. f.refusals) store budget s

abbrev fails_from : FuseStoreValue → Fault → FuseStoreValue → Type 0
fails_from store fault after = PowerUpFails (λ (f : FuseStoreValue). f.words) (λ f. f.down) (λ f. f.passed) (λ f. f.refusals) store fault after

abbrev held_in : ScriptState → FuseStoreValue → Type 0
held_in s store = IsHeldIn (λ (f : FuseStoreValue). f.words) (λ f. f.down) (λ f. f.passed) (λ f. f.refusals) s store

module _ (before mid : FuseStoreValue) (is : mid ≡ with_power before) (budget : ℕ) where
  fails_over : (fault : Fault) (after : FuseStoreValue) → fails_from mid fault after → FailsOver before fault after
  fails_over fault after fails = subst (λ (m : FuseStoreValue). fails_from m fault after) is fails

  -- a power up over a store whose power is back
  pub powered_up : (r : Result (Unit {0}) Fault) (s : ScriptState) → OnOk r (powers_to mid budget s) → OnOk r (PowersUp budget before s)
  powered_up (Ok done) (Up card) h = subst (λ (m : FuseStoreValue). IsPoweredOver m.words m.down m.passed m.refusals budget card) is h
  powered_up (Ok done) (Off b after) h = (fails_over StoreDown after h.0, h.1)
  powered_up (Err fault) s h = tt

  -- or a fault was found
  pub fails_up : (r : Result (Unit {0}) Fault) (s : ScriptState)
      → IfErr r (λ fault. (fault ≡ StoreDown → ⊥) × (after : FuseStoreValue) × fails_from mid fault after × (s ≡ Off budget after))
      → IfErr r (λ fault. (after : FuseStoreValue) × FailsUp before fault after × (s ≡ Off budget after))
  fails_up (Ok done) s h = tt
  fails_up (Err fault) s h = (h.1, (h.0, fails_over fault h.1 h.2), h.3)

-- the store of what is held
pub store_held : (s : ScriptState) (store : FuseStoreValue) → held_in s store → IsSessionStore s store
store_held (Up card) store h = record {
  good = h.good;
  laid = h.laid;
  durable = h.durable;
  size = h.size;
  down = h.down;
  passed = h.passed;
  refusals = h.refusals;
}
store_held (Off budget held) store h = h

-- a command that was carried out
pub command_answered : (b : Bool) (s t : ScriptState) (bytes response : List ℕ) → AnswersInPlace b s bytes response t
    → OnTrue b (AnswersCommandOver fuse_kind s bytes (Response response) t)
command_answered true (Up card) (Up next) bytes response h = h
command_answered true (Up card) (Off budget store) bytes response h = absurd h
command_answered true (Off budget store) t bytes response h = absurd h
command_answered false s t bytes response h = tt

-- and one that was not, whose store is all that is left
pub command_refused : (b : Bool) (s t : ScriptState) (store : FuseStoreValue) (bytes response : List ℕ) → b ≡ false → AnswersInPlace b s bytes response t
    → IsSessionStore t store → AnswersCommandOver fuse_kind s bytes Down (Off (budget_of s) store)
command_refused true s t store bytes response is h held = absurd (true≢false is)
command_refused false (Up card) (Up next) store bytes response is h held = (refl, (next.memory.heap, h, held))
command_refused false (Up card) (Off budget left) store bytes response is h held = absurd h
command_refused false (Off budget left) (Off after next) store bytes response is h held = (held ∙ h.0, refl)
command_refused false (Off budget left) (Up next) store bytes response is h held = absurd h

-- a session that a power up left down, and its store
pub failed_store : (budget : ℕ) (s : ScriptState) (before after store : FuseStoreValue) (fault : Fault) → FailsUp before fault after → s ≡ Off budget after
    → IsSessionStore s store → FailsUp before fault store
failed_store budget s before after store fault h down holds =
    let same : store ≡ after = subst (λ (t : ScriptState). IsSessionStore t store) down holds in
    subst (FailsUp before fault) (sym same) h

-- a reset is answered by whether the card is up
pub reset_answered : (s t : ScriptState) → IsReset s t → AnswersResetOver fuse_kind s (answer_of_power_up t) t
reset_answered s (Up card) h = h
reset_answered s (Off budget store) h = h
