-- Sessions without refused writes, the answer down, and stores that sessions leave.
use Rattle.std.proofs.Common.{◌≡◌, ℕ, ◌+◌, ◌<◌, false, List, refl, sym, ◌∙◌, subst, ap, arith}
use Rattle.std.specs.Prelude.{Ok, Err, Result}
use Rattle.jc_words.specs.Count.{saturating_count}
use Rattle.jc_words.specs.Refusals.{Refusals, refused_once}
use Rattle.jc_platform.specs.Tokens.{Tokens}
use Rattle.jc_platform.proofs.OneAnswer.{one_table}
use Rattle.jc_card.proofs.PoweredUp.{refused_made}
use Rattle.jc_card.specs.declared.session.SessionFault.{SessionFault}
use Rattle.jc_card.specs.declared.session.SessionFault.TheVariants.{NoMemory, PowerFault}
use Rattle.jc_card.specs.Session.Requests.{Request, Command, Reset, ArmFuse, PlanFault, Reply, Response, Ready, Down, Armed, Planned}
use Rattle.jc_card.specs.SessionLaws.{IsToldByReply, IsToldOfRefusal, refusals_before}
use Rattle.jc_card.specs.State.Power.{PowerState, Up, Off, KeptState, StoreState, durable_state}
use Rattle.jc_card.specs.Session.Serving.{Serves}
use Rattle.jc_card.specs.Session.{SessionEnds}
use Rattle.jc_card.proofs.Refusals.{count_raised, done_refusals, one_more, planned_durable, powered_refusals}
use Rattle.jc_card.proofs.WholeSessions.{are_whole, down_tells}
use Rattle.jcard_script.specs.declared.script.ScriptFault.TheVariants.{PowerFault as NotPoweredUp}
use Rattle.law_theorems.specs.Cards.{AreOfBytes}
use Rattle.law_theorems.specs.CardLaws.{IsOwnStore, SessionsEndWell}
use Rattle.law_theorems.specs.ScriptLaws.{state_of}
use Rattle.law_theorems.proofs.Faults.{end_well}
use Rattle.law_theorems.proofs.Scripts.{end_as_sessions}
use Rattle.law_theorems.specs.SessionTheorems.Images.{PowerUpAgain}
use Rattle.law_theorems.specs.SessionTheorems.Refusals.{DownTells}
use Rattle.law_theorems.specs.SessionTheorems.WholeCopies.{AreOfWholeCopies}

pub whole : AreOfWholeCopies
whole budget before after requests replies ends none = are_whole budget before after requests replies ends.0 ends.1 ends.2 none

-- ---- down

no_rise : (p : ℕ) (old new : Refusals) → old.count < 18446744073709551615 → new ≡ old → new ≡ refused_once false p old → ⊥
no_rise p old new small same risen =
    let e : saturating_count old.count 1 ≡ old.count + 1 = one_more old.count small in
    let c : new.count ≡ old.count = ap (λ (r : Refusals). r.count) same in
    omega (arith, count_raised p old new risen, c, e)

so_down : (s : PowerState) (request : Request) (reply : Reply) (next : PowerState) → (durable_state s).refusals.count < 18446744073709551615
    → Serves s request reply next → IsToldOfRefusal request s next → reply ≡ Down
so_down (Up card) (Command bytes) (Response r) (Up next) small h is =
    absurd (no_rise next.memory.heap.passed card.memory.heap.refusals next.memory.heap.refusals small (done_refusals bytes r card next h) is)
so_down (Up card) (Command bytes) Down (Off b k) small h is = refl
so_down (Off b k) (Command bytes) Down (Off d l) small h is = refl
so_down (Up card) Reset Ready (Up next) small h is =
    absurd (no_rise next.memory.heap.passed card.memory.heap.refusals next.memory.heap.refusals small (powered_refusals (durable_state (Up card)) card.budget.left next h) is)
so_down (Off b k) Reset Ready (Up next) small h is =
    absurd (no_rise next.memory.heap.passed k.refusals next.memory.heap.refusals small (powered_refusals k b next h) is)
so_down s Reset Down (Off b k) small h is = refl
so_down s (ArmFuse k) reply next small h is = absurd is
so_down s (PlanFault fault) reply next small h is = absurd is
so_down s request reply next small h is = absurd h

unless_down : (s : PowerState) (request : Request) (reply : Reply) (next : PowerState) → IsToldByReply request reply s next → (reply ≡ Down → ⊥)
    → (durable_state next).refusals ≡ refusals_before request s
unless_down s request (Response r) (Up card) told other = told
unless_down s request (Response r) (Off b k) told other = absurd told
unless_down s request Ready (Up card) told other = told
unless_down s request Ready (Off b k) told other = absurd told
unless_down s request Down next told other = absurd (other refl)
unless_down s request (Armed k) next told other =
    subst (λ r. (durable_state next).refusals ≡ refusals_before r s) (sym told.0) (ap (λ p. (durable_state p).refusals) told.1)
unless_down s request (Planned fault) next told other =
    subst (λ r. (durable_state next).refusals ≡ refusals_before r s) (sym told.0)
    (ap (λ p. (durable_state p).refusals) told.1 ∙ ap (λ (k : KeptState). k.refusals) (planned_durable fault s))

pub tells : DownTells
tells s request reply next h small =
    let told = down_tells s request reply next h in record {
      down = (told.down, so_down s request reply next small h);
      other = unless_down s request reply next told.told;
    }

-- ---- stores

ended : (end : SessionsEndWell) (budget : ℕ) (t : Tokens) (before after : StoreState) (requests : List Request) (result : Result (List Reply) SessionFault) → AreOfBytes requests
    → IsOwnStore t before → SessionEnds budget result before requests after → IsOwnStore t after
ended end budget t before after requests (Ok replies) are own ends = end.done budget t before after requests replies are own ends
ended end budget t before after requests (Err NoMemory) are own same = subst (IsOwnStore t) (sym same) own
ended end budget t before after requests (Err (PowerFault fault)) are own ends = (end.fault budget t before after requests fault are own ends).1

pub again : PowerUpAgain
again = let end : SessionsEndWell = end_well one_table in record {
  new = end.new;
  ends = ended end;
  fault = λ budget t before after requests fault are own ends. (end.fault budget t before after requests fault are own ends).0;
  scripts = λ budget t before after result at_end script text own ends.
      let s = end_as_sessions budget result before after at_end script text ends in
      ended end budget t (state_of before) (state_of after) s.0 s.1 s.2 own s.4;
  script_fault = λ budget t before after fault at_end script text own ends.
      let s = end_as_sessions budget (Err (NotPoweredUp fault)) before after at_end script text ends in
      let stops = subst (λ r. SessionEnds budget r (state_of before) s.0 (state_of after)) s.3 s.4 in
      (end.fault budget t (state_of before) (state_of after) s.0 fault s.2 own stops).0;
  up = λ t store fault own cause. refused_made store.words fault (end.made t store own) cause;
}
