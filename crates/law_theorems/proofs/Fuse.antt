-- The fuse of a session's store cuts where it was set.
use Rattle.std.proofs.Common.{◌≡◌, ℕ, ◌+◌, ◌<◌, ◌≤◌, ◌⊎◌, Bool, true, false, List, [], ◌∷◌, inl, inr, refl, sym, ◌∙◌, ap, subst, arith, Option, Some, None}
use Rattle.std.proofs.Common.{if◌then◌else◌}
use Rattle.std.proofs.lemmas.Bool.{eqb-true, false≢true}
use Rattle.std.proofs.lemmas.Option.{none-some, same_Some}
use Rattle.jc_words.specs.Count.{saturating_count}
use Rattle.jc_words.specs.Refusals.{Refusals, is_at, refused_once, with_fuse_at}
use Rattle.jc_card.specs.Session.Requests.{Request, Command, Reset, ArmFuse, PlanFault, Reply, Response, Ready, Down}
use Rattle.jc_card.specs.State.Power.{PowerState, Up, Off, KeptState, armed, budget_of, durable_state}
use Rattle.jc_card.specs.Session.Serving.{AnswersCommand, AnswersReset, Serves, SessionRun}
use Rattle.jc_card.proofs.Refusals.{done_refusals, one_more, planned_durable, powered_refusals}
use Rattle.law_theorems.specs.DownRuns.{ArmNone, ArmsNone}
use Rattle.law_theorems.specs.SessionTheorems.Fuse.{FusesCut, IsCutAt, refusals_of}

abbrev most : ℕ
most = 18446744073709551615

-- ---- a refused write

fault_if : (at : Bool) (n : ℕ) → n < most → (if at then n else saturating_count n 1) ≡ n → at ≡ true
fault_if true n small e = refl
fault_if false n small e = let more : saturating_count n 1 ≡ n + 1 = one_more n small in absurd (omega (arith, more, e))

grows_if : (at : Bool) (n : ℕ) → n ≤ (if at then n else saturating_count n 1)
grows_if true n = omega arith
grows_if false n = omega arith

abbrev refused_if : Bool → Refusals → Refusals
refused_if at r = record {
  count = saturating_count r.count 1;
  fuse = if at then None else r.fuse;
  faults = if at then r.faults else saturating_count r.faults 1;
}

module _ (passed : ℕ) (old new : Refusals) (refused : new ≡ refused_once false passed old) where
  pub faults_grow : old.faults ≤ new.faults
  unfolding refused_once
  faults_grow = let is = ap (λ (r : Refusals). r.faults) refused in let le = grows_if (is_at passed old.fuse) old.faults in omega (arith, is, le)

  -- it was the fuse that refused it
  pub by_fuse : old.faults < most → new.faults ≡ old.faults → is_at passed old.fuse ≡ true
  unfolding refused_once
  by_fuse small same = fault_if (is_at passed old.fuse) old.faults small (sym (ap (λ (r : Refusals). r.faults) refused) ∙ same)

  -- and it is burnt out, and nothing else is known
  burns : is_at passed old.fuse ≡ true → new ≡ record old { count = saturating_count old.count 1; fuse = None }
  unfolding refused_once
  burns on = refused ∙ ap (λ b. refused_if b old) on

pub at_count : (passed count : ℕ) (fuse : Option ℕ) → fuse ≡ Some count → is_at passed fuse ≡ true → passed ≡ count
at_count passed count None is on = absurd (none-some count is)
at_count passed count (Some n) is on = sym (eqb-true n passed on) ∙ same_Some n count is

none_at : (passed : ℕ) (fuse : Option ℕ) → fuse ≡ None → is_at passed fuse ≡ true → ⊥
none_at passed None is on = false≢true on
none_at passed (Some n) is on = none-some n (sym is)

-- ---- a request refuses none, or one and is answered down

abbrev IsRefusing : PowerState → PowerState → Reply → Type 0
IsRefusing s next reply = (refusals_of next ≡ refusals_of s)
    ⊎ ((reply ≡ Down) × (refusals_of next ≡ refused_once false (durable_state next).passed (refusals_of s)))

command_refuses : (s : PowerState) (bytes : List ℕ) (reply : Reply) (next : PowerState) → AnswersCommand s bytes reply next → IsRefusing s next reply
command_refuses (Up card) bytes (Response r) (Up next) h = inl (done_refusals bytes r card next h)
command_refuses (Up card) bytes Down (Off b k) h = inr (refl, h.1.2)
command_refuses (Off b k) bytes Down (Off d l) h = inl (ap (λ (x : KeptState). x.refusals) h.0)
command_refuses s bytes reply next h = absurd h

reset_refuses : (s : PowerState) (reply : Reply) (next : PowerState) → AnswersReset s reply next → IsRefusing s next reply
reset_refuses s Ready (Up card) h = inl (powered_refusals (durable_state s) (budget_of s) card h)
reset_refuses s Down (Off b k) h = inr (refl, ap (λ (x : KeptState). x.refusals) h.0)
reset_refuses s reply next h = absurd h

served_refuses : (s : PowerState) (request : Request) (reply : Reply) (next : PowerState) → ArmsNone request → Serves s request reply next
    → IsRefusing s next reply
served_refuses s (Command bytes) reply next none h = command_refuses s bytes reply next h
served_refuses s Reset reply next none h = reset_refuses s reply next h
served_refuses s (ArmFuse k) reply next none h = absurd none
served_refuses s (PlanFault fault) reply next none h =
    inl (ap refusals_of h.1 ∙ ap (λ (k : KeptState). k.refusals) (planned_durable fault s))

served_faults : (s next : PowerState) (reply : Reply) → IsRefusing s next reply → (refusals_of s).faults ≤ (refusals_of next).faults
served_faults s next reply (inl same) = let e = ap (λ (r : Refusals). r.faults) same in omega (arith, e)
served_faults s next reply (inr cut) = faults_grow (durable_state next).passed (refusals_of s) (refusals_of next) cut.1

run_faults : (requests : List Request) (replies : List Reply) (s last : PowerState) → ArmNone requests → SessionRun s requests replies last
    → (refusals_of s).faults ≤ (refusals_of last).faults
run_faults [] [] s last none h = let e = ap (λ p. (refusals_of p).faults) h in omega (arith, e)
run_faults (request ∷ requests) (reply ∷ replies) s last none h =
    let first = served_faults s h.0 reply (served_refuses s request reply h.0 none.0 h.1) in
    let rest = run_faults requests replies h.0 last none.1 h.2 in
    omega (arith, first, rest)
run_faults [] (reply ∷ replies) s last none h = absurd h
run_faults (request ∷ requests) [] s last none h = absurd h

-- ---- after a fuse that is burnt out no write is refused

abbrev StaysUnrefused : List Request → List Reply → PowerState → Type 0
StaysUnrefused requests replies last = (s : PowerState) → ArmNone requests → SessionRun s requests replies last → (refusals_of s).fuse ≡ None
    → (refusals_of s).faults < most → (refusals_of last).faults ≡ (refusals_of s).faults → refusals_of last ≡ refusals_of s

unrefused_behind : (requests : List Request) (replies : List Reply) (s next last : PowerState) (reply : Reply) → IsRefusing s next reply
    → StaysUnrefused requests replies last → ArmNone requests → SessionRun next requests replies last → (refusals_of s).fuse ≡ None
    → (refusals_of s).faults < most → (refusals_of last).faults ≡ (refusals_of s).faults → refusals_of last ≡ refusals_of s
unrefused_behind requests replies s next last reply (inl kept) rest leave h none small same =
    let faults : (refusals_of next).faults ≡ (refusals_of s).faults = ap (λ (r : Refusals). r.faults) kept in
    rest next leave h (ap (λ (r : Refusals). r.fuse) kept ∙ none) (omega (arith, faults, small)) (same ∙ sym faults) ∙ kept
unrefused_behind requests replies s next last reply (inr cut) rest leave h none small same =
    let up = faults_grow (durable_state next).passed (refusals_of s) (refusals_of next) cut.1 in
    let on = run_faults requests replies next last leave h in
    absurd (none_at (durable_state next).passed (refusals_of s).fuse none (by_fuse (durable_state next).passed (refusals_of s) (refusals_of next) cut.1 small
    (omega (arith, up, on, same))))

unrefused : (requests : List Request) (replies : List Reply) (last : PowerState) → StaysUnrefused requests replies last
unrefused [] [] last s leave h none small same = ap refusals_of h
unrefused (request ∷ requests) (reply ∷ replies) last s leave h none small same = unrefused_behind requests replies s h.0 last reply
    (served_refuses s request reply h.0 leave.0 h.1) (unrefused requests replies last) leave.1 h.2 none small same
unrefused [] (reply ∷ replies) last s leave h none small same = absurd h
unrefused (request ∷ requests) [] last s leave h none small same = absurd h

-- ---- one that is set cuts there

abbrev StaysOrCuts : ℕ → List Request → List Reply → PowerState → Type 0
StaysOrCuts count requests replies last = (s : PowerState) → ArmNone requests → SessionRun s requests replies last → (refusals_of s).fuse ≡ Some count
    → (refusals_of s).faults < most → (refusals_of last).faults ≡ (refusals_of s).faults
    → (refusals_of last ≡ refusals_of s) ⊎ IsCutAt count requests replies s last

cut_later : (count : ℕ) (request : Request) (requests : List Request) (reply : Reply) (replies : List Reply) (s next last : PowerState)
    → Serves s request reply next → refusals_of next ≡ refusals_of s → (refusals_of last ≡ refusals_of next) ⊎ IsCutAt count requests replies next last
    → (refusals_of last ≡ refusals_of s) ⊎ IsCutAt count (request ∷ requests) (reply ∷ replies) s last
cut_later count request requests reply replies s next last served kept (inl stays) = inl (stays ∙ kept)
cut_later count request requests reply replies s next last served kept (inr at) = let l = at.run in inr (record {
  run = record {
    before = request ∷ l.before;
    request = l.request;
    after = l.after;
    first = reply ∷ l.first;
    rest = l.rest;
    mid = l.mid;
    next = l.next;
    are = ap (λ m. request ∷ m) l.are;
    are_told = ap (λ m. reply ∷ m) l.are_told;
    up = (next, served, l.up);
    one = l.one;
    behind = l.behind;
  };
  none = at.none ∙ kept;
  passed = at.passed;
  cut = at.cut ∙ ap (λ (r : Refusals). record r { count = saturating_count r.count 1; fuse = None }) kept;
  still = at.still;
})

cut_now : (count : ℕ) (request : Request) (requests : List Request) (reply : Reply) (replies : List Reply) (s next last : PowerState)
    → Serves s request reply next → IsRefusing s next reply → StaysOrCuts count requests replies last → ArmNone requests
    → SessionRun next requests replies last → (refusals_of s).fuse ≡ Some count → (refusals_of s).faults < most
    → (refusals_of last).faults ≡ (refusals_of s).faults → (refusals_of last ≡ refusals_of s) ⊎ IsCutAt count (request ∷ requests) (reply ∷ replies) s last
cut_now count request requests reply replies s next last served (inl kept) go leave h fuse small same =
    let faults : (refusals_of next).faults ≡ (refusals_of s).faults = ap (λ (r : Refusals). r.faults) kept in
    cut_later count request requests reply replies s next last served kept
    (go next leave h (ap (λ (r : Refusals). r.fuse) kept ∙ fuse) (omega (arith, faults, small)) (same ∙ sym faults))
cut_now count request requests reply replies s next last served (inr cut) go leave h fuse small same =
    let passed = (durable_state next).passed in
    let up = faults_grow passed (refusals_of s) (refusals_of next) cut.1 in
    let on = run_faults requests replies next last leave h in
    let faults : (refusals_of next).faults ≡ (refusals_of s).faults = omega (arith, up, on, same) in
    let at = by_fuse passed (refusals_of s) (refusals_of next) cut.1 small faults in
    let burnt = burns passed (refusals_of s) (refusals_of next) cut.1 at in
    inr (record {
      run = record {
        before = [];
        request = request;
        after = requests;
        first = [];
        rest = replies;
        mid = s;
        next = next;
        are = refl;
        are_told = ap (λ r. r ∷ replies) cut.0;
        up = refl;
        one = subst (λ r. Serves s request r next) cut.0 served;
        behind = h;
      };
      none = refl;
      passed = at_count passed count (refusals_of s).fuse fuse at;
      cut = burnt;
      still = unrefused requests replies last next leave h (ap (λ (r : Refusals). r.fuse) burnt) (omega (arith, faults, small)) (same ∙ sym faults);
    })

stays_or_cuts : (count : ℕ) (requests : List Request) (replies : List Reply) (last : PowerState) → StaysOrCuts count requests replies last
stays_or_cuts count [] [] last s leave h fuse small same = inl (ap refusals_of h)
stays_or_cuts count (request ∷ requests) (reply ∷ replies) last s leave h fuse small same = cut_now count request requests reply replies s h.0 last h.1
    (served_refuses s request reply h.0 leave.0 h.1) (stays_or_cuts count requests replies last) leave.1 h.2 fuse small same
stays_or_cuts count [] (reply ∷ replies) last s leave h fuse small same = absurd h
stays_or_cuts count (request ∷ requests) [] last s leave h fuse small same = absurd h

armed_refusals : (k : ℕ) (s : PowerState) → refusals_of (armed k s) ≡ with_fuse_at (saturating_count (durable_state s).passed k) (refusals_of s)
armed_refusals k (Up card) = refl
armed_refusals k (Off b kept) = refl

pub fuses_cut : FusesCut
fuses_cut k requests replies s last h leave small same within =
    let count = saturating_count (durable_state s).passed k in
    let set = armed_refusals k s in
    let faults : (refusals_of (armed k s)).faults ≡ (refusals_of s).faults = ap (λ (r : Refusals). r.faults) set in
    elim (stays_or_cuts count requests replies last (armed k s) leave h (ap (λ (r : Refusals). r.fuse) set) (omega (arith, faults, small)) (same ∙ sym faults)) [
      | inl stays ↦ inl (stays ∙ set, within count (ap (λ (r : Refusals). r.fuse) (stays ∙ set)))
      | inr at ↦ inr at
    ]
