-- What `jcard tear` reports of a cut.
use Rattle.std.proofs.Common.{◌≡◌, ℕ, ◌+◌, ◌<◌, ◌≤◌, ◌⊎◌, true, inl, inr, List, [], ◌∷◌, ◌++◌, Some, refl, sym, ◌∙◌, ap, subst, arith, Ok}
use Rattle.std.proofs.lemmas.Bool.{false≢true}
use Rattle.std.proofs.lemmas.List.Concat.{flat_map-append}
use Rattle.std.specs.Str.Lines.{lines}
use Rattle.jc_words.specs.Count.{saturating_count}
use Rattle.jc_words.specs.Store.{FuseStoreValue}
use Rattle.jc_commit.specs.Image.{plain_of, recovered_of}
use Rattle.jc_heap.specs.Heap.{HeapView, heap_of}
use Rattle.jc_heap.specs.HeapLaws.{IsExactCut}
use Rattle.jc_heap.proofs.Losses.{exact}
use Rattle.jc_heap.proofs.Migrated.{migrated_alike}
use Rattle.jc_memory.specs.State.{moves_of}
use Rattle.jc_memory.proofs.ProgramLemmas.{lost_by}
use Rattle.jc_platform.specs.Tokens.{Tokens}
use Rattle.jc_card.specs.Answers.{exchange}
use Rattle.jc_card.specs.Card.{CardState}
use Rattle.jc_card.specs.Dispatching.{with_response}
use Rattle.jc_card.specs.Session.Requests.{Request, Command, ArmFuse, Reply, Response, Ready, Down, Armed, Planned}
use Rattle.jc_card.specs.State.Power.{PowerState, Up, Off, KeptState, armed, durable_state}
use Rattle.jc_card.specs.Session.Serving.{AnswersCommand, SessionRun}
use Rattle.jc_card.specs.Session.Starting.{Starts}
use Rattle.jc_card.proofs.SessionRuns.{run_then}
use Rattle.jcard_script.specs.Script.{form_of}
use Rattle.jcard_outcomes.specs.declared.standing.Left.{Left}
use Rattle.jcard_sweeps.specs.declared.command.Command.{Command as CutCommand}
use Rattle.jcard_sweeps.specs.Runs.{IsLeft, Runs, store_of}
use Rattle.jcard_tear.specs.Sweep.{cut_script}
use Rattle.law_theorems.specs.Outcomes.{ComesTo}
use Rattle.law_theorems.specs.CardLaws.{IsOwnStore}
use Rattle.law_theorems.specs.ScriptLaws.{asked_by, asked_by_form, state_of}
use Rattle.law_theorems.proofs.Rest.{leave_at_rest}
use Rattle.law_theorems.proofs.Scripts.{are_sessions, ask_bytes}
use Rattle.law_theorems.specs.SessionTheorems.Tears.{CutsAreNamed, IsNamed, ReadsAsCut}
use Rattle.law_theorems.proofs.CardsAtRest.{comes_rests, stores_come}
use Rattle.law_theorems.proofs.Fuse.{at_count, by_fuse, faults_grow}

-- ---- a session of two parts

record HasMiddle (requests more : List Request) (replies : List Reply) (s last : PowerState) : Type 0 where
  first : List Reply
  second : List Reply
  middle : PowerState
  begins : SessionRun s requests first middle
  ends : SessionRun middle more second last

split : (requests more : List Request) (replies : List Reply) (s last : PowerState) → SessionRun s (requests ++ more) replies last
    → HasMiddle requests more replies s last
split [] more replies s last run = record { first = []; second = replies; middle = s; begins = refl; ends = run }
split (request ∷ requests) more (reply ∷ replies) s last run =
    let h = split requests more replies run.0 last run.2 in
    record { first = reply ∷ h.first; second = h.second; middle = h.middle; begins = (run.0, run.1, h.begins); ends = h.ends }
split (request ∷ requests) more [] s last run = absurd run

-- ---- the count at which the fuse cuts

module _ (p k n : ℕ) where
  below_most : n < 18446744073709551615 → n ≡ saturating_count p k → n ≡ p + k
  below_most small is = omega (arith, small, is)

-- ---- a command that was cut

module _ (t : Tokens) (bytes : List ℕ) (k : ℕ) where
  module _ (card : CardState) (comes : ComesTo t (Up card)) (fuse : card.memory.heap.refusals.fuse ≡ Some (saturating_count card.memory.heap.passed k)) where
    cut_so : (b : ℕ) (off : KeptState) → AnswersCommand (Up card) bytes Down (Off b off) → off.passed < 18446744073709551615
        → IsNamed t bytes k off.refusals.faults off.durable
    cut_so b off answers small =
        let heap = card.memory.heap in
        let l = lost_by (exchange bytes card) card.memory off.passed off.durable answers.1.0 in
        let x : IsExactCut (moves_of (l.0 ∷ l.1)) heap off.passed off.durable = exact (moves_of (l.0 ∷ l.1)) heap off.passed off.durable small l.3 in
        record {
          card = card;
          comes = comes;
          writes = x.0;
          cut = record { effects = l.0 ∷ l.1; begins = l.2; within = x.2; is = x.3 };
          stopped = λ none.
              let grown : heap.refusals.faults ≤ off.refusals.faults = faults_grow off.passed heap.refusals off.refusals answers.1.2 in
              let few : heap.refusals.faults < 18446744073709551615 = omega (arith, grown, none) in
              let same : off.refusals.faults ≡ heap.refusals.faults = omega (arith, grown, none) in
              let at = below_most heap.passed k off.passed small (at_count off.passed (saturating_count heap.passed k) heap.refusals.fuse fuse
              (by_fuse off.passed heap.refusals off.refusals answers.1.2 few same)) in
              let sum = x.1 in
              omega (arith, at, sum);
        }

    -- the card is down after it
    answered : (reply : Reply) (next : PowerState) → AnswersCommand (Up card) bytes reply next → (durable_state next).down ≡ true
        → (durable_state next).passed < 18446744073709551615 → IsNamed t bytes k (durable_state next).refusals.faults (durable_state next).durable
    answered Down (Off b off) answers down small = cut_so b off answers small
    answered (Response r) (Up next) answers down small = absurd (false≢true
        (sym (ap (λ (v : HeapView). v.down) (leave_at_rest bytes card (with_response next r) next.memory (comes_rests t (Up card) comes) answers)) ∙ down))
    answered (Response r) (Off b off) answers down small = absurd answers
    answered Down (Up next) answers down small = absurd answers
    answered Ready next answers down small = absurd answers
    answered (Armed n) next answers down small = absurd answers
    answered (Planned fault) next answers down small = absurd answers

  -- ---- an armed state, and the command after it
  abbrev IsTold : PowerState → Type 0
  IsTold last = ((budget : ℕ) × (kept : KeptState) × ComesTo t (Off budget kept))
      ⊎ IsNamed t bytes k (durable_state last).refusals.faults (durable_state last).durable

  behind_armed : (s : PowerState) (reply : Reply) (last : PowerState) → ComesTo t (armed k s) → AnswersCommand (armed k s) bytes reply last
      → (durable_state last).down ≡ true → (durable_state last).passed < 18446744073709551615 → IsTold last
  behind_armed (Up card) reply last comes answers down small = inr (answered _ comes refl reply last answers down small)
  behind_armed (Off b kept) reply last comes answers down small = inl (b, durable_state (armed k (Off b kept)), comes)

  module _ (budget : ℕ) (before : FuseStoreValue) (own : IsOwnStore t (state_of before)) (carried : List (List ℕ)) (stop : List ℕ)
      (arms : asked_by_form (form_of stop) ≡ ArmFuse k ∷ []) (first : PowerState) (starts : Starts budget (state_of before) first) where
    two_served : (mid : PowerState) (given : List Reply) → SessionRun first (asked_by carried) given mid → (replies : List Reply) (last : PowerState)
        → SessionRun mid (ArmFuse k ∷ Command bytes ∷ []) replies last → (durable_state last).down ≡ true
        → (durable_state last).passed < 18446744073709551615 → IsTold last
    two_served mid given run (one ∷ two ∷ []) last ends down small =
        let next = ends.0 in
        let comes : ComesTo t (armed k mid) = stores_come budget t (state_of before) (asked_by (carried ++ (stop ∷ []))) (given ++ (one ∷ [])) (armed k mid) own
        (ask_bytes (carried ++ (stop ∷ []))) (
          first,
          starts,
          subst (λ l. SessionRun first l (given ++ (one ∷ [])) (armed k mid))
              (sym (flat_map-append (λ line. asked_by_form (form_of line)) carried (stop ∷ []) ∙ (λ i. asked_by carried ++ (arms i ++ []))))
              (run_then (asked_by carried) (ArmFuse k ∷ []) given (one ∷ []) first mid (armed k mid) run (armed k mid, (ends.1.0, refl), refl)),
        ) in
        behind_armed mid two last comes (subst (λ s. AnswersCommand s bytes two last) ends.1.1 (subst (AnswersCommand next bytes two) (sym ends.2.2) ends.2.1))
        down small
    two_served mid given run [] last ends down small = absurd ends
    two_served mid given run (one ∷ []) last ends down small = absurd ends.2
    two_served mid given run (one ∷ two ∷ three ∷ more) last ends down small = absurd ends.2.2

-- ---- a script

module _ (t : Tokens) (words : List ℕ) (c : CutCommand) (k : ℕ) (bytes text : List ℕ) (after : FuseStoreValue) (left : Left)
    (own : IsOwnStore t (state_of (store_of words))) (read : ReadsAsCut (cut_script c k) k bytes)
    (ran : Runs c.behind.instructions words (cut_script c k) text after) where
  asks_two : asked_by (lines (cut_script c k)) ≡ asked_by read.carried ++ (ArmFuse k ∷ Command bytes ∷ [])
  asks_two = ap asked_by read.are
      ∙ flat_map-append (λ line. asked_by_form (form_of line)) read.carried (read.stop ∷ read.line ∷ [])
      ∙ (λ i. asked_by read.carried ++ (asked_by_form (read.arms i) ++ (asked_by_form (read.asks i) ++ [])))

  named : after.down ≡ true → after.passed < 18446744073709551615 → IsLeft c.behind.instructions after.words c.probe.now left
      → ((budget : ℕ) × (kept : KeptState) × ComesTo t (Off budget kept)) ⊎ IsNamed t bytes k after.refusals.faults (heap_of (plain_of left.words.items))
  named down small is =
      let session = are_sessions c.behind.instructions (Ok tt) (store_of words) after true (cut_script c k) text ran in
      let last = session.0 in
      let run = session.1.1 in
      let kept : (durable_state last) ≡ _ = sym session.2.kept in
      let parts = split (asked_by read.carried) (ArmFuse k ∷ Command bytes ∷ []) session.1.0 run.0 last
      (subst (λ l. SessionRun run.0 l session.1.0 last) asks_two run.2) in
      let told = two_served t bytes k c.behind.instructions (store_of words) own read.carried read.stop (ap asked_by_form read.arms) run.0 run.1 parts.middle parts.first
      parts.begins parts.second last parts.ends (ap (λ (x : KeptState). x.down) kept ∙ down)
      (subst (λ n. n < 18446744073709551615) (sym (ap (λ (x : KeptState). x.passed) kept)) small) in
      let heap : (durable_state last).durable ≡ heap_of (plain_of left.words.items) = ap (λ (x : KeptState). x.durable) kept
      ∙ sym (ap heap_of is.1 ∙ (migrated_alike (recovered_of after.words) 3).heap) in
      elim told [
        | inl off ↦ inl off
        | inr so ↦ inr (subst (IsNamed t bytes k after.refusals.faults) heap
            (subst (λ n. IsNamed t bytes k n (durable_state last).durable) (ap (λ (x : KeptState). x.refusals.faults) kept) so))
      ]

pub cuts_named : CutsAreNamed
cuts_named t words c k bytes text after left own read ran down small is = named t words c k bytes text after left own read ran down small is
