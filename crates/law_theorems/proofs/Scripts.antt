-- Lines of a script as requests of a session.
use Rattle.std.proofs.Common.{◌≡◌, ◌≢◌, ◌<◌, inl, inr, ℕ, List, [], ◌∷◌, ◌++◌, length, Option, Some, refl, sym, ◌∙◌, ap, subst, arith}
use Rattle.std.specs.Prelude.{false, slice_index, Result, Ok, Err}
use Rattle.std.proofs.lemmas.List.{append_assoc, append-nil, get_or_at, get_or_default, length-append, take_at}
use Rattle.std.proofs.lemmas.List.Concat.{flat_map-append}
use Rattle.std.proofs.lemmas.Option.{slice_get-get_or}
use Rattle.std.specs.Str.Lines.{lines}
use Rattle.jc_words.specs.Count.{saturating_count}
use Rattle.jc_words.specs.Refusals.{with_fuse_at}
use Rattle.jc_words.specs.Store.{FuseStoreValue}
use Rattle.jc_commit.specs.Image.{IsGoodLog, recovered_of}
use Rattle.jc_heap.specs.Heap.{HeapView, heap_at_rest}
use Rattle.jc_memory.specs.Programs.{TearLeaves}
use Rattle.jc_card.specs.Answers.{exchange}
use Rattle.jc_card.specs.Dispatching.{with_response}
use Rattle.jc_card.specs.Session.Requests.{Request, Command, Reset, ArmFuse, PlanFault, Reply, Response, Ready, Down}
use Rattle.jc_card.specs.State.Power.{PowerState, Up, Off, StoreState, IsStoreOf, armed, budget_of, durable_state, durable_rest, durable_state_in_store, planned, with_refusal}
use Rattle.jc_card.specs.declared.planned_fault.PlannedFault.{PlannedFault}
use Rattle.jc_card.specs.Session.Serving.{AnswersCommand, AnswersCommandOver, IsReset, Serves, ServesOver, SessionRun}
use Rattle.jc_card.specs.declared.session.SessionFault.{SessionFault}
use Rattle.jc_card.specs.declared.session.SessionFault.TheVariants.{PowerFault as NotPoweredUp}
use Rattle.jc_card.specs.Session.{FailsAtReset, IsSession, SessionEnds}
use Rattle.jc_card.specs.Session.Starting.{FailsToReset, FailsToStart, IsPoweredUp, Starts}
use Rattle.jc_card.specs.declared.power_up.PowerFault.{PowerFault as Fault}
use Rattle.jc_card.proofs.Laid.{if_laid}
use Rattle.jc_card.proofs.Resets.{start_fails}
use Rattle.jc_card.proofs.SessionRuns.{run_then}
use Rattle.jc_card.proofs.WholeSessions.{are_whole}
use Rattle.jcard_script.specs.declared.script.ScriptFault.{ScriptFault}
use Rattle.jcard_script.specs.declared.script.ScriptFault.TheVariants.{ReadFailed, WriteFailed, BadLine, TooLong, PowerFault}
use Rattle.jcard_script.specs.ScriptStates.{ScriptState, FailsReset, FailsUp, IsReset as IsResetOf, IsStoreOf as IsStoreOfHeap, IsSessionStore}
use Rattle.jc_card.specs.State.{with_fuse}
use Rattle.jcard_script.specs.ScriptStates.{PowersUp, fuse_kind, with_power}
use Rattle.jcard_script.specs.Script.{AreCarriedOut, Form, Skipped, Asks, Bad, IsWrittenFor, form_of, lines_so_far, text_of_reply}
use Rattle.jcard_texts.specs.Texts.{IsCutOf}
use Rattle.jcard_script.proofs.Decoding.{command_bytes}
use Rattle.jcard_script.proofs.Words.{form_command}
use Rattle.law_theorems.specs.Cards.{AreOfBytes}
use Rattle.law_soundness.specs.LoadedPackages.{AreBytes}
use Rattle.law_theorems.proofs.Rest.{leave_at_rest, rests_so}
use Rattle.law_theorems.proofs.Steps.{cut_kept}
use Rattle.jc_card.proofs.Starts.{fault_starts, starts_off, starts_up}
use Rattle.law_theorems.specs.Rest.{IsResting}
use Rattle.law_theorems.specs.ScriptLaws.{AreSessionsOfScript, AreSessions, AreWholeSessions, AskBytes, EndAsSessions, EndsAsSession, HaveForm, IsSameEnd, Leaves, asked_by, asked_by_form, state_of, text_of_replies}

-- how the card of a script stands, as a session sees it
abbrev power_in : ScriptState → PowerState
power_in (Up card) = Up card
power_in (Off budget store) = Off budget (durable_state_in_store (state_of store))

-- the heap of a card that is up rests, and the journal of one that is down is good
abbrev IsGood : ScriptState → Type 0
IsGood (Up card) = IsResting card.memory.heap
IsGood (Off budget store) = IsGoodLog store.words

same_kept : (heap : HeapView) (store : FuseStoreValue) → IsStoreOfHeap heap store → durable_state_in_store (state_of store) ≡ durable_rest heap
same_kept heap store h = λ i. record {
  durable = h.durable i;
  laid = if_laid (recovered_of store.words) h.laid i;
  down = h.down i;
  passed = h.passed i;
  refusals = h.refusals i;
  size = h.size i;
}

kept_held : (s : ScriptState) (store : FuseStoreValue) → IsSessionStore s store → durable_state_in_store (state_of store) ≡ durable_state (power_in s)
kept_held (Up card) store h = same_kept card.memory.heap store h
kept_held (Off budget held) store h = ap (λ (f : FuseStoreValue). durable_state_in_store (state_of f)) h

store_held : (s : ScriptState) (store : FuseStoreValue) → IsGood s → IsSessionStore s store → IsStoreOf (power_in s) (state_of store)
store_held (Up card) store good h = record { good = h.good; kept = same_kept card.memory.heap store h }
store_held (Off budget held) store good h = record {
  good = subst (λ (f : FuseStoreValue). IsGoodLog f.words) (sym h) good;
  kept = ap (λ (f : FuseStoreValue). durable_state_in_store (state_of f)) h;
}

-- a power up over a store
started : (budget : ℕ) (before : FuseStoreValue) (t : ScriptState) → PowersUp budget before t → Starts budget (state_of before) (power_in t) × IsGood t
started budget before (Up card) h =
    let up = starts_up budget (state_of before) before.passed card h.made h.heap h.reset h.budget in
    (up, rests_so (durable_state_in_store (state_of before)) budget card up.1)
started budget before (Off b after) h =
    let off = starts_off budget (state_of before) (state_of after) h.0.0 h.0.1.still h.0.1.is_down (h.0.1.was_up refl) in ((off.0, off.1, h.1), h.0.1.still.good)

-- or a fault was found
start_fails_so : (fault : Fault) (before after : FuseStoreValue) → FailsUp before fault after → FailsToStart fault (state_of before) (state_of after)
start_fails_so fault before after h = fault_starts (λ (f : FuseStoreValue). f.words) (λ f. f.down) (λ f. f.passed) (λ f. f.refusals) (with_power before) after
    (state_of before) fault refl refl refl h.0 h.1

reset_by : (s : PowerState) (store : StoreState) (t : PowerState) → durable_state_in_store store ≡ durable_state s → Starts (budget_of s) store t → IsReset s t
reset_by s store (Up card) same h = subst (λ k. IsPoweredUp k (budget_of s) card) same h.1
reset_by s store (Off b k) same h = (h.1 ∙ ap (with_refusal k.passed) same, h.2)

-- the budget is the one that a session sees
same_budget : (s : ScriptState) → budget_of s ≡ budget_of (power_in s)
same_budget (Up card) = refl
same_budget (Off budget store) = refl

-- a reset
reset_so : (s t : ScriptState) → IsGood s → IsResetOf s t → IsReset (power_in s) (power_in t) × IsGood t
reset_so s t good h =
    let up = started (budget_of s) h.0 t h.2 in
    (reset_by (power_in s) (state_of h.0) (power_in t) (kept_held s h.0 h.1) (subst (λ n. Starts n (state_of h.0) (power_in t)) (same_budget s) up.0), up.1)

-- arming the fuse leaves a card as it is but for that
same_armed : (k : ℕ) (s : ScriptState) → IsGood s → power_in (with_fuse k s) ≡ armed k (power_in s)
same_armed k (Up card) rest =
    let heap = card.memory.heap in
    let fuse = with_fuse_at (saturating_count heap.passed k) heap.refusals in
    ap (λ (v : HeapView). Up (record card { memory = record card.memory { heap = v } }))
    (sym (ap (λ (v : HeapView). record v { refusals = fuse }) rest ∙ (λ i. heap_at_rest (sym (ap (λ (v : HeapView). v.durable) rest) i) heap.passed fuse heap.size)))
same_armed k (Off budget store) good = refl

good_armed : (k : ℕ) (s : ScriptState) → IsGood s → IsGood (with_fuse k s)
good_armed k (Up card) rest = refl
good_armed k (Off budget store) good = good

-- planning a fault leaves the heap of a card and the store as they are
same_planned : (fault : Option PlannedFault) (s : ScriptState) → power_in (planned fault s) ≡ planned fault (power_in s)
same_planned fault (Up card) = refl
same_planned fault (Off budget store) = refl

good_planned : (fault : Option PlannedFault) (s : ScriptState) → IsGood s → IsGood (planned fault s)
good_planned fault (Up card) rest = rest
good_planned fault (Off budget store) good = good

-- a command is answered as in a session
command_so : (s : ScriptState) (bytes : List ℕ) (reply : Reply) (t : ScriptState) → IsGood s → AnswersCommandOver fuse_kind s bytes reply t
    → AnswersCommand (power_in s) bytes reply (power_in t) × IsGood t
command_so (Up card) bytes (Response r) (Up next) rest h = (h, leave_at_rest bytes card (with_response next r) next.memory rest h)
command_so (Up card) bytes Down (Off b store) rest h = (
  (h.0, cut_kept (TearLeaves (exchange bytes card) card.memory) card.memory.heap h.1.0 store (ap (λ (v : HeapView). v.down) rest) h.1.1 h.1.2),
  h.1.2.good,
)
command_so (Off b store) bytes Down (Off d next) good h = (
  (ap (λ (f : FuseStoreValue). durable_state_in_store (state_of f)) h.0, h.1),
  subst (λ (f : FuseStoreValue). IsGoodLog f.words) (sym h.0) good,
)
command_so s bytes reply t good none = absurd none

-- so is a request
served_so : (request : Request) (reply : Reply) (s t : ScriptState) → IsGood s → ServesOver fuse_kind s request reply t
    → Serves (power_in s) request reply (power_in t) × IsGood t
served_so (Command bytes) reply s t good h = command_so s bytes reply t good h
served_so Reset Ready s (Up card) good h = reset_so s (Up card) good h
served_so Reset Down s (Off b store) good h = reset_so s (Off b store) good h
served_so Reset reply s t good none = absurd none
served_so (ArmFuse k) reply s t good h = ((h.0, ap power_in h.1 ∙ same_armed k s good), subst IsGood (sym h.1) (good_armed k s good))
served_so (PlanFault fault) reply s t good h = ((h.0, ap power_in h.1 ∙ same_planned fault s), subst IsGood (sym h.1) (good_planned fault s good))

-- a line, from one standing to the other
one_line : (form : Form) (s u : ScriptState) (first : List ℕ) → IsGood s → IsWrittenFor form s u first
    → ((replies : List Reply) × SessionRun (power_in s) (asked_by_form form) replies (power_in u) × (first ≡ text_of_replies replies)) × (form ≢ Bad) × IsGood u
one_line Skipped s u first good h = (([], ap power_in h.0, h.1), (λ e. cc e), subst IsGood (sym h.0) good)
one_line (Asks request) s u first good h =
    let so = served_so request h.0 s u good h.1 in
    ((h.0 ∷ [], (power_in u, so.0, refl), h.2 ∙ sym (append-nil (text_of_reply h.0))), (λ e. cc e), so.1)
one_line Bad s u first good h = absurd h

-- some lines
all_lines : (all : List (List ℕ)) (s t : ScriptState) (text : List ℕ) → IsGood s → AreCarriedOut all s t text
    → (replies : List Reply) × SessionRun (power_in s) (asked_by all) replies (power_in t) × (text ≡ text_of_replies replies) × HaveForm all × IsGood t
all_lines [] s t text good h = ([], ap power_in h.0, h.1, tt, subst IsGood (sym h.0) good)
all_lines (line ∷ more) s t text good h =
    let one = one_line (form_of line) s h.2 h.0 good h.4 in
    let first = one.0 in
    let rest = all_lines more h.2 t h.1 one.2 h.5 in (
      first.0 ++ rest.0,
      run_then (asked_by_form (form_of line)) (asked_by more) first.0 rest.0 (power_in s) (power_in h.2) (power_in t) first.1 rest.1,
      h.3 ∙ (λ i. first.2 i ++ rest.2 i) ∙ sym (flat_map-append text_of_reply first.0 rest.0),
      (one.1, rest.3),
      rest.4,
    )

-- ---- whole scripts

-- lines that were carried out from a power up on are served
served : (budget : ℕ) (before : FuseStoreValue) (carried : List (List ℕ)) (s t : ScriptState) (text : List ℕ) (leads : PowerState → Type 0) → PowersUp budget before s
    → AreCarriedOut carried s t text → (IsGood t → leads (power_in t)) → AreSessionsOfScript budget before carried text leads
served budget before carried s t text leads up h ends =
    let first = started budget before s up in
    let ran = all_lines carried s t text first.1 h in
    (power_in t, (ran.0, (power_in s, first.0, ran.1), ran.2, ran.3), ends ran.4)

-- a reset that finds a fault leaves what was there, with the power on
reset_fails : (fault : Fault) (s t : ScriptState) (after : FuseStoreValue) → IsGood s → FailsReset fault s t → IsSessionStore t after
    → FailsToReset fault (power_in s) (state_of after)
reset_fails fault s t after good h holds =
    let left : after ≡ h.1 = subst (λ (v : ScriptState). IsSessionStore v after) h.4 holds in
    subst (λ (f : FuseStoreValue). FailsToReset fault (power_in s) (state_of f)) (sym left)
    (start_fails fault (power_in s) (state_of h.0) (state_of h.1) (store_held s h.0 good h.2) (start_fails_so fault h.0 h.1 h.3))

-- one more line after some that were carried out
one_more : (all : List (List ℕ)) (line : List ℕ) (s u t : ScriptState) (whole answer : List ℕ) → AreCarriedOut all s u whole
    → IsWrittenFor (form_of line) u t answer → AreCarriedOut (all ++ line ∷ []) s t (whole ++ answer)
one_more [] line s u t whole answer h written =
    (answer, [], t, ap (λ l. l ++ answer) h.1 ∙ sym (append-nil answer), subst (λ v. IsWrittenFor (form_of line) v t answer) h.0 written, (refl, refl))
one_more (first ∷ more) line s u t whole answer h written =
    (h.0, h.1 ++ answer, h.2, ap (λ l. l ++ answer) h.3 ∙ append_assoc h.0 h.1 answer, h.4, one_more more line h.2 u t h.1 answer h.5 written)

longer_cut : (whole answer part : List ℕ) → IsCutOf answer part → IsCutOf (whole ++ answer) (whole ++ part)
longer_cut whole answer part cut = (cut.0, ap (λ l. whole ++ l) cut.1 ∙ sym (append_assoc whole part cut.0), cut.2)

pub are_sessions : AreSessions
are_sessions budget (Ok done) before after at_end script text (inl fails) = absurd fails
are_sessions budget (Ok done) before after at_end script text (inr h) = served budget before (lines script) h.0 h.1 text (Leaves after) h.2 h.4.1
    (λ good. store_held h.1 after good h.3)
are_sessions budget (Err TooLong) before after at_end script text (inl fails) = absurd fails
are_sessions budget (Err TooLong) before after at_end script text (inr h) = served budget before (lines_so_far false script) h.0 h.1 text (Leaves after) h.2 h.4.1
    (λ good. store_held h.1 after good h.3)
are_sessions budget (Err ReadFailed) before after at_end script text (inl fails) = absurd fails
are_sessions budget (Err ReadFailed) before after at_end script text (inr h) = served budget before (lines_so_far false script) h.0 h.1 text (Leaves after) h.2 h.4.1
    (λ good. store_held h.1 after good h.3)
are_sessions budget (Err (BadLine n)) before after at_end script text (inl fails) = absurd fails
are_sessions budget (Err (BadLine n)) before after at_end script text (inr h) =
    let at = h.4 in
    (at.0, at.1, (at.2, at.3), at.5, at.4, served budget before at.0 h.0 h.1 text (Leaves after) h.2 at.6 (λ good. store_held h.1 after good h.3))
are_sessions budget (Err (PowerFault fault)) before after at_end script text (inl fails) = inl (start_fails_so fault before after fails.0, fails.2)
are_sessions budget (Err (PowerFault fault)) before after at_end script text (inr h) =
    let at = h.4 in
    let stops = at.5 in
    inr (
      at.0,
      at.1,
      (at.2, at.3),
      at.4,
      served budget before at.0 h.0 stops.0 text (λ last. FailsToReset fault last (state_of after)) h.2 stops.1
          (λ good. reset_fails fault stops.0 h.1 after good stops.2 h.3),
    )
are_sessions budget (Err WriteFailed) before after at_end script text (inl fails) = absurd fails
are_sessions budget (Err WriteFailed) before after at_end script text (inr h) =
    let at = h.4 in
    let stops = at.4 in (
      at.0,
      at.1,
      (at.2, at.3),
      (
        stops.0 ++ stops.1,
        subst (IsCutOf (stops.0 ++ stops.1)) (sym stops.4) (longer_cut stops.0 stops.1 stops.2 stops.7),
        served budget before (at.0 ++ at.1 ∷ []) h.0 h.1 (stops.0 ++ stops.1) (Leaves after) h.2 (one_more at.0 at.1 h.0 stops.3 h.1 stops.0 stops.1 stops.5 stops.6)
            (λ good. store_held h.1 after good h.3),
      ),
    )

pub are_whole_sessions : AreWholeSessions
are_whole_sessions budget before after at_end script text ends none =
    let session : AreSessionsOfScript budget before (lines script) text (Leaves after) = are_sessions budget (Ok tt) before after at_end script text ends in
    let ran = session.1 in
    (ran.0, are_whole budget (state_of before) (state_of after) (asked_by (lines script)) ran.0 session.0 ran.1 session.2 none, ran.2)

-- ---- commands are of bytes

all_bytes : (bytes : List ℕ) → ((i : ℕ) → slice_index bytes i < 256) → AreBytes bytes
all_bytes bytes are = λ k d inside. subst (λ b. b < 256) (get_or_default bytes k 0 d inside) (are k)

form_bytes : (form : Form) → ((bytes : List ℕ) → form ≡ Asks (Command bytes) → AreBytes bytes) → AreOfBytes (asked_by_form form)
form_bytes Skipped are = tt
form_bytes (Asks (Command bytes)) are = (are bytes refl, tt)
form_bytes (Asks Reset) are = (tt, tt)
form_bytes (Asks (ArmFuse k)) are = (tt, tt)
form_bytes (Asks (PlanFault fault)) are = (tt, tt)
form_bytes Bad are = tt

bytes_then : (requests more : List Request) → AreOfBytes requests → AreOfBytes more → AreOfBytes (requests ++ more)
bytes_then [] more are rest = rest
bytes_then (request ∷ requests) more are rest = (are.0, bytes_then requests more are.1 rest)

pub ask_bytes : AskBytes
ask_bytes [] = tt
ask_bytes (line ∷ more) = bytes_then (asked_by_form (form_of line)) (asked_by more)
    (form_bytes (form_of line) (λ bytes is. all_bytes bytes (command_bytes line bytes (form_command line bytes is)))) (ask_bytes more)

-- ---- scripts end as sessions

abbrev IsEndedBy : ℕ → Result Unit ScriptFault → FuseStoreValue → FuseStoreValue → Type 0
IsEndedBy budget result before after = (requests : List Request) × (ended : Result (List Reply) SessionFault) × AreOfBytes requests
    × IsSameEnd result ended × SessionEnds budget ended (state_of before) requests (state_of after)

-- all that these lines asked was served
abbrev IsServedTo : ℕ → FuseStoreValue → FuseStoreValue → Type 0
IsServedTo budget before after = (requests : List Request) × (replies : List Reply) × AreOfBytes requests
    × SessionEnds budget (Ok replies) (state_of before) requests (state_of after)

served_to : (budget : ℕ) (before after : FuseStoreValue) (carried : List (List ℕ)) (text : List ℕ)
    → AreSessionsOfScript budget before carried text (Leaves after) → IsServedTo budget before after
served_to budget before after carried text s = let ran = s.1 in (asked_by carried, ran.0, ask_bytes carried, (s.0, ran.1, s.2))

-- or the reset after them found a fault
stopped_at : (budget : ℕ) (fault : Fault) (before : StoreState) (requests : List Request) (replies : List Reply) (last : PowerState) (after : StoreState)
    → IsSession budget before requests replies last → FailsToReset fault last after → FailsAtReset budget fault before (requests ++ Reset ∷ []) after
stopped_at budget fault before requests replies last after session fails =
    let all = requests ++ Reset ∷ [] in
    let inside : length requests < length all = omega (arith, length-append requests (Reset ∷ [])) in (
      length requests,
      replies,
      last,
      slice_get-get_or all (length requests) Reset inside ∙ ap Some (get_or_at requests Reset [] Reset (length requests) refl),
      subst (λ l. IsSession budget before l replies last) (sym (take_at requests (Reset ∷ []) (length requests) refl)) session,
      fails,
    )

pub end_as_sessions : EndAsSessions
end_as_sessions budget result before after at_end script text ends = ended result (are_sessions budget result before after at_end script text ends)
  where
    done : (r : Result Unit ScriptFault) → ((replies : List Reply) → IsSameEnd r (Ok replies)) → IsServedTo budget before after → IsEndedBy budget r before after
    done r same s = (s.0, Ok s.1, s.2, same s.1, s.3)

    ended : (r : Result Unit ScriptFault) → EndsAsSession budget r before after at_end script text → IsEndedBy budget r before after
    ended (Ok u) s = done (Ok u) (λ replies. (replies, refl)) (served_to budget before after (lines script) text s)
    ended (Err TooLong) s = done (Err TooLong) (λ replies. (replies, refl)) (served_to budget before after (lines_so_far false script) text s)
    ended (Err ReadFailed) s = done (Err ReadFailed) (λ replies. (replies, refl)) (served_to budget before after (lines_so_far false script) text s)
    ended (Err (BadLine n)) s = done (Err (BadLine n)) (λ replies. (replies, refl)) (served_to budget before after s.0 text s.5)
    ended (Err WriteFailed) s =
        let cut = s.3 in done (Err WriteFailed) (λ replies. (replies, refl)) (served_to budget before after (s.0 ++ s.1 ∷ []) cut.0 cut.2)
    ended (Err (PowerFault fault)) (inl start) = ([], Err (NotPoweredUp fault), tt, refl, inl start.0)
    ended (Err (PowerFault fault)) (inr stops) =
        let s = stops.4 in
        let ran = s.1 in (
          asked_by stops.0 ++ Reset ∷ [],
          Err (NotPoweredUp fault),
          bytes_then (asked_by stops.0) (Reset ∷ []) (ask_bytes stops.0) (tt, tt),
          refl,
          inr (stopped_at budget fault (state_of before) (asked_by stops.0) ran.0 s.0 (state_of after) ran.1 s.2),
        )
