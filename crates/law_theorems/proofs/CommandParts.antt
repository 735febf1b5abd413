-- What a command is made of.
use Rattle.std.proofs.Common.{◌≡◌, ℕ, ◌+◌, ◌⊎◌, true, false, inl, inr, List, [], ◌∷◌, ◌++◌, refl, ◌∙◌, ap, subst}
use Rattle.std.proofs.lemmas.Bool.{both_ways}
use Rattle.std.proofs.lemmas.List.{append_assoc}
use Rattle.jc_heap.specs.Heap.{HeapView}
use Rattle.jc_heap.specs.Moves.{Move, AddPackage, Begin, Commit, Abort}
use Rattle.jc_frames.specs.Frames.{Frames, Next, GoesOn, Throws}
use Rattle.jc_frames.specs.Frames as frames
use Rattle.jc_memory.specs.Programs.{Program, Finish, Perform, Choose, Either}
use Rattle.jc_memory.specs.Reading.{AllDue, AllEffectsDue, HasTracePrefix}
use Rattle.jc_memory.specs.State.{MemoryState, Effect, HeapMove, apply_effect, apply_effects}
use Rattle.jc_memory.proofs.ProgramLemmas.{due_before}
use Rattle.jc_linker.specs.Values.{Packages}
use Rattle.jc_platform.specs.Tokens.{Tokens}
use Rattle.jc_interp.specs.Attacks.{attacked, step_from}
use Rattle.jc_interp.specs.Step.{machine_step}
use Rattle.jc_card.specs.Answers.{exchange, run_code}
use Rattle.jc_card.specs.Card.{CardState}
use Rattle.jc_card.specs.Dispatching.{create_applet, dispatch}
use Rattle.jc_card.specs.Loading.{LoadResponse, end_load}
use Rattle.jc_card.specs.State.Power.{Up}
use Rattle.law_code.proofs.AtomicEffects.{due_begun}
use Rattle.law_soundness.specs.MachineLaws.Commands.{IsServed}
use Rattle.law_soundness.specs.MachineLaws.CommandParts.{IsByEnvironment, IsDispatched, Stops, Does, Chooses, OneOf, IsOfRun}
use Rattle.law_soundness.specs.MachineLaws.OwnerSwitches.{IsOfStep}
use Rattle.law_soundness.proofs.Causes.{causes}
use Rattle.law_soundness.proofs.CommandLaws.{commands_are_sound}
use Rattle.law_soundness.proofs.CommandParts.{dispatched_apart, dispatched_more, nothing_more}
use Rattle.law_theorems.specs.Cards.{IsOwnCard}
use Rattle.law_theorems.specs.Outcomes.{AddNone, ComesWithin, memory_at}
use Rattle.law_soundness.specs.LoadedPackages.{AreBytes}
use Rattle.law_soundness.proofs.Phases.{Good}
use Rattle.law_theorems.proofs.Commands.{IsAnswered, creates_good, dispatched_good, runs_good}
use Rattle.law_theorems.proofs.Sessions.{linked_known}
use Rattle.law_theorems.specs.SessionTheorems.Commands.{CommandsRunCode}
use Rattle.law_theorems.specs.SessionTheorems.References.{RunsFrom}
use Rattle.law_theorems.proofs.CardsAtRest.{comes_own, comes_rests}
use Rattle.law_theorems.proofs.Exchanges.{exchanged, load_ended}
use Rattle.law_theorems.proofs.Prefixes.{due_after, front}
use Rattle.law_theorems.proofs.ServedEffects.{AddsPackage, IsFine, commands_fine}

-- ---- a command is dispatched

-- what the runtime environment does alone
alone : {A : Type 0} (p : Packages) (d : Program A) (m : MemoryState) → AllDue IsByEnvironment d m → IsDispatched p (λ a n. Unit {0}) d m
alone p (Finish a) m due = Stops a m tt
alone p (Perform e rest) m due = Does e rest m due.0 (alone p rest (apply_effect e m) due.1)
alone p (Choose choose) m due = Chooses choose m (λ r new. alone p (choose r) m (due r new))
alone p (Either x y) m due = OneOf x y m (alone p x m due.0) (alone p y m due.1)

of_good : (p : Packages) (d : Program LoadResponse) (m : MemoryState) → Good p d m (IsAnswered p) → IsDispatched p (λ a n. Unit {0}) d m
of_good p d m good = dispatched_more p (IsAnswered p) (λ a n. Unit {0}) (λ a n so. tt) d m good.runs

dispatched : (t : Tokens) (card : CardState) → IsOwnCard t card → card.memory.heap.begun ≡ false → (bytes : List ℕ) → AreBytes bytes
    → IsDispatched card.packages (λ a n. Unit {0}) (exchange bytes card) card.memory
dispatched t card own shut bytes are =
    let p = card.packages in
    let known = linked_known p own.linked in
    exchanged (λ d. IsDispatched p (λ a n. Unit {0}) d card.memory) card (λ a. Stops a card.memory tt)
    (λ a b. OneOf (Finish a) (Finish b) card.memory (Stops a card.memory tt) (Stops b card.memory tt))
    (alone p (end_load card) card.memory (load_ended IsByEnvironment card (λ components arrays image. shut)))
    (λ limit locals code. of_good p (run_code limit locals code card) card.memory (runs_good commands_are_sound t card own known limit locals code))
    (λ content. of_good p (create_applet content card) card.memory (creates_good commands_are_sound t card own known content)) bytes
    (λ c is. of_good p (dispatch bytes c card) card.memory (dispatched_good commands_are_sound t card own known bytes c))

-- ---- each effect

each_effect : (t : Tokens) (card : CardState) (bytes : List ℕ) (es : List Effect) (e : Effect) → ComesWithin t card bytes (es ++ (e ∷ []))
    → IsByEnvironment e (memory_at card es) ⊎ IsOfRun card.packages card.memory es e
each_effect t card bytes es e comes =
    dispatched_apart card.packages (exchange bytes card) card.memory es e
    (dispatched t card (comes_own t (Up card) comes.comes) (ap (λ (v : HeapView). v.begun) (comes_rests t (Up card) comes.comes)) bytes comes.are) comes.begins

asked : (t : Tokens) (card : CardState) (bytes : List ℕ) (es : List Effect) → ComesWithin t card bytes (es ++ (HeapMove Commit ∷ []))
    → IsOfRun card.packages card.memory es (HeapMove Commit)
asked t card bytes es comes = elim (each_effect t card bytes es (HeapMove Commit) comes) [ inl own ↦ absurd own | inr code ↦ code ]

aborts_alone : (move : Move) (m : MemoryState) → IsByEnvironment (HeapMove move) m → m.heap.begun ≡ true → move ≡ Abort
aborts_alone Begin m own begun = absurd (both_ways m.heap.begun own begun)
aborts_alone (AddPackage components arrays image) m own begun = absurd (both_ways m.heap.begun own begun)
aborts_alone Abort m own begun = refl
aborts_alone _ m own begun = absurd own

left_open : (t : Tokens) (card : CardState) (bytes : List ℕ) (es : List Effect) (move : Move) → ComesWithin t card bytes (es ++ (HeapMove move ∷ []))
    → (memory_at card es).heap.begun ≡ true → (move ≡ Abort) ⊎ IsOfRun card.packages card.memory es (HeapMove move)
left_open t card bytes es move comes begun = elim (each_effect t card bytes es (HeapMove move) comes) [
  | inl own ↦ inl (aborts_alone move (memory_at card es) own begun)
  | inr code ↦ inr code
]

-- ---- a run is within a command that adds no package

-- what was served added none
served_none : (p : Packages) (es : List Effect) (m : MemoryState) → AllEffectsDue (IsServed p) es m → AddNone es
served_none p [] m due = tt
served_none p (HeapMove (AddPackage components arrays image) ∷ es) m due = absurd due.0
served_none p (HeapMove move ∷ es) m due = served_none p es (apply_effect (HeapMove move) m) due.1
served_none p (e ∷ es) m due = served_none p es (apply_effect e m) due.1

-- what a step does adds none
step_none : (lent : List ℕ) (p : Packages) (s : Frames) (m : MemoryState) (e : Effect) (n : MemoryState) → IsOfStep lent p s m e n → AddsPackage e n → ⊥
step_none lent p s m (HeapMove (AddPackage components arrays image)) n of_step adds = of_step
step_none lent p s m (HeapMove move) n of_step adds = adds
step_none lent p s m e n of_step adds = adds

-- after a fault, what is done is of a step from the frames that it left
stepped : (lent : List ℕ) (p : Packages) (next : Next Frames) (m : MemoryState) (es : List Effect) (e : Effect)
    → HasTracePrefix (step_from next lent p m) m (es ++ (e ∷ [])) → (s : Frames) × HasTracePrefix (machine_step lent p s m) m (es ++ (e ∷ []))
stepped lent p (GoesOn s) m es e begins = (s, begins)
stepped lent p (Throws x s) m es e begins = absurd (nothing_more p _ m es e begins)
stepped lent p (frames.Ends o) m es e begins = absurd (nothing_more p _ m es e begins)

module _ (t : Tokens) (card : CardState) (bytes : List ℕ) (es : List Effect) (e : Effect) (comes : ComesWithin t card bytes (es ++ (e ∷ [])))
    (r : IsOfRun card.packages card.memory es e) where
  abbrev start : MemoryState
  start = memory_at card r.before

  abbrev now : MemoryState
  now = apply_effects r.ran start

  are_all : es ++ (e ∷ []) ≡ r.before ++ (r.ran ++ (r.during ++ (e ∷ [])))
  are_all = ap (λ (l : List Effect). l ++ (e ∷ [])) r.are
      ∙ append_assoc r.before (r.ran ++ r.during) (e ∷ [])
      ∙ ap (λ (l : List Effect). r.before ++ l) (append_assoc r.ran r.during (e ∷ []))

  -- with what is due of all of them, what is due after those of the steps that were taken
  due_here : (P : Effect → MemoryState → Type 0) → AllEffectsDue P (es ++ (e ∷ [])) card.memory
      → AllEffectsDue P r.before card.memory × AllEffectsDue P (r.during ++ (e ∷ [])) now
  due_here P all =
      let due : AllEffectsDue P (r.before ++ (r.ran ++ (r.during ++ (e ∷ [])))) card.memory = subst (λ l. AllEffectsDue P l card.memory) are_all all in (
        due_before P r.before (r.ran ++ (r.during ++ (e ∷ []))) card.memory due,
        due_after P r.ran (r.during ++ (e ∷ [])) start (due_after P r.before (r.ran ++ (r.during ++ (e ∷ []))) card.memory due),
      )

  none_before : IsFine card.packages (exchange bytes card) card.memory → AddNone r.before
  none_before (inl served) = served_none card.packages r.before card.memory
      (due_here (IsServed card.packages) (due_begun (IsServed card.packages) (exchange bytes card) card.memory (es ++ (e ∷ [])) served comes.begins)).0
  none_before (inr adds) =
      let last = due_after AddsPackage r.during (e ∷ []) now
      (due_here AddsPackage (due_begun AddsPackage (exchange bytes card) card.memory (es ++ (e ∷ [])) adds comes.begins)).1 in
      let found = stepped r.lent card.packages (attacked r.attack r.left r.lent card.packages r.last) now r.during e r.within in
      let step = due_after (IsOfStep r.lent card.packages found.0 now) r.during (e ∷ []) now (due_begun (IsOfStep r.lent card.packages found.0 now)
      (machine_step r.lent card.packages found.0 now) now (r.during ++ (e ∷ [])) (causes.each r.lent card.packages found.0 now) found.1) in
      absurd (step_none r.lent card.packages found.0 now e (apply_effects r.during now) step.0 last.0)

  is_run : RunsFrom t card bytes r.before r.taken r.lent r.first r.last now
  is_run = record {
    comes = record {
      comes = comes.comes;
      are = comes.are;
      begins = front (exchange bytes card) card.memory r.before (r.ran ++ (r.during ++ (e ∷ [])))
          (subst (HasTracePrefix (exchange bytes card) card.memory) are_all comes.begins);
    };
    same = none_before (commands_fine t card (comes_own t (Up card) comes.comes) bytes comes.are);
    begins = r.begins;
    attack = r.attack;
    left = r.taken + r.left;
    steps = r.steps;
  }

pub commands_run_code : CommandsRunCode
commands_run_code = record { each = each_effect; commits = asked; left = left_open; runs = is_run }
