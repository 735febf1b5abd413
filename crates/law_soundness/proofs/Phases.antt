-- What the runtime environment does with an applet leaves a memory sound.
use Rattle.std.proofs.Common.{◌≡◌, ℕ, ◌+◌, ◌-◌, ◌≤◌, ◌⊎◌, ◌&&◌, Bool, true, false, inl, inr, List, [], length, map, Option, Some, None, refl, sym, ◌∙◌, ap, subst, arith}
use Rattle.std.proofs.Common.{if◌then◌else◌}
use Rattle.std.specs.Prelude.{is_some, replicate}
use Rattle.std.proofs.lemmas.Bool.{and_parts, both_ways, false≢true, leb-true, true≢false}
use Rattle.std.proofs.lemmas.List.{length-append, length-replicate}
use Rattle.std.proofs.lemmas.Option.{cond_some, option_and_then_some}
use Rattle.jc_transient.specs.declared.cell.ClearEvent.{ClearEvent}
use Rattle.jc_transient.specs.Cell.{number_of}
use Rattle.jc_transient.specs.State.{buffer_size}
use Rattle.jc_heap.specs.declared.object.Facts.{Facts}
use Rattle.jc_heap.specs.Heap.{HeapState, facts}
use Rattle.jc_heap.specs.Moves.{Abort}
use Rattle.jc_frames.specs.declared.cell.Cell.{Cell}
use Rattle.jc_frames.specs.declared.method.Origin.{Origin}
use Rattle.jc_frames.specs.Frames.{Frames}
use Rattle.jc_transient.specs.declared.owner.Owner.{Owner}
use Rattle.jc_transient.specs.declared.owner.Owner.TheVariants.{Runtime}
use Rattle.jc_transient.specs.Owners.{owner_number}
use Rattle.jc_memory.specs.State.{MemoryState, Effect, HeapMove, SetRegisters, apply_effect}
use Rattle.jc_memory.specs.Programs.{Program, Finish, Perform, bind}
use Rattle.jc_memory.specs.Cells.{header_at, cells_effect, cells_effect_in}
use Rattle.jc_memory.specs.Reading.{AllDue, AllResults}
use Rattle.jc_memory.proofs.ProgramLemmas.{due_bind, each_bind, each_did, each_more}
use Rattle.jc_frames.specs.declared.header.Header.{Header}
use Rattle.jc_linker.specs.declared.target.Method.{Method}
use Rattle.jc_linker.specs.declared.target.Method.TheVariants.{Code, Native}
use Rattle.jc_linker.specs.Values.{Packages}
use Rattle.jc_platform.specs.declared.names.PlatformMethod.{PlatformMethod}
use Rattle.jc_instructions.specs.Enter.{first_frames_of, first_frames_with, first_frames}
use Rattle.jc_interp.specs.Run.{run_methods}
use Rattle.jc_interp.specs.declared.attacks.Budget.{Budget}
use Rattle.jc_dispatch.specs.Buffer.{apdu_buffer, buffer_fill, buffer_fill_in, is_buffer, is_of_bytes, padded_bytes}
use Rattle.jc_dispatch.specs.Phase.{then_with, applet_method_call, close, abort_if_open, method_named, registers_idle, method_run, method_run_from, run_method}
use Rattle.jc_dispatch.specs.Phase.{registers_for, registers_released}
use Rattle.jc_api.proofs.Reaching.{header_is}
use Rattle.law_soundness.specs.MemoryLaws.Environment.{HasEnvironment}
use Rattle.law_soundness.specs.MemoryLaws.Fit.{FitsFill, FitsTurn, IsFit}
use Rattle.law_soundness.specs.MemoryLaws.State.{IsSoundMemory, IsSteady, is_open, is_owner_up_to, most_owner}
use Rattle.law_soundness.specs.LivingReferences.{AreLivingCallers, AreLivingCells, IsLivingFrame}
use Rattle.law_soundness.specs.Machines.{IsSoundMachine, KnowOwners}
use Rattle.law_soundness.proofs.LivingReferences.{first_living}
use Rattle.law_soundness.specs.MachineLaws.Soundness.{AreKnown, RunsAreSound}
use Rattle.law_soundness.specs.MachineLaws.Commands.{IsServed}
use Rattle.law_soundness.specs.MachineLaws.CommandParts.{IsByEnvironment, IsDispatched, Stops, Does}
use Rattle.law_soundness.proofs.CommandParts.{dispatched_more, dispatched_run, dispatched_then}
use Rattle.law_soundness.proofs.CommandEffects.{StandsBehind, all_served, behind_both, behind_each, behind_itself, behind_one, same_fits}
use Rattle.law_soundness.proofs.Transients.{numbers_fit}

-- all of it is served, however it ends this is so, and it is what the runtime environment does and runs of code
pub record Good (p : Packages) {A : Type 0} (d : Program A) (m : MemoryState) (Q : A → MemoryState → Type 0) : Type 0 where
  pub due : AllDue (IsServed p) d m
  pub each : AllResults d m Q
  pub runs : IsDispatched p Q d m

pub good_bind : (p : Packages) {A B : Type 0} (Q : B → MemoryState → Type 0) (more : A → MemoryState → Program B) (d : Program A) (m : MemoryState)
    → Good p d m (λ a v. Good p (more a v) v Q) → Good p (bind d m more) m Q
good_bind p Q more d m g = record {
  due = due_bind (IsServed p) more d m g.due (each_more (λ a v. Good p (more a v) v Q) (λ a v. AllDue (IsServed p) (more a v) v) (λ a v x. x.due) d m g.each);
  each = each_bind Q more d m (each_more (λ a v. Good p (more a v) v Q) (λ a v. AllResults (more a v) v Q) (λ a v x. x.each) d m g.each);
  runs = dispatched_then p (λ a v. Good p (more a v) v Q) Q more (λ a v x. x.runs) d m g.runs;
}

pub good_then : (p : Packages) {A : Type 0} (Q : A → MemoryState → Type 0) (e : Effect) (rest : Program A) (m : MemoryState) → IsServed p e m
    → IsByEnvironment e m → Good p rest (apply_effect e m) Q → Good p (Perform e rest) m Q
good_then p Q e rest m is own g = record { due = (is, g.due); each = g.each; runs = Does e rest m own g.runs }

pub good_more : (p : Packages) {A : Type 0} (P Q : A → MemoryState → Type 0) (d : Program A) (m : MemoryState) → Good p d m P
    → ((a : A) (v : MemoryState) → P a v → Q a v) → Good p d m Q
good_more p P Q d m g more = record { due = g.due; each = each_more P Q more d m g.each; runs = dispatched_more p P Q more d m g.runs }

pub good_gives : (p : Packages) {A : Type 0} (Q : A → MemoryState → Type 0) (a : A) (m : MemoryState) → Q a m → Good p (Finish a) m Q
good_gives p Q a m q = record { due = tt; each = q; runs = Stops a m q }

-- ---- a method runs

-- a sound memory in which code may run for an owner
pub record MayRun (p : Packages) (m : MemoryState) (owner : Owner) : Type 0 where
  pub sound : IsSoundMemory p m
  pub environment : HasEnvironment p m
  pub steady : IsSteady m
  pub known : is_owner_up_to (most_owner m) m.heap.now (owner_number owner) ≡ true
  pub other : owner_number owner ≡ 0 → ⊥

-- how a run leaves it: code runs for the runtime environment, or for whom it ran before
pub record HasRun (p : Packages) (m n : MemoryState) : Type 0 where
  pub behind : StandsBehind p m n
  pub active : (n.registers.active ≡ Runtime) ⊎ (n.registers.active ≡ m.registers.active)

ran_itself : (p : Packages) (m : MemoryState) (owner : Owner) → MayRun p m owner → HasRun p m m
ran_itself p m owner may = record { behind = behind_itself p m may.sound may.environment; active = inr refl }

-- the frames of a method that nothing called, with arguments that are null or name an object
abbrev Begins : HeapState → Frames → Type 0
Begins g s = (s.callers ≡ []) × IsLivingFrame g s.current

begun_bare : (g : HeapState) (h : Header) (arguments : List Cell) (origin : Origin) (s : Frames) → AreLivingCells g arguments
    → first_frames_with h arguments origin ≡ Some s → Begins g s
begun_bare g h arguments origin s all is = subst (Begins g) (cond_some _ (first_frames h arguments origin) s is).1
    (refl, first_living g arguments h.locals h.limit h.place origin all)

begins_bare : (g : HeapState) (p : Packages) (number offset : ℕ) (arguments : List Cell) (s : Frames) → AreLivingCells g arguments
    → first_frames_of p number offset arguments ≡ Some s → Begins g s
unfolding first_frames_of
begins_bare g p number offset arguments s all is = option_and_then_some (λ h. first_frames_with h arguments
    (record { package_number = number; method = offset })) _ s is (λ h there made. begun_bare g h arguments _ s all made)

module _ (runs : RunsAreSound) (p : Packages) (known : AreKnown p) where
  turn_on : (m : MemoryState) (owner : Owner) → MayRun p m owner → FitsTurn m (registers_for owner m.registers)
  turn_on m owner may = record {
    active = may.known;
    leaves = λ one other. absurd (both_ways (is_open m.registers.installation) other one);
    home = may.sound.home;
    selected = may.sound.selected;
    opens = λ opened. opened;
  }

  turn_off : (m : MemoryState) → IsSoundMemory p m → FitsTurn m (registers_idle m.registers)
  turn_off m s = record {
    active = refl;
    leaves = λ one other. absurd (both_ways (is_open m.registers.installation) other one);
    home = s.home;
    selected = s.selected;
    opens = λ opened. opened;
  }

  from_good : (budget : Budget) (start : Option Frames) (owner : Owner) (m : MemoryState) → ((s : Frames) → start ≡ Some s → Begins m.heap.now s)
      → MayRun p m owner
      → Good p (method_run_from budget p start owner m) m (λ end n. HasRun p m n)
  from_good budget None owner m begins may = good_gives p _ _ m (ran_itself p m owner may)
  from_good budget (Some s) owner m begins may = good_then p _ (SetRegisters (registers_for owner m.registers)) _ m (inl (turn_on m owner may)) tt
      (good_bind p _ _ (run_methods budget p s v) v (record {
        due = all_served p (run_methods budget p s v) v fits;
        each = each_end;
        runs = dispatched_run p _ budget.attack budget.left [] s v
            (record { first = (begins s refl).0; living = (begins s refl).1; steady = machine.steady; owner = machine.code })
            (λ end n did. each_did _ (run_methods budget p s v) v n end each_end did);
      }))
    where
      v : MemoryState
      v = apply_effect (SetRegisters (registers_for owner m.registers)) m

      first : StandsBehind p m v
      first = behind_one p m (SetRegisters (registers_for owner m.registers)) (turn_on m owner may) may.sound may.environment

      machine : IsSoundMachine p s v
      machine = record {
        sound = first.sound;
        steady = record { counts = may.steady.counts; begun = may.steady.begun };
        callers = subst (λ c. KnowOwners c v) (sym (begins s refl).0) tt;
        environment = first.environment;
        code = λ home zero. may.other zero;
        living = record { current = (begins s refl).1; callers = subst (AreLivingCallers m.heap.now) (sym (begins s refl).0) tt };
      }

      fits : AllDue (IsFit p) (run_methods budget p s v) v
      fits = runs budget.attack budget.left [] p s v known machine

      each_end : AllResults (run_methods budget p s v) v
          (λ end w. Good p (Perform (SetRegisters (registers_idle w.registers)) (Finish end)) w (λ last n. HasRun p m n))
      each_end = each_more (λ end w. StandsBehind p m w) _ (λ end w b. good_then p _ (SetRegisters (registers_idle w.registers)) _ w (inl (turn_off w b.sound)) tt
          (good_gives p _ _ _ (record {
            behind = behind_both p m w _ b (behind_one p w (SetRegisters (registers_idle w.registers)) (turn_off w b.sound) b.sound b.environment);
            active = inl refl;
          }))) (run_methods budget p s v) v (behind_each p (run_methods budget p s v) m v fits first)

  pub run_for_good : (budget : Budget) (number offset : ℕ) (arguments : List Cell) (owner : Owner) (m : MemoryState) → AreLivingCells m.heap.now arguments
      → MayRun p m owner
      → Good p (method_run budget p number offset arguments owner m) m (λ end n. HasRun p m n)
  unfolding method_run
  run_for_good budget number offset arguments owner m all may = from_good budget (first_frames_of p number offset arguments) owner m
      (λ s is. begins_bare m.heap.now p number offset arguments s all is) may

  method_good : (budget : Budget) (method : Option Method) (arguments : List Cell) (owner : Owner) (m : MemoryState) → AreLivingCells m.heap.now arguments
      → MayRun p m owner
      → Good p (run_method budget p method arguments owner m) m (λ end n. HasRun p m n)
  method_good budget None arguments owner m all may = good_gives p _ _ m (ran_itself p m owner may)
  method_good budget (Some (Native name)) arguments owner m all may = good_gives p _ _ m (ran_itself p m owner may)
  method_good budget (Some (Code number offset)) arguments owner m all may = run_for_good budget number offset arguments owner m all may

  pub called_good : (budget : Budget) (name : PlatformMethod) (applet : ℕ) (arguments : List Cell) (owner : Owner) (m : MemoryState)
      → AreLivingCells m.heap.now arguments → MayRun p m owner
      → Good p (applet_method_call budget p name applet arguments owner m) m (λ end n. HasRun p m n)
  unfolding applet_method_call
  called_good budget name applet arguments owner m all may = method_good budget (method_named p m applet name) arguments owner m all may

-- ---- what is open ends

-- how that leaves a memory: no transaction is open, and code runs for whom it ran
pub record IsClosed (p : Packages) (m n : MemoryState) : Type 0 where
  pub behind : StandsBehind p m n
  pub closed : n.heap.begun ≡ false
  pub active : n.registers.active ≡ m.registers.active

module _ (p : Packages) where
  outside : (m : MemoryState) → IsSoundMemory p m → FitsTurn m (registers_released m.registers)
  outside m s = same_fits p m s (registers_released m.registers) refl refl refl

  closing_good : (b : Bool) (m : MemoryState) → m.heap.begun ≡ b → IsSoundMemory p m → HasEnvironment p m →
      Good p (abort_if_open b (λ v. then_with (SetRegisters (registers_released v.registers)) v (λ w. Finish (tt {0}))) m) m (λ u n. IsClosed p m n)
  closing_good false m is s h = good_then p _ (SetRegisters (registers_released m.registers)) _ m (inl (outside m s)) tt (good_gives p _ _ _ (record {
    behind = behind_one p m (SetRegisters (registers_released m.registers)) (outside m s) s h;
    closed = is;
    active = refl;
  }))
  closing_good true m is s h =
      let v = apply_effect (HeapMove Abort) m in
      let first = behind_one p m (HeapMove Abort) is s h in
      good_then p _ (HeapMove Abort) _ m is is (good_then p _ (SetRegisters (registers_released v.registers)) _ v
      (inl (outside v first.sound)) tt (good_gives p _ _ _ (record {
        behind = behind_both p m v _ first (behind_one p v (SetRegisters (registers_released v.registers))
            (outside v first.sound) first.sound first.environment);
        closed = refl;
        active = refl;
      })))

  pub closed_good : (m : MemoryState) → IsSoundMemory p m → HasEnvironment p m → Good p (close m) m (λ u n. IsClosed p m n)
  unfolding close
  closed_good m s h = closing_good m.heap.begun m refl s h

-- ---- the APDU buffer is filled

-- the buffer has room for what it is filled with
padded_fits : (size : ℕ) (bytes : List ℕ) → length bytes ≤ buffer_size → buffer_size ≤ size → length (padded_bytes size bytes) ≤ size
padded_fits size bytes few long =
    let whole = length-append bytes (replicate (size - length bytes) 0) in
    let behind = length-replicate {A = ℕ} (size - length bytes) 0 in
    omega (arith, whole, behind, few, long)

-- nothing but the contents of transient objects changed
pub record IsFilled (p : Packages) (m n : MemoryState) : Type 0 where
  pub behind : StandsBehind p m n
  pub heap : n.heap ≡ m.heap
  pub registers : n.registers ≡ m.registers

module _ (p : Packages) (m : MemoryState) (s : IsSoundMemory p m) (h : HasEnvironment p m) where
  run_good : (event : Option ClearEvent) (bytes : List ℕ) → is_some event ≡ true → FitsFill m (apdu_buffer m) 0 (map number_of bytes)
      → Good p (Perform (cells_effect_in event (apdu_buffer m) 0 bytes) (Finish (tt {0}))) m (λ u n. IsFilled p m n)
  run_good None bytes is fits = absurd (false≢true is)
  run_good (Some event) bytes is fits = good_then p _ (cells_effect_in (Some event) (apdu_buffer m) 0 bytes) (Finish (tt {0})) m fits refl (good_gives p _ (tt {0}) _ (record {
    behind = behind_one p m (cells_effect_in (Some event) (apdu_buffer m) 0 bytes) fits s h;
    heap = refl;
    registers = refl;
  }))

  itself : IsFilled p m m
  itself = record { behind = behind_itself p m s h; heap = refl; registers = refl }

  is_buffer_filled : (f : Facts) (bytes : List ℕ) → f ≡ facts m.heap.now (apdu_buffer m) → is_buffer f ≡ true → length bytes ≤ buffer_size
      → FitsFill m (apdu_buffer m) 0 (map number_of (padded_bytes f.length bytes))
  is_buffer_filled f bytes same is few =
      let long = leb-true buffer_size f.length (and_parts (is_of_bytes f.kind && is_some f.event) _ is).1 in
      let padded : List ℕ = padded_bytes f.length bytes in
      let room = padded_fits f.length bytes few long in
      numbers_fit m (apdu_buffer m) 0 padded (subst (λ g. 0 + length padded ≤ g.length) same (omega (arith, room)))
      (λ array. true≢false (sym (and_parts (is_of_bytes f.kind) _ (and_parts (is_of_bytes f.kind && is_some f.event) _ is).0).0
      ∙ ap is_of_bytes (ap (λ g. g.kind) same ∙ array)))

  buffer_good : (b : Bool) (f : Facts) (bytes : List ℕ) → f ≡ facts m.heap.now (apdu_buffer m) → is_buffer f ≡ b → length bytes ≤ buffer_size
      → Good p (if b then Perform (cells_effect m (apdu_buffer m) 0 (padded_bytes f.length bytes)) (Finish (tt {0})) else Finish tt) m (λ u n. IsFilled p m n)
  buffer_good false f bytes same is few = good_gives p _ _ m itself
  buffer_good true f bytes same is few = run_good (facts m.heap.now (apdu_buffer m)).event (padded_bytes f.length bytes)
      (subst (λ g. is_some g.event ≡ true) same (and_parts (is_of_bytes f.kind) _ (and_parts (is_of_bytes f.kind && is_some f.event) _ is).0).1)
      (is_buffer_filled f bytes same is few)

  fills_good : (o : Option Facts) (bytes : List ℕ) → header_at m (apdu_buffer m) ≡ o → length bytes ≤ buffer_size
      → Good p (buffer_fill_in m o bytes) m (λ u n. IsFilled p m n)
  fills_good None bytes is few = good_gives p _ _ m itself
  fills_good (Some f) bytes is few = buffer_good (is_buffer f) f bytes (header_is m (apdu_buffer m) f is).1 refl few

  pub filled_good : (bytes : List ℕ) → length bytes ≤ buffer_size → Good p (buffer_fill m bytes) m (λ u n. IsFilled p m n)
  unfolding buffer_fill
  filled_good bytes few = fills_good (header_at m (apdu_buffer m)) bytes refl few
