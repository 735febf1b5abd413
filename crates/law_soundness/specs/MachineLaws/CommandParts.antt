-- What a command is made of: what the runtime environment does, and runs of code.
use Rattle.std.specs.Prelude.{ℕ, ◌≡◌, ◌+◌, ◌⊎◌, true, false, List, [], ◌∷◌, ◌++◌, Option}
use Rattle.jc_heap.specs.Moves.{AddPackage, Begin, Abort}
use Rattle.jc_memory.specs.Programs.{Program, Finish, Perform, Choose, Either, Completes, bind}
use Rattle.jc_memory.specs.Reading.{HasTracePrefix}
use Rattle.jc_memory.specs.State.{MemoryState, Effect, HeapMove, SetTransient, SetFlag, SendBytes, IsNew, apply_effect, apply_effects}
use Rattle.jc_linker.specs.Values.{Packages}
use Rattle.jc_frames.specs.declared.outcome.Outcome.{Outcome}
use Rattle.jc_frames.specs.Frames.{Frames}
use Rattle.jc_interp.specs.declared.attacks.Attack.{Attack}
use Rattle.jc_interp.specs.Attacks.{attacked_step}
use Rattle.jc_interp.specs.Run.{run_of}
use Rattle.jc_dispatch.specs.Buffer.{apdu_buffer}
use Rattle.law_code.specs.IsolationLaws.Runs.{RunSteps}
use Rattle.law_soundness.specs.References.{MayBegin}

-- what the runtime environment does: of the heap it begins a transaction and adds a package, where none is open, and takes back one that is;
-- it fills the APDU buffer, clears transient objects, sets registers and begins a command. So it commits nothing, and sets nothing else
abbrev pub IsByEnvironment : Effect → MemoryState → Type 0
IsByEnvironment (HeapMove Begin) m = m.heap.begun ≡ false
IsByEnvironment (HeapMove (AddPackage components arrays image)) m = m.heap.begun ≡ false
IsByEnvironment (HeapMove Abort) m = m.heap.begun ≡ true
IsByEnvironment (HeapMove move) m = ⊥
IsByEnvironment (SetTransient r i values) m = r ≡ apdu_buffer m
IsByEnvironment (SetFlag r flag) m = ⊥
IsByEnvironment (SendBytes bytes) m = ⊥
IsByEnvironment e m = Unit {0}

-- each effect is so, but for runs of code, each from where a method may begin; and what follows is so
pub data IsDispatched (p : Packages) {A : Type 0} (R : A → MemoryState → Type 0) : Program A → MemoryState → Type 0 where
  Stops : (a : A) (m : MemoryState) → R a m → IsDispatched p R (Finish a) m
  Does : (e : Effect) (rest : Program A) (m : MemoryState) → IsByEnvironment e m → IsDispatched p R rest (apply_effect e m)
      → IsDispatched p R (Perform e rest) m
  Chooses : (choose : ℕ → Program A) (m : MemoryState) → ((r : ℕ) → IsNew m.heap.now r → IsDispatched p R (choose r) m) → IsDispatched p R (Choose choose) m
  OneOf : (x y : Program A) (m : MemoryState) → IsDispatched p R x m → IsDispatched p R y m → IsDispatched p R (Either x y) m
  Runs : (attack : Option Attack) (budget : ℕ) (lent : List ℕ) (s : Frames) (more : ℕ × Outcome → MemoryState → Program A) (d : Program A) (m : MemoryState)
      → MayBegin s m → d ≡ bind (run_of attack budget lent p s m) m more
      → ((end : ℕ × Outcome) (n : MemoryState) → Completes (run_of attack budget lent p s m) m end n → IsDispatched p R (more end n) n)
      → IsDispatched p R d m

-- after these effects of what is done, the next one is of a step of code: a run began after the first of them, with frames from where
-- a method may begin, took this many steps, and is within the next one. An attack may come before one of them
pub record IsOfRun (p : Packages) (m : MemoryState) (es : List Effect) (e : Effect) : Type 0 where
  pub before : List Effect
  pub ran : List Effect
  pub during : List Effect
  pub are : es ≡ before ++ (ran ++ during)
  pub lent : List ℕ
  pub first : Frames
  pub begins : MayBegin first (apply_effects before m)
  pub attack : Option Attack
  pub taken : ℕ
  pub left : ℕ
  pub last : Frames
  pub steps : RunSteps attack taken (taken + left) lent p first (apply_effects before m) last (apply_effects ran (apply_effects before m))
  pub within : HasTracePrefix (attacked_step attack left lent p last (apply_effects ran (apply_effects before m)))
      (apply_effects ran (apply_effects before m)) (during ++ (e ∷ []))

-- of all that is dispatched so, each effect is the runtime environment's, or one of code
abbrev pub DispatchedAreRuns : Type 0 → Type 0
DispatchedAreRuns A = (p : Packages) (d : Program A) (m : MemoryState) (es : List Effect) (e : Effect) → IsDispatched p (λ a n. Unit {0}) d m
    → HasTracePrefix d m (es ++ (e ∷ [])) → IsByEnvironment e (apply_effects es m) ⊎ IsOfRun p m es e
