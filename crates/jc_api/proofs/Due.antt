-- Effects that are due, through the words in which calls are defined.
use Rattle.std.proofs.Common.{◌≡◌, Bool, true, false, refl, if◌then◌else◌, ℕ, Result, Err, Option, Some, None, Ok}
use Rattle.jc_heap.specs.declared.refusal.HeapRefusal.{HeapRefusal}
use Rattle.jc_memory.specs.Programs.{Program, Finish, Perform, Choose, Either, bind}
use Rattle.jc_memory.specs.Reading.{AllDue, AllResults}
use Rattle.jc_memory.specs.State.{MemoryState, Effect, IsNew, apply_effect}
use Rattle.jc_memory.proofs.ProgramLemmas.{each_always}
use Rattle.jc_environment.specs.Registry.{instance_of_applet}
use Rattle.jc_frames.specs.declared.outcome.FrameExit.{FrameExit}
use Rattle.jc_frames.specs.declared.outcome.FrameExit.TheVariants as stop
use Rattle.jc_frames.specs.declared.outcome.Outcome.TheVariants.{Fault}
use Rattle.jc_world.specs.NativeCalls.{NativeProgram}
use Rattle.jc_world.specs.NativeCalls as calls
use Rattle.jc_world.specs.StepExit.{exception_of}
use Rattle.jc_world.specs.declared.native_result.NativeResult.{NativeResult}
use Rattle.jc_world.specs.declared.native_result.NativeResult.TheVariants.{ReturnVoid, ReturnValue, CallServer, Aborted}
use Rattle.jc_api.specs.Referring.{CellRefersSo}
use Rattle.jc_api.proofs.Exits.{IsPlainExit, FaultsOnly}

module _ (P : Effect → MemoryState → Type 0) (m : MemoryState) where
  pub due_if : {A : Type 0} (b : Bool) (x y : Program A) → (b ≡ true → AllDue P x m) → (b ≡ false → AllDue P y m) → AllDue P (if b then x else y) m
  due_if true x y on off = on refl
  due_if false x y on off = off refl

-- whatever is chosen, each effect is due in the memory that it finds, and what follows is so in the memory that is left
abbrev pub DueThen : {A : Type 0} → (Effect → MemoryState → Type 0) → (A → MemoryState → Type 0) → Program A → MemoryState → Type 0
DueThen P R (Finish a) m = R a m
DueThen P R (Perform e rest) m = P e m × DueThen P R rest (apply_effect e m)
DueThen P R (Choose choose) m = (r : ℕ) → IsNew m.heap.now r → DueThen P R (choose r) m
DueThen P R (Either x y) m = DueThen P R x m × DueThen P R y m

pub due_of : {A : Type 0} (P : Effect → MemoryState → Type 0) (R : A → MemoryState → Type 0) (d : Program A) (m : MemoryState) → DueThen P R d m
    → AllDue P d m
due_of P R (Finish a) m so = tt
due_of P R (Perform e rest) m so = (so.0, due_of P R rest (apply_effect e m) so.1)
due_of P R (Choose choose) m so = λ r new. due_of P R (choose r) m (so r new)
due_of P R (Either x y) m so = (due_of P R x m so.0, due_of P R y m so.1)

pub results_of : {A : Type 0} (P : Effect → MemoryState → Type 0) (R : A → MemoryState → Type 0) (d : Program A) (m : MemoryState) → DueThen P R d m
    → AllResults d m R
results_of P R (Finish a) m so = so
results_of P R (Perform e rest) m so = results_of P R rest (apply_effect e m) so.1
results_of P R (Choose choose) m so = λ r new. results_of P R (choose r) m (so r new)
results_of P R (Either x y) m so = (results_of P R x m so.0, results_of P R y m so.1)

pub due_then : {A : Type 0} (P : Effect → MemoryState → Type 0) (R : A → MemoryState → Type 0) (d : Program A) (m : MemoryState) → AllDue P d m
    → AllResults d m R → DueThen P R d m
due_then P R (Finish a) m due so = so
due_then P R (Perform e rest) m due so = (due.0, due_then P R rest (apply_effect e m) due.1 so)
due_then P R (Choose choose) m due so = λ r new. due_then P R (choose r) m (due r new) (so r new)
due_then P R (Either x y) m due so = (due_then P R x m due.0 so.0, due_then P R y m due.1 so.1)

-- whatever follows
pub due_any : {A : Type 0} (P : Effect → MemoryState → Type 0) (d : Program A) (m : MemoryState) → AllDue P d m → DueThen P (λ a v. Unit {0}) d m
due_any P d m due = due_then P _ d m due (each_always _ (λ a v. tt) d m)

-- whatever the reference
abbrev pub Anything : MemoryState → ℕ → Type 0
Anything m r = Unit {0}

module _ (P : Effect → MemoryState → Type 0) (R : Result NativeResult FrameExit → MemoryState → Type 0) (m : MemoryState)
    (exits : (e : FrameExit) → IsPlainExit e → R (Err e) m) where
  pub then_if : (b : Bool) (x y : NativeProgram) → (b ≡ true → DueThen P R x m) → (b ≡ false → DueThen P R y m) → DueThen P R (if b then x else y) m
  then_if true x y on off = on refl
  then_if false x y on off = off refl

  pub then_some : {A : Type 0} (o : Option A) (go : A → NativeProgram) → ((a : A) → o ≡ Some a → DueThen P R (go a) m) → DueThen P R (calls.if_some o go) m
  then_some None go k = exits (stop.End Fault) tt
  then_some (Some a) go k = k a refl

  pub then_ok : {A : Type 0} (o : Result A FrameExit) (go : A → NativeProgram) → FaultsOnly o → ((a : A) → o ≡ Ok a → DueThen P R (go a) m)
      → DueThen P R (calls.if_ok o go) m
  then_ok (Ok a) go plain k = k a refl
  then_ok (Err e) go plain k = exits e plain

  pub then_unless : (o : Option HeapRefusal) (d : NativeProgram) → (o ≡ None → DueThen P R d m) → DueThen P R (calls.unless o d) m
  then_unless None d k = k refl
  then_unless (Some reason) d k = exits (stop.Throw (exception_of reason)) tt

-- what is answered: nothing, a number, a reference of which this is so, an exception or a code fault; or an applet's instance is asked on
-- behalf of such a reference. Nothing is aborted
abbrev pub IsPlainAnswer : (MemoryState → ℕ → Type 0) → Result NativeResult FrameExit → MemoryState → Type 0
IsPlainAnswer L (Ok ReturnVoid) m = Unit {0}
IsPlainAnswer L (Ok (ReturnValue cell)) m = CellRefersSo (L m) cell
IsPlainAnswer L (Ok (CallServer asked)) m = (instance_of_applet m.heap.now asked.owner.0 ≡ Some asked.server) × L m asked.client
IsPlainAnswer L (Ok Aborted) m = ⊥
IsPlainAnswer L (Err e) m = IsPlainExit e

-- whatever is chosen, each effect of a call is due in the memory that it finds, and the call answers plainly
abbrev pub IsPlainCall : (Effect → MemoryState → Type 0) → (MemoryState → ℕ → Type 0) → NativeProgram → MemoryState → Type 0
IsPlainCall P L d m = DueThen P (IsPlainAnswer L) d m

module _ (P : Effect → MemoryState → Type 0) (L : MemoryState → ℕ → Type 0) where
  -- first something else, and then a call
  pub called_after : {A : Type 0} (more : A → MemoryState → NativeProgram) (d : Program A) (m : MemoryState) → AllDue P d m
      → ((a : A) (v : MemoryState) → IsPlainCall P L (more a v) v) → IsPlainCall P L (bind d m more) m
  called_after more (Finish a) m due each = each a m
  called_after more (Perform e rest) m due each = (due.0, called_after more rest (apply_effect e m) due.1 each)
  called_after more (Choose choose) m due each = λ r new. called_after more (choose r) m (due r new) each
  called_after more (Either x y) m due each = (called_after more x m due.0 each, called_after more y m due.1 each)

  -- one call after the other
  module _ (Q : MemoryState → Type 0) (keeps : (e : Effect) (m : MemoryState) → P e m → Q m → Q (apply_effect e m))
      (next : MemoryState → NativeProgram) (each : (v : MemoryState) → Q v → IsPlainCall P L (next v) v) where
    pub called_then : (d : NativeProgram) (m : MemoryState) → Q m → IsPlainCall P L d m
        → IsPlainCall P L (bind d m (λ answer v. calls.if_ok answer (λ a. next v))) m
    called_then (Finish (Ok answer)) m so call = each m so
    called_then (Finish (Err e)) m so call = call
    called_then (Perform e rest) m so call = (call.0, called_then rest (apply_effect e m) (keeps e m call.0 so) call.1)
    called_then (Choose choose) m so call = λ r new. called_then (choose r) m so (call r new)
    called_then (Either x y) m so call = (called_then x m so call.0, called_then y m so call.1)

  module _ (m : MemoryState) where
    pub called_if : (b : Bool) (x y : NativeProgram) → (b ≡ true → IsPlainCall P L x m) → (b ≡ false → IsPlainCall P L y m)
        → IsPlainCall P L (if b then x else y) m
    called_if = then_if P (IsPlainAnswer L) m (λ e plain. plain)

    pub called_some : {A : Type 0} (o : Option A) (go : A → NativeProgram) → ((a : A) → o ≡ Some a → IsPlainCall P L (go a) m)
        → IsPlainCall P L (calls.if_some o go) m
    called_some o go k = then_some P (IsPlainAnswer L) m (λ e plain. plain) o go k

    pub called_ok : {A : Type 0} (o : Result A FrameExit) (go : A → NativeProgram) → FaultsOnly o → ((a : A) → o ≡ Ok a → IsPlainCall P L (go a) m)
        → IsPlainCall P L (calls.if_ok o go) m
    called_ok o go plain k = then_ok P (IsPlainAnswer L) m (λ e plain. plain) o go plain k

    pub called_unless : (o : Option HeapRefusal) (d : NativeProgram) → (o ≡ None → IsPlainCall P L d m) → IsPlainCall P L (calls.unless o d) m
    called_unless = then_unless P (IsPlainAnswer L) m (λ e plain. plain)
