-- The exceptions: what their calls may do.
use Rattle.std.specs.Prelude.{pos}
use Rattle.std.proofs.Common.{◌≡◌, ℕ, Bool, true, false, List, ap, refl}
use Rattle.jc_memory.specs.Cells.{cell_refusal}
use Rattle.jc_memory.specs.State.{MemoryState, Effect}
use Rattle.jc_platform.specs.NamePlaces.{class_of}
use Rattle.jc_platform.specs.Hierarchy.{carries_reason, cells_of, is_throwable}
use Rattle.jc_platform.specs.Names.{classes, exceptions_rows}
use Rattle.jc_platform.specs.Signatures.{is_changed, receiver_of, sets_receiver}
use Rattle.jc_platform.specs.declared.kinds.Receiver.{Receiver}
use Rattle.jc_platform.specs.declared.kinds.Receiver.TheVariants.{Absent, Kept, Registered, Changed}
use Rattle.jc_platform.specs.declared.names.ExceptionsMethod.{ExceptionsMethod}
use Rattle.jc_platform.specs.declared.names.ExceptionsMethod.TheVariants as exceptions
use Rattle.jc_platform.specs.declared.names.PlatformClass.{PlatformClass}
use Rattle.jc_platform.specs.declared.names.PlatformMethod.{PlatformMethod}
use Rattle.jc_platform.specs.declared.names.PlatformMethod.TheVariants as rooms
use Rattle.jc_linker.specs.Values.{Packages}
use Rattle.jc_frames.specs.declared.cell.Cell.{Cell}
use Rattle.jc_world.specs.Instances.{instance_at}
use Rattle.jc_world.specs.Objects.{reference_argument, short_argument}
use Rattle.jc_api.proofs.Due.{IsPlainCall, called_ok, called_some, called_unless}
use Rattle.jc_api.proofs.Exits.{plain_instance}
use Rattle.jc_api.proofs.Passing.{Turns}
use Rattle.jc_api.proofs.Stretches.{instance_is}
use Rattle.jc_api_framework.specs.Exceptions.{exception_by, exception_call, exception_get_reason, exception_set, exception_set_no_reason, exception_set_reason}
use Rattle.jc_api_framework.specs.Exceptions.{exception_throw_it, gives_reason}
use Rattle.jc_api_framework.proofs.Passing.{MethodPasses}

module _ (P : Effect → MemoryState → Type 0) (L : MemoryState → ℕ → Type 0) (args : List Cell) (p : Packages) (m : MemoryState) where
  got_due : IsPlainCall P L (exception_get_reason args m) m
  unfolding exception_get_reason
  got_due = called_some P L m (reference_argument args 0) _ (λ own is. called_ok P L m (instance_at m own 1) _ (plain_instance m own 1) (λ f long. tt))

  thrown_due : (class : PlatformClass) → IsPlainCall P L (exception_throw_it class args) m
  unfolding exception_throw_it
  thrown_due class = called_some P L m (short_argument args 0) _ (λ reason is. tt)

module _ (P : Effect → MemoryState → Type 0) (L : MemoryState → ℕ → Type 0) (Q : MemoryState → Type 0) (turns : Turns P Q) (method : PlatformMethod)
    (args : List Cell) (p : Packages) (m : MemoryState) (so : Q m) (pass : MethodPasses P method args p m) where
  -- exceptions
  reason_due : carries_reason (class_of method) ≡ true → sets_receiver method ≡ true → IsPlainCall P L (exception_set_reason args m) m
  unfolding exception_set_reason
  reason_due part sets = called_some P L m (reference_argument args 0) _ (λ own is. called_some P L m (short_argument args 1) _
      (λ reason there. called_ok P L m (instance_at m own 1) _ (plain_instance m own 1) (λ f long.
      called_unless P L m (cell_refusal m own 0) _ (λ room. (pass.calls.reason part sets own reason is (instance_is m own 1 f long), tt)))))

  no_reason_due : carries_reason (class_of method) ≡ true → sets_receiver method ≡ true → IsPlainCall P L (exception_set_no_reason args m) m
  unfolding exception_set_no_reason
  no_reason_due part sets = called_some P L m (reference_argument args 0) _ (λ own is.
      called_ok P L m (instance_at m own 1) _ (plain_instance m own 1) (λ f long.
      called_unless P L m (cell_refusal m own 0) _ (λ room. (pass.calls.reason part sets own (pos 0) is (instance_is m own 1 f long), tt))))

  set_due : carries_reason (class_of method) ≡ true → sets_receiver method ≡ true → (given : Bool) → IsPlainCall P L (exception_set given args m) m
  set_due part sets true = reason_due part sets
  set_due part sets false = no_reason_due part sets

  by_row : carries_reason (class_of method) ≡ true → (receiver : Receiver) → receiver_of method ≡ receiver → (class : PlatformClass) (given : Bool)
      → IsPlainCall P L (exception_by receiver class given args m) m
  unfolding receiver_of sets_receiver
  by_row part Absent is class given = thrown_due P L args p m class
  by_row part Kept is class given = got_due P L args p m
  by_row part Registered is class given = tt
  by_row part Changed is class given = set_due part (ap is_changed is) given

-- the class of each of these methods carries a reason
all_carry : (method : ExceptionsMethod) → carries_reason (class_of (rooms.Exceptions method)) ≡ true
unfolding carries_reason is_throwable cells_of exceptions_rows classes
all_carry exceptions.CardExceptionInit = refl
all_carry _ = refl

module _ (P : Effect → MemoryState → Type 0) (L : MemoryState → ℕ → Type 0) (Q : MemoryState → Type 0) (turns : Turns P Q) (args : List Cell) (p : Packages)
    (m : MemoryState) (so : Q m) where
  pub exceptions_due : (method : ExceptionsMethod) → MethodPasses P (rooms.Exceptions method) args p m
      → IsPlainCall P L (exception_call method args m) m
  unfolding exception_call
  exceptions_due method pass = by_row P L Q turns (rooms.Exceptions method) args p m so pass (all_carry method) (receiver_of (rooms.Exceptions method)) refl
      (class_of (rooms.Exceptions method)) (gives_reason (rooms.Exceptions method))
