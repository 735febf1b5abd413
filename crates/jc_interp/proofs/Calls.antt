-- What calls of methods of the platform do, for whatever is to hold of each effect: room by room.
use Rattle.std.proofs.Common.{ℕ, List, Result}
use Rattle.jc_memory.specs.Reading.{AllDue}
use Rattle.jc_memory.specs.State.{MemoryState, Effect}
use Rattle.jc_platform.specs.declared.names.PlatformMethod.{PlatformMethod}
use Rattle.jc_platform.specs.declared.names.PlatformMethod.TheVariants as rooms
use Rattle.jc_linker.specs.Values.{Packages}
use Rattle.jc_frames.specs.declared.cell.Cell.{Cell}
use Rattle.jc_frames.specs.declared.outcome.FrameExit.{FrameExit}
use Rattle.jc_world.specs.declared.native_result.NativeResult.{NativeResult}
use Rattle.jc_api.proofs.Due.{IsPlainCall, DueThen, Anything, due_any, due_of}
use Rattle.jc_api.proofs.Passing.{Turns}
use Rattle.jc_api_ciphers.proofs.CipherCalls.{ciphers_due}
use Rattle.jc_api_crypto.proofs.EngineCalls.{engines_due}
use Rattle.jc_api_keys.proofs.KeyCalls.{ec_keys_due, keys_due, rsa_keys_due}
use Rattle.jc_api_pairs.proofs.PairCalls.{pairs_due}
use Rattle.jc_api_pairs.proofs.PairPasses.{PairPasses}
use Rattle.jc_api_framework.proofs.AidCalls.{aids_due}
use Rattle.jc_api_framework.proofs.ApduCalls.{apdus_due}
use Rattle.jc_api_framework.proofs.AppletCalls.{IsPlainAppletMethod, applets_due, applets_then}
use Rattle.jc_api_framework.proofs.EventCalls.{events_due}
use Rattle.jc_api_framework.proofs.ExceptionCalls.{exceptions_due}
use Rattle.jc_api_framework.proofs.ObjectCalls.{objects_due}
use Rattle.jc_api_framework.proofs.OwnerPinCalls.{pins_due}
use Rattle.jc_api_framework.proofs.Passing.{AnswersSo, MethodPasses, Bears, EndsSo, RegistersSo, turns_of}
use Rattle.jc_api_framework.proofs.SystemCalls.{IsPlainSystemMethod, systems_due, systems_then}
use Rattle.jc_api_framework.proofs.UtilCalls.{util_due}
use Rattle.jc_interp.specs.Natives.{native_call}

-- methods that begin and end no transaction, and register nothing
abbrev pub IsPlainMethod : PlatformMethod → Type 0
IsPlainMethod (rooms.System method) = IsPlainSystemMethod method
IsPlainMethod (rooms.Applets method) = IsPlainAppletMethod method
IsPlainMethod method = Unit {0}

-- each effect of such a method is due, where those that set cells are, and it answers plainly
module _ (P : Effect → MemoryState → Type 0) (L : MemoryState → ℕ → Type 0) (Q : MemoryState → Type 0) (turns : Turns P Q) (args : List Cell) (p : Packages)
    (m : MemoryState) (so : Q m) (refers : AnswersSo L m) where
  pub method_called : (method : PlatformMethod) → IsPlainMethod method → MethodPasses P method args p m → PairPasses P L method args p m
      → IsPlainCall P L (native_call method args p m) m
  unfolding native_call
  method_called (rooms.Objects method) plain pass pair = objects_due P L args p m method
  method_called (rooms.Exceptions method) plain pass pair = exceptions_due P L Q turns args p m so method pass
  method_called (rooms.Utilities method) plain pass pair = util_due P L args p m method pass
  method_called (rooms.System method) plain pass pair = systems_due P L Q turns args p m so refers method plain pass
  method_called (rooms.Aids method) plain pass pair = aids_due P L args p m method pass
  method_called (rooms.Pins method) plain pass pair = pins_due P L Q turns args p m so method pass
  method_called (rooms.Applets method) plain pass pair = applets_due P L args p m refers method plain
  method_called (rooms.Apdus method) plain pass pair = apdus_due P L Q turns args p m so refers method pass
  method_called (rooms.Events method) plain pass pair = events_due P L m method
  method_called (rooms.Engines method) plain pass pair = engines_due P L args p m refers.made method pass.calls
  method_called (rooms.Keys method) plain pass pair = keys_due P L args p m refers.made method pass.calls
  method_called (rooms.KeyInterfaces method) plain pass pair = tt
  method_called (rooms.Ciphers method) plain pass pair = ciphers_due P L args p m refers.made method pass.calls
  method_called (rooms.RsaKeys method) plain pass pair = rsa_keys_due P L args p m refers.made method pass.calls
  method_called (rooms.EcKeys method) plain pass pair = ec_keys_due P L args p m refers.made method pass.calls
  method_called (rooms.RsaInterfaces method) plain pass pair = tt
  method_called (rooms.EcInterfaces method) plain pass pair = tt
  method_called (rooms.KeyPairs method) plain pass pair = pairs_due P L args p m refers.made method pass.calls pair

-- where it is so of such a method, it is so of each
module _ (P : Effect → MemoryState → Type 0) (R : Result NativeResult FrameExit → MemoryState → Type 0) (Q : MemoryState → Type 0) (bears : Bears P Q)
    (args : List Cell) (p : Packages) (m : MemoryState) (so : Q m) (ends : EndsSo R m) where
  pub method_then : (method : PlatformMethod) → RegistersSo P R method args p m → (IsPlainMethod method → DueThen P R (native_call method args p m) m)
      → DueThen P R (native_call method args p m) m
  unfolding native_call
  method_then (rooms.System method) registers plain = systems_then P R Q bears args p m so ends method plain
  method_then (rooms.Applets method) registers plain = applets_then P R args p m ends.exits method registers plain
  method_then _ registers plain = plain tt

-- each effect of a method is due, where those that set cells are
module _ (P : Effect → MemoryState → Type 0) (Q : MemoryState → Type 0) (bears : Bears P Q) (args : List Cell) (p : Packages) (m : MemoryState) (so : Q m) where
  any_so : AnswersSo Anything m
  any_so = record { fixed = λ k le. tt; aid = λ o. tt; null = tt; made = record { new = λ o v r new. tt; stays = λ q i v w r so. tt } }

  any_end : EndsSo (λ a v. Unit {0}) m
  any_end = record {
    exits = λ e plain. tt;
    faults = λ v. tt;
    levels = λ depth. tt;
    begins = tt;
    commits = λ none. tt;
    aborts = λ none. tt;
    stays = λ none. tt;
  }

  pub method_due : (method : PlatformMethod) → MethodPasses P method args p m → PairPasses P Anything method args p m
      → RegistersSo P (λ a v. Unit {0}) method args p m
      → AllDue P (native_call method args p m) m
  method_due method pass pair registers = due_of P _ (native_call method args p m) m (method_then P (λ a v. Unit {0}) Q bears args p m so any_end method registers
      (λ plain. due_any P (native_call method args p m) m
      (due_of P _ (native_call method args p m) m (method_called P Anything Q (turns_of P Q bears) args p m so any_so method plain pass pair))))
