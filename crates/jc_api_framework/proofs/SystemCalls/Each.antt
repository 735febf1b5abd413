-- JCSystem: what each other call may do.
use Rattle.std.specs.Option.{option_and_then}
use Rattle.std.proofs.lemmas.Option.{same_Some}
use Rattle.std.specs.Prelude.{◌==◌, pos, ℤ}
use Rattle.std.proofs.Common.{◌≡◌, ℕ, List, Bool, true, false, if◌then◌else◌, Option, refl, Some, None}
use Rattle.jc_heap.specs.declared.object.Facts.{Facts}
use Rattle.jc_heap.specs.declared.object.Kind.{Kind}
use Rattle.jc_heap.specs.declared.object.Kind.TheVariants.{Instance}
use Rattle.jc_memory.specs.Cells.{header_at, cells_refusal}
use Rattle.jc_memory.specs.Making.{creation_refusal}
use Rattle.jc_memory.specs.State.{MemoryState, Effect}
use Rattle.jc_transient.specs.declared.owner.AppletNumber.{AppletNumber}
use Rattle.jc_environment.specs.Aid.{aid_at}
use Rattle.jc_environment.specs.Registry.{applet_with_aid, instance_of_applet}
use Rattle.jc_platform.specs.NamePlaces.{class_word}
use Rattle.jc_platform.specs.declared.names.PlatformClass.TheVariants.{Aid}
use Rattle.jc_platform.specs.declared.names.PlatformMethod.{PlatformMethod}
use Rattle.jc_linker.specs.Values.{Packages}
use Rattle.jc_frames.specs.declared.cell.Cell.{Cell}
use Rattle.jc_world.specs.Arrays.{bytes_in}
use Rattle.jc_world.specs.Objects.{short_argument, reference_argument, is_instance_of}
use Rattle.jc_api.specs.Arguments.{counted_of, two_shorts_of}
use Rattle.jc_api_framework.proofs.ArgumentExits.{plain_counted}
use Rattle.jc_api.proofs.Due.{IsPlainCall, called_ok, called_some, called_if, called_unless}
use Rattle.jc_api_framework.proofs.OfShorts.{plain_two_shorts, two_shorts_is}
use Rattle.jc_api.proofs.Passing.{Turns}
use Rattle.jc_api_framework.specs.Aid.Cells.{is_aid_length}
use Rattle.jc_api_framework.specs.System.Memory.{available_bytes, jc_system_get_available_memory, jc_system_get_available_memory_shorts}
use Rattle.jc_api_framework.specs.System.Memory.{shorts_of_count}
use Rattle.jc_api_framework.specs.System.Sharing.{aid_or_null, jc_system_lookup_aid, jc_system_is_applet_active, applet_of, server_call_result}
use Rattle.jc_api_framework.specs.System.Sharing.{server_call_if_known, server_call_by_aid, jc_system_get_applet_shareable_interface_object}
use Rattle.jc_api_framework.specs.System.Transient.{jc_system_is_transient, jc_system_make_transient_array, requested_array}
use Rattle.jc_api_framework.proofs.Passing.{AnswersSo, MethodPasses}
use Rattle.jc_api_framework.proofs.SystemCalls.Checks.{plain_available, plain_requested, requested_is}

module _ (P : Effect → MemoryState → Type 0) (L : MemoryState → ℕ → Type 0) (args : List Cell) (p : Packages) (m : MemoryState) where
  -- JCSystem
  pub memory_told_due : IsPlainCall P L (jc_system_get_available_memory args m) m
  unfolding jc_system_get_available_memory
  memory_told_due = called_some P L m (short_argument args 0) _
      (λ type is. called_ok P L m (available_bytes m type) _ (plain_available m type) (λ count fine. tt))

  found_so : AnswersSo L m → (b : Bool) (o : Option AppletNumber) → L m (if b then aid_or_null m.heap.now o else 0)
  found_so so true o = so.aid o
  found_so so false o = so.null

  pub looked_up_due : AnswersSo L m → IsPlainCall P L (jc_system_lookup_aid args p m) m
  unfolding jc_system_lookup_aid
  looked_up_due so = called_ok P L m (counted_of 0 args p m) _ (plain_counted args 0 p m)
      (λ e fine. found_so so (is_aid_length e.count) (applet_with_aid m (bytes_in m e)))

  pub event_due : IsPlainCall P L (jc_system_is_transient args m) m
  unfolding jc_system_is_transient
  event_due = called_some P L m (reference_argument args 0) _ (λ r is.
      called_if P L m (r == 0) _ _ (λ on. tt) (λ off. called_some P L m (header_at m r) _ (λ f found. tt)))

  pub active_due : IsPlainCall P L (jc_system_is_applet_active args p m) m
  unfolding jc_system_is_applet_active
  active_due = called_some P L m (reference_argument args 0) _ (λ aid is. called_if P L m (aid == 0) _ _ (λ on. tt) (λ off.
      called_some P L m (header_at m aid) _ (λ f found. called_if P L m (is_instance_of p f (class_word p.platform Aid)) _ _ (λ on. tt) (λ other. tt))))

module _ (P : Effect → MemoryState → Type 0) (L : MemoryState → ℕ → Type 0) (Q : MemoryState → Type 0) (turns : Turns P Q) (method : PlatformMethod)
    (args : List Cell) (p : Packages) (m : MemoryState) (so : Q m) (pass : MethodPasses P method args p m) where
  -- JCSystem
  pub memory_set_due : IsPlainCall P L (jc_system_get_available_memory_shorts args p m) m
  unfolding jc_system_get_available_memory_shorts
  memory_set_due = called_some P L m (short_argument args 2) _ (λ type t.
      called_ok P L m (two_shorts_of args p m) _ (plain_two_shorts args p m) (λ e fine. let two = two_shorts_is args p m e fine in
      called_ok P L m (available_bytes m type) _ (plain_available m type) (λ count is.
      called_unless P L m (cells_refusal m e.array e.start (shorts_of_count count)) _ (λ room.
      (pass.calls.stretch two.0 (pos 2) e (shorts_of_count count) two.1 (same_Some 2 e.count two.1.counted), tt)))))

module _ (P : Effect → MemoryState → Type 0) (L : MemoryState → ℕ → Type 0) (args : List Cell) (p : Packages) (m : MemoryState) (refers : AnswersSo L m) where
  asked_due : (parameter : ℤ) (n : AppletNumber) (server : Option ℕ) → instance_of_applet m.heap.now n.0 ≡ server
      → IsPlainCall P L (server_call_result m parameter n server) m
  asked_due parameter n None is = refers.null
  asked_due parameter n (Some server) is = (is, refers.aid (applet_of m.registers.active))

  known_due : (parameter : ℤ) (n : Option AppletNumber) → IsPlainCall P L (server_call_if_known m parameter n) m
  known_due parameter None = refers.null
  known_due parameter (Some n) = asked_due parameter n (instance_of_applet m.heap.now n.0) refl

  asked_by_due : (aid : ℕ) (parameter : ℤ) (f : Facts) → IsPlainCall P L (server_call_by_aid p m aid parameter f) m
  asked_by_due aid parameter f = called_if P L m (is_instance_of p f (class_word p.platform Aid)) _ _
      (λ on. known_due parameter (option_and_then (λ bytes. applet_with_aid m bytes) (aid_at m aid))) (λ off. tt)

  pub server_due : IsPlainCall P L (jc_system_get_applet_shareable_interface_object args p m) m
  unfolding jc_system_get_applet_shareable_interface_object
  server_due = called_some P L m (reference_argument args 0) _ (λ aid is. called_some P L m (short_argument args 1) _ (λ parameter there.
      called_if P L m (aid == 0) _ _ (λ on. refers.null) (λ off. called_some P L m (header_at m aid) _ (λ f found. asked_by_due aid parameter f))))

  pub transient_due : (method : PlatformMethod) → MethodPasses P method args p m → (kind : Kind) → (kind ≡ Instance → ⊥)
      → IsPlainCall P L (jc_system_make_transient_array kind args p m) m
  unfolding jc_system_make_transient_array
  transient_due method pass kind none = called_some P L m (short_argument args 0) _ (λ count is. called_some P L m (short_argument args 1) _
      (λ event there. called_ok P L m (requested_array kind count event p m) _ (plain_requested kind count event p m) (λ o fine.
      called_unless P L m (creation_refusal m o) _ (λ room r new. (pass.calls.transient o (requested_is kind count event p m o none fine) room r new, refers.made.new o m r new)))))
