-- OwnerPIN: what each call may do.
use Rattle.std.specs.Prelude.{◌==◌, not, nat_lt}
use Rattle.std.proofs.Common.{◌≡◌, ◌∙◌, ℕ, List, Option, Some, None, Result, Ok, Err, true, if◌then◌else◌, sym, ap, false, length}
use Rattle.std.proofs.lemmas.Bool.{ltb-false}
use Rattle.std.proofs.lemmas.Option.{cond_some, option_and_then_some}
use Rattle.jc_transient.specs.State.{flag_of}
use Rattle.jc_heap.specs.Moves.{WriteNonAtomic, refusal_of_places}
use Rattle.jc_heap.specs.Place.{places_of}
use Rattle.jc_heap.specs.declared.object.Kind.TheVariants.{ByteArray}
use Rattle.jc_heap.specs.declared.refusal.HeapRefusal.{HeapRefusal}
use Rattle.jc_memory.specs.Programs.{Program}
use Rattle.jc_memory.specs.Reading.{AllDue}
use Rattle.jc_memory.specs.CommitCapacity.{has_space, lacks_capacity}
use Rattle.jc_memory.specs.State.{MemoryState, Effect, HeapMove, SetFlag}
use Rattle.jc_environment.specs.Pins.Checks.{is_value, comparison, pin_check}
use Rattle.jc_environment.specs.Pins.PinInit.{pin_init, touched_by_init}
use Rattle.jc_environment.specs.Pins.{is_pin, counter, record_of}
use Rattle.jc_environment.specs.Pins.Resets.{pin_reset}
use Rattle.jc_environment.specs.Pins.Updates.{unless_no_room, changes_of_update, pin_update}
use Rattle.jc_environment.specs.declared.pins.updates.PinRefusal.{PinRefusal}
use Rattle.jc_platform.specs.NamePlaces.{class_of}
use Rattle.jc_platform.specs.Signatures.{sets_receiver}
use Rattle.jc_platform.specs.declared.names.PlatformClass.TheVariants.{OwnerPin}
use Rattle.jc_platform.specs.declared.names.PlatformMethod.{PlatformMethod}
use Rattle.jc_linker.specs.Values.{Packages}
use Rattle.jc_frames.specs.declared.cell.Cell.{Cell}
use Rattle.jc_frames.specs.declared.outcome.FrameExit.{FrameExit}
use Rattle.jc_world.specs.Arrays.{bytes_in}
use Rattle.jc_world.specs.Objects.{reference_argument, short_argument}
use Rattle.jc_world.specs.declared.arrays.Stretch.{Stretch}
use Rattle.jc_api.specs.Arguments.{argument_bytes, array_arguments, counted_of}
use Rattle.jc_api_framework.proofs.ArgumentExits.{plain_argument, plain_given, plain_counted}
use Rattle.jc_api.proofs.Due.{IsPlainCall, called_some, called_after, due_if, called_ok, called_if}
use Rattle.jc_api.proofs.Exits.{FaultsOnly}
use Rattle.jc_api.proofs.Passing.{Turns}
use Rattle.jc_api_framework.specs.OwnerPin.{owner_pin_get_tries_remaining, owner_pin_is_validated, return_unless_refused, changed_or_thrown, owner_pin_init}
use Rattle.jc_api_framework.specs.OwnerPin.{pin_comparison, guess_of, owner_pin_check, owner_pin_reset, owner_pin_reset_and_unblock}
use Rattle.jc_api_framework.specs.OwnerPin.{owner_pin_set_validated_flag, owner_pin_update}
use Rattle.jc_api_framework.specs.OwnerPin.{receiver, at_least_1, is_own_value}
use Rattle.jc_api_framework.proofs.OwnerPinCalls.Checks.{plain_least, plain_own}
use Rattle.jc_api_framework.proofs.Passing.{MethodPasses, IsPinCall}

module _ (P : Effect → MemoryState → Type 0) (L : MemoryState → ℕ → Type 0) (args : List Cell) (p : Packages) (m : MemoryState) where
  -- OwnerPIN
  pub tries_due : IsPlainCall P L (owner_pin_get_tries_remaining args m) m
  unfolding owner_pin_get_tries_remaining
  tries_due = called_some P L m (receiver m args) _ (λ pin is. tt)

  pub validated_due : IsPlainCall P L (owner_pin_is_validated args m) m
  unfolding owner_pin_is_validated
  validated_due = called_some P L m (receiver m args) _ (λ pin is. tt)

module _ (P : Effect → MemoryState → Type 0) (L : MemoryState → ℕ → Type 0) (Q : MemoryState → Type 0) (turns : Turns P Q) (method : PlatformMethod)
    (args : List Cell) (p : Packages) (m : MemoryState) (so : Q m) (pass : MethodPasses P method args p m) where
  -- OwnerPIN
  full_due : {A : Type 0} (o : Option HeapRefusal) (d : Program (Result A PinRefusal)) → AllDue P d m → AllDue P (unless_no_room o d) m
  full_due None d due = due
  full_due (Some reason) d due = tt

  refused_due : (result : Result (Unit {0}) PinRefusal) (v : MemoryState) → IsPlainCall P L (return_unless_refused result) v
  refused_due (Ok u) v = tt
  refused_due (Err e) v = tt

  settled_due : (change : Program (Result (Unit {0}) PinRefusal)) → AllDue P change m → IsPlainCall P L (changed_or_thrown change m) m
  settled_due change due = called_after P L _ change m due refused_due

  module _ (class : class_of method ≡ OwnerPin) (sets : sets_receiver method ≡ true) where
    called_pin : (pin : ℕ) → receiver m args ≡ Some pin → IsPinCall method args m pin
    called_pin pin e = option_and_then_some (λ r. if is_pin m r then Some r else None) (reference_argument args 0) pin e (λ r own is.
        let held = cond_some (is_pin m r) r pin is in
        record { class = class; sets = sets; called = own ∙ ap Some held.1; is = ap (is_pin m) (sym held.1) ∙ held.0 })

    started_due : (pin limit maximum : ℕ) → IsPinCall method args m pin → AllDue P (pin_init m pin limit maximum) m
    unfolding pin_init
    started_due pin limit maximum is = due_if P m (not (has_space m ByteArray maximum)) _ _ (λ on. tt)
        (λ off. due_if P m (lacks_capacity m (touched_by_init pin)) _ _ (λ on. tt) (λ off. pass.starts pin is limit maximum))

    pub constructed_due : IsPlainCall P L (owner_pin_init args m) m
    unfolding owner_pin_init
    constructed_due = called_some P L m (receiver m args) _ (λ pin is. called_some P L m (short_argument args 1) _
        (λ limit l. called_some P L m (short_argument args 2) _ (λ maximum x.
        called_ok P L m (at_least_1 limit) _ (plain_least limit) (λ n few. called_ok P L m (at_least_1 maximum) _ (plain_least maximum)
        (λ k most. settled_due (pin_init m pin n k) (started_due pin n k (called_pin pin is)))))))

    judged_due : (pin : ℕ) (v : MemoryState) (guess : Option (List ℕ)) → ((limit : ℕ) → P (HeapMove (WriteNonAtomic (counter pin) limit)) v)
        → ((w : MemoryState) → P (SetFlag pin true) w) → AllDue P (comparison v pin guess) v
    judged_due pin v None refills flags = tt
    judged_due pin v (Some bytes) refills flags = due_if P v (is_value v pin bytes) _ _ (λ on. (refills _, (flags _, tt))) (λ off. tt)

    checked_due : (pin : ℕ) (guess : Option (List ℕ)) → IsPinCall method args m pin → AllDue P (pin_check m pin guess) m
    unfolding pin_check
    checked_due pin guess is = due_if P m ((record_of m pin).tries == 0) _ _ (λ on. tt)
        (λ off. (pass.flags pin is false m, (pass.counts pin is _, judged_due pin _ guess (pass.refills pin is _) (pass.flags pin is true))))

    compared_due : (pin : ℕ) (bytes : Result Stretch FrameExit) → FaultsOnly bytes → IsPinCall method args m pin
        → IsPlainCall P L (pin_comparison m pin bytes) m
    unfolding pin_comparison
    compared_due pin bytes plain is = called_if P L m ((record_of m pin).tries == 0) _ _ (λ on. tt) (λ off.
        called_after P L _ (pin_check m pin (guess_of m bytes)) m (checked_due pin (guess_of m bytes) is)
        (λ same v. called_ok P L v bytes _ plain (λ e fine. tt)))

    pub pin_checked_due : IsPlainCall P L (owner_pin_check args p m) m
    unfolding owner_pin_check
    pin_checked_due = called_some P L m (receiver m args) _ (λ pin is. called_ok P L m (array_arguments 1 args m) _ (plain_given args 1 m)
        (λ given fine. compared_due pin (argument_bytes given p m) (plain_argument given p m) (called_pin pin is)))

    reset_due : (pin : ℕ) → IsPinCall method args m pin → AllDue P (pin_reset m pin) m
    unfolding pin_reset
    reset_due pin is = due_if P m (flag_of m.ram pin) _ _ (λ on. (pass.flags pin is false m, (pass.counts pin is _, tt))) (λ off. tt)

    pub was_reset_due : IsPlainCall P L (owner_pin_reset args m) m
    unfolding owner_pin_reset
    was_reset_due = called_some P L m (receiver m args) _ (λ pin is. called_after P L _ (pin_reset m pin) m (reset_due pin (called_pin pin is)) (λ u v. tt))

    pub was_unblocked_due : IsPlainCall P L (owner_pin_reset_and_unblock args m) m
    unfolding owner_pin_reset_and_unblock
    was_unblocked_due = called_some P L m (receiver m args) _ (λ pin is.
        (pass.flags pin (called_pin pin is) false m, (pass.counts pin (called_pin pin is) _, tt)))

    pub flag_set_due : IsPlainCall P L (owner_pin_set_validated_flag args m) m
    unfolding owner_pin_set_validated_flag
    flag_set_due = called_some P L m (receiver m args) _ (λ pin is. called_some P L m (short_argument args 1) _
        (λ value there. (pass.flags pin (called_pin pin is) _ m, tt)))

    updated_due : (pin : ℕ) (bytes : List ℕ) → IsPinCall method args m pin → is_own_value m pin ≡ Ok tt → AllDue P (pin_update m pin bytes) m
    unfolding pin_update
    updated_due pin bytes is owned = due_if P m (nat_lt (record_of m pin).maximum (length bytes)) _ _ (λ on. tt) (λ off.
        full_due (refusal_of_places m.heap (places_of (changes_of_update (record_of m pin) pin bytes))) _
        (pass.updates pin is bytes owned (ltb-false (record_of m pin).maximum (length bytes) off), (pass.flags pin is false _, tt)))

    pub value_set_due : IsPlainCall P L (owner_pin_update args p m) m
    unfolding owner_pin_update
    value_set_due = called_some P L m (receiver m args) _ (λ pin is. called_ok P L m (counted_of 1 args p m) _ (plain_counted args 1 p m) (λ e there.
        called_ok P L m (is_own_value m pin) _ (plain_own m pin) (λ u owned. settled_due (pin_update m pin (bytes_in m e))
        (updated_due pin (bytes_in m e) (called_pin pin is) owned))))
