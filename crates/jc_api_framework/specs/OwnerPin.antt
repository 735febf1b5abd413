-- OwnerPIN (API specification).
use Rattle.std.specs.Prelude.{ℕ, ℤ, pos, negsuc, ◌==◌, nat_le, not, false, List, if◌then◌else◌, Option, Some, None, Result, Ok, Err}
use Rattle.std.specs.Option.{option_and_then}
use Rattle.std.specs.Ordering.{int_eq}
use Rattle.std.specs.Int.{w16, cast_signed}
use Rattle.jc_transient.specs.State.{flag_of}
use Rattle.jc_heap.specs.declared.object.Facts.{Facts}
use Rattle.jc_heap.specs.Heap.{facts}
use Rattle.jc_firewall.specs.Situation.{same_context}
use Rattle.jc_frames.specs.declared.cell.Cell.{Cell}
use Rattle.jc_frames.specs.declared.cell.Cell.TheVariants.{Short}
use Rattle.jc_frames.specs.declared.exceptions.Exception.{Exception}
use Rattle.jc_frames.specs.declared.exceptions.Exception.TheVariants.{SecurityException}
use Rattle.jc_frames.specs.Reasons.{buffer_full, illegal_pin_value, no_resource}
use Rattle.jc_frames.specs.declared.outcome.FrameExit.{FrameExit}
use Rattle.jc_frames.specs.declared.outcome.FrameExit.TheVariants as stop
use Rattle.jc_memory.specs.State.{MemoryState, SetFlag}
use Rattle.jc_memory.specs.Programs.{Program, Perform, bind}
use Rattle.jc_memory.specs.Cells.{header_at}
use Rattle.jc_transient.specs.Owners.{owner_of}
use Rattle.jc_linker.specs.Values.{Packages}
use Rattle.jc_platform.specs.declared.names.PinsMethod.{PinsMethod}
use Rattle.jc_platform.specs.declared.names.PinsMethod.TheVariants.{PinCheck, PinGetTriesRemaining, PinIsValidated, PinReset}
use Rattle.jc_platform.specs.declared.names.PinsMethod.TheVariants.{OwnerPinInit, OwnerPinCheck, OwnerPinGetTriesRemaining, OwnerPinIsValidated}
use Rattle.jc_platform.specs.declared.names.PinsMethod.TheVariants.{OwnerPinReset, OwnerPinResetAndUnblock, OwnerPinUpdate}
use Rattle.jc_platform.specs.declared.names.PinsMethod.TheVariants.{OwnerPinGetValidatedFlag, OwnerPinSetValidatedFlag}
use Rattle.jc_environment.specs.declared.pins.updates.PinRefusal.{PinRefusal}
use Rattle.jc_environment.specs.declared.pins.updates.PinRefusal.TheVariants.{StoreDown, CommitFull, IllegalValue, HeapFull}
use Rattle.jc_environment.specs.Pins.{is_pin, record_of}
use Rattle.jc_environment.specs.Pins.Checks.{pin_check}
use Rattle.jc_environment.specs.Pins.Resets.{pin_unblock, pin_reset}
use Rattle.jc_environment.specs.Pins.Updates.{pin_update}
use Rattle.jc_environment.specs.Pins.PinInit.{pin_init}
use Rattle.jc_world.specs.declared.native_result.NativeResult.{NativeResult}
use Rattle.jc_world.specs.declared.native_result.NativeResult.TheVariants.{ReturnVoid, ReturnValue}
use Rattle.jc_world.specs.declared.step_exit.StepExit.{StepExit}
use Rattle.jc_world.specs.declared.step_exit.StepExit.TheVariants.{Throw, Down}
use Rattle.jc_world.specs.NativeCalls.{NativeProgram, return_value, throw_exception, code_fault, if_some, if_ok}
use Rattle.jc_world.specs.Contexts.{context_of}
use Rattle.jc_world.specs.Objects.{reference_argument, short_argument}
use Rattle.jc_world.specs.declared.arrays.Stretch.{Stretch}
use Rattle.jc_world.specs.Answers.{returns_bool}
use Rattle.jc_world.specs.Arrays.{bytes_in}
use Rattle.jc_api.specs.Arguments.{argument_bytes, array_arguments, counted_of}

-- ---- what the calls are given

-- the PIN that is called. An instance whose cells are none of a PIN is a code fault
abbrev pub receiver : MemoryState → List Cell → Option ℕ
receiver m args = option_and_then (λ r. if is_pin m r then Some r else None) (reference_argument args 0)

-- a limit, or a maximum: none below 1
abbrev pub at_least_1 : ℤ → Result ℕ FrameExit
at_least_1 (pos n) = if nat_le 1 n then Ok n else Err (stop.Throw illegal_pin_value)
at_least_1 (negsuc n) = Err (stop.Throw illegal_pin_value)

-- the array in which a PIN keeps its value belongs to the context of the PIN, if it has one; of another context's nothing is set
abbrev pub is_in_context_of : MemoryState → Facts → Option Facts → Result (Unit {0}) FrameExit
is_in_context_of m pin None = Ok tt
is_in_context_of m pin (Some f) = if same_context (context_of m (owner_of f.owner)) (context_of m (owner_of pin.owner)) then Ok tt else Err
    (stop.Throw SecurityException)

abbrev pub is_own_value : MemoryState → ℕ → Result (Unit {0}) FrameExit
is_own_value m pin = is_in_context_of m (facts m.heap.now pin) (header_at m (record_of m pin).value)

-- what a PIN that is not changed throws
abbrev pub exception_of : PinRefusal → Exception
exception_of StoreDown = no_resource
exception_of CommitFull = buffer_full
exception_of IllegalValue = illegal_pin_value
exception_of HeapFull = no_resource

-- the call returns, unless the change was refused: then it throws
abbrev pub return_unless_refused : Result (Unit {0}) PinRefusal → NativeProgram
return_unless_refused (Ok u) = return_value ReturnVoid
return_unless_refused (Err e) = throw_exception (exception_of e)

-- a PIN is changed, and the call returns, unless this is refused
abbrev pub changed_or_thrown : Program (Result (Unit {0}) PinRefusal) → MemoryState → NativeProgram
changed_or_thrown change m = bind change m (λ result v. return_unless_refused result)

-- how the code says it
abbrev pub answer_of : Result (Unit {0}) PinRefusal → Result NativeResult StepExit
answer_of (Ok u) = Ok ReturnVoid
answer_of (Err StoreDown) = Err Down
answer_of (Err CommitFull) = Err (Throw (exception_of CommitFull))
answer_of (Err IllegalValue) = Err (Throw illegal_pin_value)
answer_of (Err HeapFull) = Err (Throw (exception_of HeapFull))

-- OwnerPIN.<init>: a PIN with all tries and no value
unfoldable pub owner_pin_init : List Cell → MemoryState → NativeProgram
owner_pin_init args m =
    if_some (receiver m args) (λ pin. if_some (short_argument args 1) (λ limit. if_some (short_argument args 2) (λ maximum.
    if_ok (at_least_1 limit) (λ l. if_ok (at_least_1 maximum) (λ n. changed_or_thrown (pin_init m pin l n) m)))))

-- the bytes that are compared: none, where the arguments are bad
abbrev pub guess_of : MemoryState → Result Stretch FrameExit → Option (List ℕ)
guess_of m (Ok e) = Some (bytes_in m e)
guess_of m (Err stop) = None

-- check of a PIN: where a try is left it is counted, and bad arguments throw after that
unfoldable pub pin_comparison : MemoryState → ℕ → Result Stretch FrameExit → NativeProgram
pin_comparison m pin bytes =
    if (record_of m pin).tries == 0 then returns_bool false else bind (pin_check m pin (guess_of m bytes)) m (λ same v. if_ok bytes (λ e. returns_bool same))

-- OwnerPIN.check: false where no try is left; else a try is counted before anything is compared
unfoldable pub owner_pin_check : List Cell → Packages → MemoryState → NativeProgram
owner_pin_check args p m = if_some (receiver m args) (λ pin. if_ok (array_arguments 1 args m) (λ given. pin_comparison m pin (argument_bytes given p m)))

-- OwnerPIN.update: value, length and all tries as one change
unfoldable pub owner_pin_update : List Cell → Packages → MemoryState → NativeProgram
owner_pin_update args p m = if_some (receiver m args) (λ pin. if_ok (counted_of 1 args p m)
    (λ e. if_ok (is_own_value m pin) (λ u. changed_or_thrown (pin_update m pin (bytes_in m e)) m)))

-- OwnerPIN.reset: the validated flag is taken away and all tries are given back, where it was set
unfoldable pub owner_pin_reset : List Cell → MemoryState → NativeProgram
owner_pin_reset args m = if_some (receiver m args) (λ pin. bind (pin_reset m pin) m (λ u v. return_value ReturnVoid))

-- OwnerPIN.resetAndUnblock: the validated flag is taken away and all tries are given back
unfoldable pub owner_pin_reset_and_unblock : List Cell → MemoryState → NativeProgram
owner_pin_reset_and_unblock args m = if_some (receiver m args) (λ pin. bind (pin_unblock m pin) m (λ u v. return_value ReturnVoid))

-- OwnerPIN.getTriesRemaining: the tries left
unfoldable pub owner_pin_get_tries_remaining : List Cell → MemoryState → NativeProgram
owner_pin_get_tries_remaining args m = if_some (receiver m args) (λ pin. return_value (ReturnValue (Short (cast_signed w16 (record_of m pin).tries))))

-- OwnerPIN.isValidated, OwnerPIN.getValidatedFlag: the validated flag
unfoldable pub owner_pin_is_validated : List Cell → MemoryState → NativeProgram
owner_pin_is_validated args m = if_some (receiver m args) (λ pin. returns_bool (flag_of m.ram pin))

-- OwnerPIN.setValidatedFlag: the validated flag is set, or taken away for 0
unfoldable pub owner_pin_set_validated_flag : List Cell → MemoryState → NativeProgram
owner_pin_set_validated_flag args m = if_some (receiver m args) (λ pin. if_some (short_argument args 1) (λ value.
    Perform (SetFlag pin (not (int_eq value (pos 0)))) (return_value ReturnVoid)))

-- what a call of a method of OwnerPIN may do; those of the interface PIN have no code
unfoldable pub pin_call : PinsMethod → List Cell → Packages → MemoryState → NativeProgram
pin_call OwnerPinInit args p m = owner_pin_init args m
pin_call OwnerPinCheck args p m = owner_pin_check args p m
pin_call OwnerPinGetTriesRemaining args p m = owner_pin_get_tries_remaining args m
pin_call OwnerPinIsValidated args p m = owner_pin_is_validated args m
pin_call OwnerPinReset args p m = owner_pin_reset args m
pin_call OwnerPinResetAndUnblock args p m = owner_pin_reset_and_unblock args m
pin_call OwnerPinUpdate args p m = owner_pin_update args p m
pin_call OwnerPinGetValidatedFlag args p m = owner_pin_is_validated args m
pin_call OwnerPinSetValidatedFlag args p m = owner_pin_set_validated_flag args m
pin_call PinCheck args p m = code_fault
pin_call PinGetTriesRemaining args p m = code_fault
pin_call PinIsValidated args p m = code_fault
pin_call PinReset args p m = code_fault
