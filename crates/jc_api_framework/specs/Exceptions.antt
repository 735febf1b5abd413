-- Exceptions that carry a reason (API specification), in the first cell of their instances.
use Rattle.std.specs.Prelude.{ℤ, pos, ◌==◌, Bool, true, false, List}
use Rattle.jc_frames.specs.declared.cell.Cell.{Cell}
use Rattle.jc_frames.specs.declared.exceptions.Exception.{Exception}
use Rattle.jc_frames.specs.declared.exceptions.Exception.TheVariants as exception
use Rattle.jc_transient.specs.declared.cell.CellValue.TheVariants as cell
use Rattle.jc_memory.specs.State.{MemoryState}
use Rattle.jc_memory.specs.Programs.{Perform}
use Rattle.jc_memory.specs.Cells.{short_at, cell_refusal, cell_effect}
use Rattle.jc_platform.specs.NamePlaces.{class_of}
use Rattle.jc_platform.specs.Signatures.{argument_cells, receiver_of}
use Rattle.jc_platform.specs.declared.kinds.Receiver.{Receiver}
use Rattle.jc_platform.specs.declared.kinds.Receiver.TheVariants.{Absent, Kept, Registered, Changed}
use Rattle.jc_platform.specs.declared.names.ExceptionsMethod.{ExceptionsMethod}
use Rattle.jc_platform.specs.declared.names.PlatformClass.{PlatformClass}
use Rattle.jc_platform.specs.declared.names.PlatformClass.TheVariants.{ApduException, CardException, CardRuntimeException, IsoException, PinException}
use Rattle.jc_platform.specs.declared.names.PlatformClass.TheVariants.{SystemException, TransactionException, UserException}
use Rattle.jc_platform.specs.declared.names.PlatformMethod.{PlatformMethod}
use Rattle.jc_platform.specs.declared.names.PlatformMethod.TheVariants.{Exceptions}
use Rattle.jc_world.specs.declared.native_result.NativeResult.TheVariants.{ReturnVoid}
use Rattle.jc_world.specs.NativeCalls.{NativeProgram, code_fault, return_value, throw_exception, if_some, if_ok, unless}
use Rattle.jc_world.specs.Objects.{short_argument, reference_argument}
use Rattle.jc_world.specs.Answers.{returns_short}
use Rattle.jc_world.specs.Instances.{instance_at}

-- the constructors of exceptions, CardException.setReason, CardRuntimeException.setReason: the reason of the receiver is this one
unfoldable pub exception_set_reason : List Cell → MemoryState → NativeProgram
exception_set_reason args m = if_some (reference_argument args 0) (λ own. if_some (short_argument args 1) (λ reason. if_ok (instance_at m own 1) (λ f.
    unless (cell_refusal m own 0) (Perform (cell_effect m own 0 (cell.Short reason)) (return_value ReturnVoid)))))

-- UserException.<init> without a reason: the reason of the receiver is 0
unfoldable pub exception_set_no_reason : List Cell → MemoryState → NativeProgram
exception_set_no_reason args m = if_some (reference_argument args 0) (λ own. if_ok (instance_at m own 1) (λ f.
    unless (cell_refusal m own 0) (Perform (cell_effect m own 0 (cell.Short (pos 0))) (return_value ReturnVoid))))

-- CardException.getReason, CardRuntimeException.getReason: the reason is returned
unfoldable pub exception_get_reason : List Cell → MemoryState → NativeProgram
exception_get_reason args m = if_some (reference_argument args 0) (λ own. if_ok (instance_at m own 1) (λ f. returns_short (short_at m own 0)))

-- the exception of a class, with this reason
abbrev pub of_class : PlatformClass → ℤ → Exception
of_class CardException reason = exception.CardException reason
of_class CardRuntimeException reason = exception.CardRuntimeException reason
of_class IsoException reason = exception.ISOException reason
of_class PinException reason = exception.PINException reason
of_class SystemException reason = exception.SystemException reason
of_class TransactionException reason = exception.TransactionException reason
of_class ApduException reason = exception.APDUException reason
of_class UserException reason = exception.UserException reason
of_class class reason = exception.Further class reason

-- throwIt of each of these classes: the runtime environment's own instance is thrown, with this reason
unfoldable pub exception_throw_it : PlatformClass → List Cell → NativeProgram
exception_throw_it class args = if_some (short_argument args 0) (λ reason. throw_exception (of_class class reason))

-- a call that is given a reason, or none
abbrev pub exception_set : Bool → List Cell → MemoryState → NativeProgram
exception_set true args m = exception_set_reason args m
exception_set false args m = exception_set_no_reason args m

-- a method of a class that is called on no object throws, one that leaves the cells of its receiver tells the reason, and one that changes them
-- sets it
abbrev pub exception_by : Receiver → PlatformClass → Bool → List Cell → MemoryState → NativeProgram
exception_by Absent class given args m = exception_throw_it class args
exception_by Kept class given args m = exception_get_reason args m
exception_by Registered class given args m = code_fault
exception_by Changed class given args m = exception_set given args m

-- it is given a reason besides its receiver
abbrev pub gives_reason : PlatformMethod → Bool
gives_reason method = argument_cells method == 2

-- what a call of a method of an exception may do, by what its row says
unfoldable pub exception_call : ExceptionsMethod → List Cell → MemoryState → NativeProgram
exception_call method args m =
    exception_by (receiver_of (Exceptions method)) (class_of (Exceptions method)) (gives_reason (Exceptions method)) args m
