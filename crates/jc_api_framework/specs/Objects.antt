-- Constructors, and equals of Object (API specification).
use Rattle.std.specs.Prelude.{◌==◌, List}
use Rattle.jc_frames.specs.declared.cell.Cell.{Cell}
use Rattle.jc_platform.specs.declared.names.ObjectsMethod.{ObjectsMethod}
use Rattle.jc_platform.specs.declared.names.ObjectsMethod.TheVariants.{ObjectInit, ObjectEquals, ThrowableInit, ExceptionInit, RuntimeExceptionInit}
use Rattle.jc_platform.specs.declared.names.ObjectsMethod.TheVariants.{IndexOutOfBoundsExceptionInit, ArithmeticExceptionInit}
use Rattle.jc_platform.specs.declared.names.ObjectsMethod.TheVariants.{ArrayIndexOutOfBoundsExceptionInit, ArrayStoreExceptionInit, ClassCastExceptionInit}
use Rattle.jc_platform.specs.declared.names.ObjectsMethod.TheVariants.{NegativeArraySizeExceptionInit, NullPointerExceptionInit, SecurityExceptionInit}
use Rattle.jc_world.specs.declared.native_result.NativeResult.TheVariants.{ReturnVoid}
use Rattle.jc_world.specs.NativeCalls.{NativeProgram, return_value, if_some}
use Rattle.jc_world.specs.Objects.{reference_argument}
use Rattle.jc_world.specs.Answers.{returns_bool}

-- Object.equals: whether the two references are equal
unfoldable pub object_equals : List Cell → NativeProgram
object_equals args = if_some (reference_argument args 0) (λ own. if_some (reference_argument args 1) (λ other. returns_bool (own == other)))

-- Object.<init>, Throwable.<init>, Exception.<init>, RuntimeException.<init>, IndexOutOfBoundsException.<init>,
-- ArithmeticException.<init>, ArrayIndexOutOfBoundsException.<init>, ArrayStoreException.<init>,
-- ClassCastException.<init>, NegativeArraySizeException.<init>, NullPointerException.<init>,
-- SecurityException.<init>: a constructor of an instance without cells does nothing; equals of
-- Object is answered too
unfoldable pub object_call : ObjectsMethod → List Cell → NativeProgram
object_call ObjectInit args = return_value ReturnVoid
object_call ObjectEquals args = object_equals args
object_call ThrowableInit args = return_value ReturnVoid
object_call ExceptionInit args = return_value ReturnVoid
object_call RuntimeExceptionInit args = return_value ReturnVoid
object_call IndexOutOfBoundsExceptionInit args = return_value ReturnVoid
object_call ArithmeticExceptionInit args = return_value ReturnVoid
object_call ArrayIndexOutOfBoundsExceptionInit args = return_value ReturnVoid
object_call ArrayStoreExceptionInit args = return_value ReturnVoid
object_call ClassCastExceptionInit args = return_value ReturnVoid
object_call NegativeArraySizeExceptionInit args = return_value ReturnVoid
object_call NullPointerExceptionInit args = return_value ReturnVoid
object_call SecurityExceptionInit args = return_value ReturnVoid
