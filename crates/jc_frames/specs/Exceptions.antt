-- The exceptions that the runtime environment throws: instances of its own, by their class.
use Rattle.std.specs.Prelude.{ℤ, Option, Some, None}
use Rattle.jc_platform.specs.declared.names.PlatformClass.{PlatformClass}
use Rattle.jc_platform.specs.declared.names.PlatformClass.TheVariants as class
use Rattle.jc_frames.specs.declared.exceptions.Exception.{Exception}
use Rattle.jc_frames.specs.declared.exceptions.Exception.TheVariants.{ArithmeticException, ArrayIndexOutOfBoundsException, ArrayStoreException, ClassCastException}
use Rattle.jc_frames.specs.declared.exceptions.Exception.TheVariants.{NegativeArraySizeException, NullPointerException, SecurityException, CardException}
use Rattle.jc_frames.specs.declared.exceptions.Exception.TheVariants.{CardRuntimeException, ISOException, PINException, SystemException, TransactionException}
use Rattle.jc_frames.specs.declared.exceptions.Exception.TheVariants.{APDUException, UserException, Further}

-- the class whose instance is thrown
abbrev pub class_of_exception : Exception → PlatformClass
class_of_exception ArithmeticException = class.ArithmeticException
class_of_exception ArrayIndexOutOfBoundsException = class.ArrayIndexOutOfBoundsException
class_of_exception ArrayStoreException = class.ArrayStoreException
class_of_exception ClassCastException = class.ClassCastException
class_of_exception NegativeArraySizeException = class.NegativeArraySizeException
class_of_exception NullPointerException = class.NullPointerException
class_of_exception SecurityException = class.SecurityException
class_of_exception (CardException v) = class.CardException
class_of_exception (CardRuntimeException v) = class.CardRuntimeException
class_of_exception (ISOException v) = class.IsoException
class_of_exception (PINException v) = class.PinException
class_of_exception (SystemException v) = class.SystemException
class_of_exception (TransactionException v) = class.TransactionException
class_of_exception (APDUException v) = class.ApduException
class_of_exception (UserException v) = class.UserException
class_of_exception (Further c v) = c

-- the reason that those of the card's packages carry
abbrev pub reason_of : Exception → Option ℤ
reason_of ArithmeticException = None
reason_of ArrayIndexOutOfBoundsException = None
reason_of ArrayStoreException = None
reason_of ClassCastException = None
reason_of NegativeArraySizeException = None
reason_of NullPointerException = None
reason_of SecurityException = None
reason_of (CardException v) = Some v
reason_of (CardRuntimeException v) = Some v
reason_of (ISOException v) = Some v
reason_of (PINException v) = Some v
reason_of (SystemException v) = Some v
reason_of (TransactionException v) = Some v
reason_of (APDUException v) = Some v
reason_of (UserException v) = Some v
reason_of (Further c v) = Some v
