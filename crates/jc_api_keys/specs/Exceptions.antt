-- CryptoException with the reasons that the API specification names.
use Rattle.std.specs.Prelude.{pos}
use Rattle.jc_frames.specs.declared.exceptions.Exception.{Exception}
use Rattle.jc_frames.specs.declared.exceptions.Exception.TheVariants.{Further}
use Rattle.jc_platform.specs.declared.names.PlatformClass.TheVariants.{CryptoException}

-- CryptoException.ILLEGAL_VALUE: an argument is not allowed
abbrev pub illegal_value : Exception
illegal_value = Further CryptoException (pos 1)

-- CryptoException.UNINITIALIZED_KEY: a key is not set
abbrev pub uninitialized_key : Exception
uninitialized_key = Further CryptoException (pos 2)

-- CryptoException.NO_SUCH_ALGORITHM: there is no algorithm of this number
abbrev pub no_such_algorithm : Exception
no_such_algorithm = Further CryptoException (pos 3)

-- CryptoException.INVALID_INIT: an object is not initialized for this
abbrev pub invalid_init : Exception
invalid_init = Further CryptoException (pos 4)

-- CryptoException.ILLEGAL_USE: what was given has no whole blocks, or does not end by a padding
abbrev pub illegal_use : Exception
illegal_use = Further CryptoException (pos 5)
