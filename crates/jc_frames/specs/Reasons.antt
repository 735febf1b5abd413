-- Exceptions of the card's framework with the reasons that its API specification names.
use Rattle.std.specs.Prelude.{pos}
use Rattle.jc_frames.specs.declared.exceptions.Exception.{Exception}
use Rattle.jc_frames.specs.declared.exceptions.Exception.TheVariants.{APDUException, PINException, SystemException, TransactionException}

-- SystemException: an argument is not allowed
abbrev pub illegal_value : Exception
illegal_value = SystemException (pos 1)

-- a transient area has no space
abbrev pub no_transient_space : Exception
no_transient_space = SystemException (pos 2)

-- what a deselection clears is not for an applet that is not selected
abbrev pub illegal_transient : Exception
illegal_transient = SystemException (pos 3)

-- an applet is not registered with this AID
abbrev pub illegal_aid : Exception
illegal_aid = SystemException (pos 4)

-- the heap has no space
abbrev pub no_resource : Exception
no_resource = SystemException (pos 5)

-- TransactionException: a transaction is open
abbrev pub in_progress : Exception
in_progress = TransactionException (pos 1)

-- no transaction is open
abbrev pub not_in_progress : Exception
not_in_progress = TransactionException (pos 2)

-- the transaction has no room
abbrev pub buffer_full : Exception
buffer_full = TransactionException (pos 3)

-- PINException: a limit, a maximum or a length is not allowed
abbrev pub illegal_pin_value : Exception
illegal_pin_value = PINException (pos 1)

-- APDUException: the call does not come in its turn
abbrev pub illegal_use : Exception
illegal_use = APDUException (pos 1)

-- bytes do not lie in the APDU buffer
abbrev pub buffer_bounds : Exception
buffer_bounds = APDUException (pos 2)

-- a response cannot have this length
abbrev pub bad_length : Exception
bad_length = APDUException (pos 3)
