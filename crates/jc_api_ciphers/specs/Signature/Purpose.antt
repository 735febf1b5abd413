-- What a call of Signature asks of the mode.
use Rattle.std.specs.Ordering.{int_eq}
use Rattle.std.specs.Prelude.{ℤ, pos, Bool, Result, Ok, Err, if◌then◌else◌}
use Rattle.jc_frames.specs.declared.outcome.FrameExit.{FrameExit}
use Rattle.jc_frames.specs.declared.outcome.FrameExit.TheVariants.{Throw}
use Rattle.jc_api_ciphers.specs.Initialized.{is_mode}
use Rattle.jc_api_ciphers.specs.declared.signature.purpose.Purpose.{Purpose}
use Rattle.jc_api_ciphers.specs.declared.signature.purpose.Purpose.TheVariants.{Either, Signing, Verifying}
use Rattle.jc_api_keys.specs.Exceptions.{invalid_init}

-- a call for this purpose is allowed in this mode: 1 is MODE_SIGN, 2 is MODE_VERIFY; before init none is
abbrev pub allows : Purpose → ℤ → Bool
allows Either mode = is_mode mode
allows Signing mode = int_eq mode (pos 1)
allows Verifying mode = int_eq mode (pos 2)

abbrev pub initialized_for : Purpose → ℤ → Result (Unit {0}) FrameExit
initialized_for purpose mode = if allows purpose mode then Ok tt else Err (Throw invalid_init)
