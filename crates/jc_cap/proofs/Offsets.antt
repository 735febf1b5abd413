-- Methods by their offsets.
use Rattle.std.proofs.Common.{◌≡◌, ℕ, ◌-◌, ◌<◌, ◌≤◌, length, None, refl, arith}
use Rattle.std.proofs.lemmas.Bool.{le-ltb}
use Rattle.std.proofs.lemmas.List.{drop_all}
use Rattle.jc_cap.specs.Methods.{MethodParts}
use Rattle.jc_cap.specs.MethodReading.{methods_start, header_of, method_at}

-- after the last byte there is no method
pub method_beyond : (m : MethodParts) (offset : ℕ) → methods_start m ≤ offset → length m.code < offset - methods_start m → method_at m offset ≡ None
unfolding method_at header_of
method_beyond m offset from beyond = rw (le-ltb offset (methods_start m) from, drop_all (offset - methods_start m) m.code (omega (arith, beyond))) refl
