-- Reading class references.
use Rattle.std.specs.Prelude.{ℕ, ◌+◌, ◌*◌, ◌-◌, List, Ok, nat_lt, if◌then◌else◌}
use Rattle.jc_cap.specs.declared.class_refs.ClassRef.{ClassRef}
use Rattle.jc_cap.specs.declared.class_refs.ClassRef.TheVariants.{Internal, External}
use Rattle.jc_cap.specs.Reading.{◌>>=◌, Field, u1_at}

-- two bytes, of which the high bit says that the class is external
unfoldable pub class_ref_at : List ℕ → Field ClassRef
class_ref_at bytes = do
  high ← u1_at bytes
  low ← u1_at high.1
  if nat_lt high.0 128 then Ok (Internal (high.0 * 256 + low.0), low.1) else Ok (External (high.0 - 128) low.0, low.1)
