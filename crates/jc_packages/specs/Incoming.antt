-- A component that is coming.
use Rattle.std.specs.Prelude.{ℕ, List}

-- its tag, and the bytes that came
pub record IncomingValue : Type 0 where
  pub tag : ℕ
  pub bytes : List ℕ
