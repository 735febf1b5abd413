-- The tag and the size that stand before each component's info.
use Rattle.std.specs.Prelude.{◌≡◌, ℕ, List, [], ◌∷◌, ◌++◌, length, Result, Ok, Err, nat_lt, ◌==◌, if◌then◌else◌}
use Rattle.jc_cap.specs.declared.fault.CapFault.{CapFault}
use Rattle.jc_cap.specs.declared.fault.CapFault.TheVariants.{Truncated, Trailing, Missing}
use Rattle.jc_cap.specs.Reading.{◌>>=◌, u2_at}
use Rattle.jc_cap.specs.Grammar.{IsU2}

-- first the tag, then the whole length against the size
unfoldable pub info_at : ℕ → List ℕ → Result (List ℕ) CapFault
info_at tag [] = Err (Missing tag)
info_at tag (t ∷ rest) = if t == tag then (do
  size ← u2_at rest
  if nat_lt (length size.1) size.0 then Err Truncated else if nat_lt size.0 (length size.1) then Err Trailing else Ok size.1)
    else Err (Missing tag)

-- the tag, two bytes of size, and as many bytes
abbrev pub IsEnvelope : ℕ → List ℕ → List ℕ → Type 0
IsEnvelope tag info text = (size : List ℕ) × IsU2 (length info) size × (text ≡ tag ∷ (size ++ info))
