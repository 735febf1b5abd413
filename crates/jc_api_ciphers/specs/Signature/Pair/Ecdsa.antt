-- ECDSA by the parts of a key on an elliptic curve.
use Rattle.std.specs.Prelude.{ℕ, ◌≤◌, nat_le, ◌&&◌, Bool, List, Option, None, if◌then◌else◌}
use Rattle.jc_memory.specs.State.{MemoryState}
use Rattle.jc_world.specs.Arrays.{bytes_in}
use Rattle.jc_world.specs.declared.arrays.Stretch.{Stretch}
use Rattle.jc_public_keys.specs.CurveBytes.{CurveBytes}
use Rattle.jc_public_keys.specs.Ecdsa.{ecdsa_signature, is_ecdsa_signature}
use Rattle.jc_api_ciphers.specs.declared.signature.pair.parts.EcParts.{EcParts}

-- the bytes that describe its curve
abbrev pub curve_of : MemoryState → EcParts → CurveBytes
curve_of m k = record {
  field = bytes_in m k.field;
  a = bytes_in m k.a;
  b = bytes_in m k.b;
  generator = bytes_in m k.base;
  order = bytes_in m k.order;
}

-- no number of the curve has more than 66 bytes
abbrev pub is_short_curve : EcParts → Bool
is_short_curve k = ((nat_le k.field.count 66 && nat_le k.a.count 66) && nat_le k.b.count 66) && nat_le k.order.count 66

pub record IsShortCurve (k : EcParts) : Type 0 where
  pub field : k.field.count ≤ 66
  pub a : k.a.count ≤ 66
  pub b : k.b.count ≤ 66
  pub order : k.order.count ≤ 66

-- the signature of a digest, where there is one
abbrev pub ecdsa_of : MemoryState → EcParts → List ℕ → List ℕ → Option (List ℕ)
ecdsa_of m k digest seed =
    if is_short_curve k && nat_le k.key.count 66 then ecdsa_signature (curve_of m k) (bytes_in m k.key) digest seed else None

-- elements, of which a signature has at most 141, are a signature of a digest
abbrev pub is_ecdsa_of : MemoryState → EcParts → List ℕ → Stretch → Bool
is_ecdsa_of m k digest given =
    (is_short_curve k && nat_le given.count 141) && is_ecdsa_signature (curve_of m k) (bytes_in m k.key) digest (bytes_in m given)
