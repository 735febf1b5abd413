-- What points in the code stand for.
use Rattle.std.specs.Prelude.{◌↔◌, ℕ, List}
use Rattle.jc_curves.specs.declared.jacobian.Affine.{Affine}
use Rattle.jc_curves.specs.declared.jacobian.Jacobian.{Jacobian}
use Rattle.jc_curves.specs.declared.multiples.CurvePoint.{CurvePoint}
use Rattle.jc_curves.specs.declared.multiples.CurvePoint.TheVariants as code
use Rattle.jc_curves.specs.Elements.{IsElement, residue_of}
use Rattle.jc_curves.specs.Jacobian.{Coordinates, StandsFor}
use Rattle.jc_curves.specs.Points.{Point, Infinity, At, IsMultipleByBits, IsSum, IsSumWithBit}

-- its coordinates are elements of the field
pub record AreElements (field : List ℕ) (point : Jacobian) : Type 0 where
  pub x : IsElement field point.x.limbs
  pub y : IsElement field point.y.limbs
  pub z : IsElement field point.z.limbs

pub record AreAffine (field : List ℕ) (point : Affine) : Type 0 where
  pub x : IsElement field point.x.limbs
  pub y : IsElement field point.y.limbs

abbrev pub AreOfCurve : List ℕ → CurvePoint → Type 0
AreOfCurve field code.Infinity = Unit {0}
AreOfCurve field (code.At point) = AreAffine field point

-- the residues of coordinates
abbrev pub coordinates : List ℕ → Jacobian → Coordinates
coordinates field point = record {
  x = residue_of field point.x.limbs;
  y = residue_of field point.y.limbs;
  z = residue_of field point.z.limbs;
  infinite = point.infinite;
}

-- the point of these coordinates
abbrev pub point_at : List ℕ → Affine → Point
point_at field point = At (residue_of field point.x.limbs) (residue_of field point.y.limbs)

abbrev pub point_of : List ℕ → CurvePoint → Point
point_of field code.Infinity = Infinity
point_of field (code.At point) = point_at field point

-- new coordinates stand for the sums of a step of the binary method: the point that old ones stand for doubled, and q added where
-- the bit is 1
pub record TakesBit (p a : ℕ) (old : Coordinates) (bit : ℕ) (q : Point) (new : Coordinates) : Type 0 where
  pub sum : (s : Point) → StandsFor p old s → (r : Point) → ((d : Point) × IsSum p a s s d × IsSumWithBit p a d bit q r) ↔ StandsFor p new r
  pub of_some : (r : Point) → StandsFor p new r → (s : Point) × StandsFor p old s

-- coordinates stand for the multiple by the lowest m bits of k, where there is one, and for nothing else
abbrev pub StandsForMultiple : ℕ → ℕ → ℕ → ℕ → Point → Coordinates → Type 0
StandsForMultiple p a k m q c = (r : Point) → IsMultipleByBits p a k m q r ↔ StandsFor p c r
