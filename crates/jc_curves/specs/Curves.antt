-- Curves by their numbers, and what is not one.
use Rattle.std.specs.Prelude.{◌≡◌, ℕ, ◌+◌, ◌*◌, ◌/◌, ◌%◌, ◌<◌, ◌≤◌, List, length, take, drop, slice_index}
use Rattle.jc_numbers.specs.Numbers.{IsBitLength, number_of_bytes, value}
use Rattle.jc_curves.specs.declared.curves.CurveRefusal.{CurveRefusal}
use Rattle.jc_curves.specs.declared.curves.Parameters.{Parameters}
use Rattle.jc_curves.specs.Points.{IsOnCurve}
use Rattle.jc_numbers.specs.Moduli.{IsModulus}
use Rattle.jc_curves.specs.declared.elements.Element.{Element}
use Rattle.jc_curves.specs.declared.jacobian.Affine.{Affine}
use Rattle.jc_curves.specs.Elements.{IsElement, residue_of}
use Rattle.jc_curves.specs.PointValues.{AreAffine}
use Rattle.jc_curves.specs.declared.curves.CurveRefusal.TheVariants as refusal

-- the numbers of a curve (SEC 1, 3.1.1), and how many bits p and n have
pub record CurveNumbers : Type 0 where
  pub p : ℕ
  pub a : ℕ
  pub b : ℕ
  pub x : ℕ
  pub y : ℕ
  pub n : ℕ
  pub h : ℕ
  pub p_bits : ℕ
  pub n_bits : ℕ

-- how many bytes hold as many bits
abbrev pub octets : ℕ → ℕ
octets bits = (bits + 7) / 8

-- an uncompressed point (SEC 1, 2.3.3): 04, x and y, each in as many bytes as p needs
pub record IsEncodedPoint (size x y : ℕ) (bytes : List ℕ) : Type 0 where
  pub whole : length bytes ≡ 1 + 2 * size
  pub form : slice_index bytes 0 ≡ 0x04
  pub x_is : number_of_bytes (take size (drop 1 bytes)) ≡ x
  pub y_is : number_of_bytes (drop (1 + size) bytes) ≡ y

-- bytes are a point of the curve (SEC 1, 2.3.4)
pub record IsPoint (p a b size x y : ℕ) (bytes : List ℕ) : Type 0 where
  pub encoded : IsEncodedPoint size x y bytes
  pub on_curve : IsOnCurve p a b x y

-- no number has more than 66 bytes
pub record AreShort (parameters : Parameters) : Type 0 where
  pub p : length parameters.field.now ≤ 66
  pub a : length parameters.a.now ≤ 66
  pub b : length parameters.b.now ≤ 66
  pub n : length parameters.order.now ≤ 66

-- p is odd and above 3
abbrev pub IsFieldNumber : ℕ → Type 0
IsFieldNumber p = (p % 2 ≡ 1) × (3 < p)

-- a and b are below p
abbrev pub AreCoefficients : Parameters → Type 0
AreCoefficients c = (number_of_bytes c.a.now < number_of_bytes c.field.now) × (number_of_bytes c.b.now < number_of_bytes c.field.now)

-- G is a point of the curve
abbrev pub IsGenerator : Parameters → ℕ → ℕ → ℕ → Type 0
IsGenerator c bits x y =
    IsPoint (number_of_bytes c.field.now) (number_of_bytes c.a.now) (number_of_bytes c.b.now) (octets bits) x y c.generator.now

-- n is odd and above 1
abbrev pub IsOrder : ℕ → Type 0
IsOrder n = (n % 2 ≡ 1) × (1 < n)

-- these are the numbers of a curve that parameters describe
pub record IsDescribedBy (parameters : Parameters) (c : CurveNumbers) : Type 0 where
  pub p : c.p ≡ number_of_bytes parameters.field.now
  pub a : c.a ≡ number_of_bytes parameters.a.now
  pub b : c.b ≡ number_of_bytes parameters.b.now
  pub n : c.n ≡ number_of_bytes parameters.order.now
  pub h : c.h ≡ parameters.cofactor
  pub p_bits : IsBitLength c.p c.p_bits
  pub n_bits : IsBitLength c.n c.n_bits
  pub field : IsFieldNumber c.p
  pub coefficients : AreCoefficients parameters
  pub generator : IsGenerator parameters c.p_bits c.x c.y
  pub order : IsOrder c.n

-- parameters describe a curve
abbrev pub DescribesCurve : Parameters → Type 0
DescribesCurve parameters = (c : CurveNumbers) × IsDescribedBy parameters c

-- why parameters describe no curve: the first reason in this order
abbrev pub DescribeNone : Parameters → CurveRefusal → Type 0
DescribeNone c refusal.Long = ¬ (AreShort c)
DescribeNone c refusal.Field = ¬ (IsFieldNumber (number_of_bytes c.field.now))
DescribeNone c refusal.Coefficient = IsFieldNumber (number_of_bytes c.field.now) × ¬ (AreCoefficients c)
DescribeNone c refusal.Generator =
    AreCoefficients c × (bits : ℕ) × IsBitLength (number_of_bytes c.field.now) bits × ((x y : ℕ) → ¬ (IsGenerator c bits x y))
DescribeNone c refusal.Order = AreCoefficients c × ¬ (IsOrder (number_of_bytes c.order.now))

-- ---- what is kept of a curve, and the numbers that it stands for

abbrev pub numbers_of : List ℕ → List ℕ → Element → Element → Affine → ℕ → ℕ → ℕ → CurveNumbers
numbers_of field order a b generator cofactor field_bits order_bits = record {
  p = value field;
  a = residue_of field a.limbs;
  b = residue_of field b.limbs;
  x = residue_of field generator.x.limbs;
  y = residue_of field generator.y.limbs;
  n = value order;
  h = cofactor;
  p_bits = field_bits;
  n_bits = order_bits;
}

-- the moduli have at most 17 limbs, their bits are counted, and the base point is on the curve
pub record IsPreparedCurve (field order : List ℕ) (a b : Element) (generator : Affine) (field_bits order_bits : ℕ) : Type 0 where
  pub a_is : IsElement field a.limbs
  pub b_is : IsElement field b.limbs
  pub generator_is : AreAffine field generator
  pub on_curve : IsOnCurve (value field) (residue_of field a.limbs) (residue_of field b.limbs) (residue_of field generator.x.limbs)
      (residue_of field generator.y.limbs)
  pub field_counted : IsBitLength (value field) field_bits
  pub field_short : field_bits ≤ 528
  pub order_is : IsModulus order
  pub order_few : length order ≤ 17
  pub order_counted : IsBitLength (value order) order_bits
  pub order_short : order_bits ≤ 528
