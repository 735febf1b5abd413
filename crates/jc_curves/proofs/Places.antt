-- Points of the code, seen as coordinates.
use Rattle.std.proofs.Common.{◌≡◌, ℕ, ◌+◌, ◌%◌, ◌<◌, List, Bool, true, false, Option, Some, None, MatchOption, refl, ap, ◌∙◌}
use Rattle.jc_numbers.specs.Numbers.{IsBitLength}
use Rattle.jc_curves.specs.declared.jacobian.Jacobian.{Jacobian}
use Rattle.jc_curves.specs.Elements.{residue_of}
use Rattle.jc_curves.specs.declared.multiples.CurvePoint.{CurvePoint}
use Rattle.jc_curves.specs.Jacobian.{AddsPoint, Coordinates, IsMadeInfinite, StandsFor}
use Rattle.jc_curves.specs.Points.{Infinity, IsMultiple, IsSum, IsTheMultiple, IsTheSum, Point}
use Rattle.jc_curves.specs.PointValues.{StandsForMultiple, coordinates, point_of}
use Rattle.jc_curves.proofs.BinaryMethod.{no_multiple, no_sum, the_multiple, the_sum}
use Rattle.jc_curves.proofs.Congruences.{sums}
use Rattle.jc_curves.proofs.Standing.{true_false}

pub made_infinite : (field : List ℕ) (old new : Jacobian) → new ≡ record old { infinite = true }
    → IsMadeInfinite (coordinates field old) (coordinates field new)
made_infinite field old new is = record {
  infinite = ap (λ (j : Jacobian). j.infinite) is;
  z = ap (λ (j : Jacobian). residue_of field j.z.limbs) is;
}

-- what a test that failed rules out
pub ruled_out : {P : Type 0} (b : Bool) → b ≡ false → (P → b ≡ true) → P → ⊥
ruled_out b fails told holds = true_false b (told holds) fails

-- R + 2 Y
pub total_law : (p r y other total : ℕ) → other % p ≡ (r + y) % p → total % p ≡ (other + y) % p → total % p ≡ (r + y + y) % p
total_law p r y other total is_other is = is ∙ sums p other (r + y) y y is_other refl

-- ---- what is made of coordinates

pub multiple_law : (p a k m : ℕ) (q : Point) (field : List ℕ) (c : Coordinates) (r : Option CurvePoint) → 1 < p → IsBitLength k m
    → StandsForMultiple p a k m q c → MatchOption r ((t : Point) → ¬ (StandsFor p c t)) (λ at. StandsFor p c (point_of field at))
    → MatchOption r ((t : Point) → ¬ (IsMultiple p a k q t)) (λ at. IsTheMultiple p a k q (point_of field at))
multiple_law p a k m q field c None above bits of none = λ t has. no_multiple p a k m q c bits of none t has
multiple_law p a k m q field c (Some at) above bits of stands = the_multiple p a k m q (point_of field at) c above bits of stands

pub sum_law : (p a : ℕ) (left right : Point) (field : List ℕ) (zero start new : Coordinates) (r : Option CurvePoint) → 1 < p
    → StandsFor p zero Infinity → AddsPoint p a zero left start → AddsPoint p a start right new
    → MatchOption r ((t : Point) → ¬ (StandsFor p new t)) (λ at. StandsFor p new (point_of field at))
    → MatchOption r ((t : Point) → ¬ (IsSum p a left right t)) (λ at. IsTheSum p a left right (point_of field at))
sum_law p a left right field zero start new None above stands first second none =
    λ t has. no_sum p a left right start new second ((first.sum Infinity stands left).0 refl) none t has
sum_law p a left right field zero start new (Some at) above stands first second there =
    the_sum p a left right (point_of field at) start new above second ((first.sum Infinity stands left).0 refl) there
