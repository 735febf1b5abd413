-- The function that adds two points gives their sum, where they have one.
use Rattle.std.proofs.Common.{◌≡◌, ◌<◌, ◌+◌, ◌-◌, ◌*◌, ◌%◌, ◌∙◌, ℕ, zero, suc, Bool, true, false, Option, Some, None, if◌then◌else◌, refl, sym, ap, subst, inl, inr, arith}
use Rattle.std.specs.Prelude.{◌==◌, ◌&&◌, option_map}
use Rattle.std.proofs.lemmas.Bool.{and_from, and_left, and_parts, and_right, eq-eqb, eqb-true, ne_eqb}
use Rattle.std.proofs.lemmas.Option.{none-some, same_Some}
use Rattle.std.proofs.Math.Nat.{add-mul-mod_self_left, mod-eq_of_lt, mod-lt, mod-mod}
use Rattle.jc_numbers.specs.Inverses.{HasInverse, IsInverse}
use Rattle.jc_public_keys.specs.CurveSums.{chord_slope, difference, inverse_of, slope_of, sum_of, tangent_slope, third_of, third_x}
use Rattle.jc_curves.specs.Points.{At, Infinity, IsChord, IsSlope, IsSum, IsTangent, IsThird, Point}
use Rattle.jc_curves.proofs.Congruences.{cancelled, divided, equals, one_below, products, sums}
use Rattle.jc_public_keys.proofs.InversesFound.{difference_is, found_is, inverse_found}

-- ---- slopes

nothing_times : (y : ℕ) → 0 * y ≡ 0
nothing_times y = omega arith

-- a multiple of p has no inverse modulo p
zero_has_none : (p d v : ℕ) → 1 < p → d % p ≡ 0 → (d * v) % p ≡ 1 → ⊥
zero_has_none p d v above none is =
    let some : 0 < p = omega (arith, above) in
    let zeros : d % p ≡ 0 % p = none ∙ sym (mod-eq_of_lt some) in
    let gone : (d * v) % p ≡ 0 % p = products p d 0 v v zeros refl ∙ equals p _ _ (nothing_times v) in
    let both : 1 ≡ 0 = sym is ∙ gone ∙ mod-eq_of_lt some in
    omega (arith, both)

-- so what has one is not 0
is_some : (p d : ℕ) → 1 < p → HasInverse p d → 0 < d
is_some p zero above (v, is) =
    let some : 0 < p = omega (arith, above) in
    absurd (zero_has_none p 0 v above (mod-eq_of_lt some) is)
is_some p (suc d) above has = omega arith

-- the denominator of a chord, without a saturating difference
apart : (p x1 x2 : ℕ) → 0 < x2 + p - x1 → x2 + p - x1 + x1 ≡ x2 + p
apart p x1 x2 some = omega (arith, some)

gathered : (l d x : ℕ) → l * d + l * x ≡ l * (d + x)
gathered l d x = grind arith

spread_out : (l x p : ℕ) → l * (x + p) ≡ l * x + p * l
spread_out l x p = grind arith

spread : (p x1 x2 d l : ℕ) → d + x1 ≡ x2 + p → l * d + l * x1 ≡ l * x2 + p * l
spread p x1 x2 d l is = gathered l d x1 ∙ ap (λ s. l * s) is ∙ spread_out l x2 p

-- l d = y2 - y1 says the same of the slope as l x2 + y1 = l x1 + y2
moved : (u v w y : ℕ) → u + v ≡ w → u + y + v ≡ w + y
moved u v w y is = omega (arith, is)

passed : (u v y : ℕ) → u + v + y ≡ u + y + v
passed u v y = omega arith

module _ (p x1 y1 x2 y2 d l : ℕ) (is : d + x1 ≡ x2 + p) where
  rise : (l * d + y1 + l * x1) % p ≡ (l * x2 + y1) % p
  rise = equals p _ _ (moved (l * d) (l * x1) (l * x2 + p * l) y1 (spread p x1 x2 d l is) ∙ passed (l * x2) (p * l) y1) ∙ add-mul-mod_self_left (l * x2 + y1) p l

  turned_sum : l * x1 + y2 ≡ y2 + l * x1
  turned_sum = omega arith

  by_rise : (l * x2 + y1) % p ≡ (l * x1 + y2) % p → (l * d + y1) % p ≡ y2 % p
  by_rise e = cancelled p (l * d + y1) y2 (l * x1) (rise ∙ e ∙ equals p _ _ turned_sum)

  from_rise : (l * d + y1) % p ≡ y2 % p → (l * x2 + y1) % p ≡ (l * x1 + y2) % p
  from_rise e = sym rise ∙ sums p (l * d + y1) y2 (l * x1) (l * x1) e refl ∙ equals p _ _ (sym turned_sum)

-- a number divided by d, of which i is an inverse
taken : (u i d : ℕ) → u * i * d ≡ u * (d * i)
taken u i d = grind arith

one_times : (u : ℕ) → u * 1 ≡ u
one_times u = omega arith

divided_by : (p u d i : ℕ) → 1 < p → IsInverse p d i → (u * i * d) % p ≡ u % p
divided_by p u d i above is = equals p _ _ (taken u i d) ∙ products p u u (d * i) 1 refl (is ∙ sym (one_below p above)) ∙ equals p _ _ (one_times u)

mapped : {A B : Type 0} (f : A → B) (o : Option A) (a : A) → o ≡ Some a → option_map f o ≡ Some (f a)
mapped f o a is = ap (option_map f) is

was_mapped : {A B : Type 0} (f : A → B) (o : Option A) (b : B) → option_map f o ≡ Some b → (a : A) × (o ≡ Some a) × (f a ≡ b)
was_mapped f None b e = absurd (none-some b e)
was_mapped f (Some a) b e = (a, refl, same_Some (f a) b e)

module _ (p : ℕ) (above : 1 < p) where
  -- the slope of a chord that is found is one, and each is congruent to it
  module _ (x1 y1 x2 y2 : ℕ) where
    abbrev denominator : ℕ
    denominator = x2 + p - x1

    found_rise : (i : ℕ) → IsInverse p denominator i → (difference p y2 y1 * i * denominator + y1) % p ≡ y2 % p
    found_rise i is = sums p (difference p y2 y1 * i * denominator) (difference p y2 y1) y1 y1 (divided_by p (difference p y2 y1) denominator i above is) refl
        ∙ difference_is p y1 y2 above

    chord_back : (l : ℕ) → chord_slope p x1 y1 x2 y2 ≡ Some l → IsChord p x1 y1 x2 y2 l
    chord_back l e =
        let m = was_mapped (λ i. difference p y2 y1 * i) (inverse_of p denominator) l e in
        let is = found_is p denominator m.0 m.1 in
        let has : HasInverse p denominator = (m.0, is) in
        subst (IsChord p x1 y1 x2 y2) m.2 (record {
          invertible = has;
          slope = from_rise p x1 y1 x2 y2 denominator (difference p y2 y1 * m.0) (apart p x1 x2 (is_some p denominator above has)) (found_rise m.0 is);
        })

    chord_found : (l : ℕ) → IsChord p x1 y1 x2 y2 l → (k : ℕ) × (chord_slope p x1 y1 x2 y2 ≡ Some k) × (l % p ≡ k % p)
    chord_found l is =
        let found = inverse_found p denominator above is.invertible in
        let inverse = found_is p denominator found.0 found.1 in
        let k = difference p y2 y1 * found.0 in
        let rises = by_rise p x1 y1 x2 y2 denominator l (apart p x1 x2 (is_some p denominator above is.invertible)) is.slope in (
          k,
          mapped (λ i. difference p y2 y1 * i) (inverse_of p denominator) found.0 found.1,
          divided p l k denominator above is.invertible (cancelled p (l * denominator) (k * denominator) y1 (rises ∙ sym (found_rise found.0 inverse))),
        )

  -- and so of a tangent
  module _ (a x y : ℕ) where
    tangent_back : (l : ℕ) → tangent_slope p a x y ≡ Some l → IsTangent p a x y l
    tangent_back l e =
        let m = was_mapped (λ i. (3 * (x * x) + a) * i) (inverse_of p (2 * y)) l e in
        let is = found_is p (2 * y) m.0 m.1 in
        subst (IsTangent p a x y) m.2 (record { invertible = (m.0, is); slope = divided_by p (3 * (x * x) + a) (2 * y) m.0 above is })

    tangent_found : (l : ℕ) → IsTangent p a x y l → (k : ℕ) × (tangent_slope p a x y ≡ Some k) × (l % p ≡ k % p)
    tangent_found l is =
        let found = inverse_found p (2 * y) above is.invertible in
        let inverse = found_is p (2 * y) found.0 found.1 in
        let k = (3 * (x * x) + a) * found.0 in (
          k,
          mapped (λ i. (3 * (x * x) + a) * i) (inverse_of p (2 * y)) found.0 found.1,
          divided p l k (2 * y) above is.invertible (is.slope ∙ sym (divided_by p (3 * (x * x) + a) (2 * y) found.0 above inverse)),
        )

  -- ---- the third point

  positive : 0 < p
  positive = omega (arith, above)

  rest_below : (n : ℕ) → n % p < p
  rest_below n = mod-lt n positive

  same_below : (u v : ℕ) → u < p → v < p → u % p ≡ v % p → u ≡ v
  same_below u v less small e = sym (mod-eq_of_lt less) ∙ e ∙ mod-eq_of_lt small

  -- what is left of a difference, with what was taken away
  rest_is : (u v : ℕ) → (difference p u v % p + v) % p ≡ u % p
  rest_is u v = sums p (difference p u v % p) (difference p u v) v v (mod-mod (difference p u v) p) refl ∙ difference_is p v u above

  three : (u v w : ℕ) → u + v + w ≡ u + (v + w)
  three u v w = omega arith

  module _ (x1 y1 x2 k : ℕ) where
    third_back : IsThird p x1 y1 x2 k (third_x p x1 x2 k) (difference p (k * x1) (y1 + k * third_x p x1 x2 k) % p)
    third_back = record {
      x_below = rest_below (difference p (k * k) (x1 + x2));
      y_below = rest_below (difference p (k * x1) (y1 + k * third_x p x1 x2 k));
      x = equals p _ _ (three (third_x p x1 x2 k) x1 x2) ∙ rest_is (k * k) (x1 + x2);
      y = equals p _ _ (three (difference p (k * x1) (y1 + k * third_x p x1 x2 k) % p) y1 (k * third_x p x1 x2 k)) ∙ rest_is (k * x1) (y1 + k * third_x p x1 x2 k);
    }

    third_found : (l x3 y3 : ℕ) → l % p ≡ k % p → IsThird p x1 y1 x2 l x3 y3 → third_of p x1 y1 x2 k ≡ At x3 y3
    third_found l x3 y3 same is =
        let xs : third_x p x1 x2 k ≡ x3 = same_below _ _ (rest_below (difference p (k * k) (x1 + x2))) is.x_below
        (cancelled p (third_x p x1 x2 k) x3 (x1 + x2) (rest_is (k * k) (x1 + x2) ∙ sym (products p l k l k same same) ∙ sym is.x
        ∙ equals p _ _ (three x3 x1 x2))) in
        let lines : (k * x3) % p ≡ (l * x3) % p = products p k l x3 x3 (sym same) refl in
        let ys : difference p (k * x1) (y1 + k * x3) % p ≡ y3 = same_below _ _ (rest_below (difference p (k * x1) (y1 + k * x3))) is.y_below
        (cancelled p (difference p (k * x1) (y1 + k * x3) % p) y3 (y1 + k * x3) (rest_is (k * x1) (y1 + k * x3)
        ∙ products p k l x1 x1 (sym same) refl ∙ sym is.y ∙ equals p _ _ (three y3 y1 (l * x3))
        ∙ sums p y3 y3 (y1 + l * x3) (y1 + k * x3) refl (sums p y1 y1 (l * x3) (k * x3) refl (sym lines)))) in
        subst (λ t. At t (difference p (k * x1) (y1 + k * t) % p) ≡ At x3 y3) (sym xs) (ap (At x3) ys)

  -- ---- sums

  -- points with one x have no chord
  no_chord : (x1 y1 x2 y2 l : ℕ) → x1 ≡ x2 → IsChord p x1 y1 x2 y2 l → ⊥
  no_chord x1 y1 x2 y2 l same is =
      let none : (x2 + p - x1) % p ≡ 0 = equals p _ _ (omega (arith, same)) ∙ add-mul-mod_self_left 0 p 1 ∙ mod-eq_of_lt positive in
      zero_has_none p (x2 + p - x1) (is.invertible).0 above none (is.invertible).1

  -- and opposite points no tangent
  no_tangent : (a x y1 y2 l : ℕ) → y1 ≡ y2 → (y1 + y2) % p ≡ 0 → IsTangent p a x y1 l → ⊥
  no_tangent a x y1 y2 l same none is =
      zero_has_none p (2 * y1) (is.invertible).0 above (equals p _ _ (omega (arith, same)) ∙ none) (is.invertible).1

  module _ (a x1 y1 x2 y2 : ℕ) where
    abbrev opposite : Bool
    opposite = x1 == x2 && (y1 + y2) % p == 0

    abbrev one_point : Bool
    one_point = x1 == x2 && y1 == y2

    no_opposite : (l : ℕ) → IsSlope p a x1 y1 x2 y2 l → opposite ≡ false
    no_opposite l (inl chord) = and_left (x1 == x2) _ (ne_eqb x1 x2 (λ same. no_chord x1 y1 x2 y2 l same chord))
    no_opposite l (inr tangent) = and_right (x1 == x2) _ (ne_eqb ((y1 + y2) % p) 0 (λ none. no_tangent a x1 y1 y2 l tangent.1 none tangent.2))

    slope_found : (l : ℕ) → IsSlope p a x1 y1 x2 y2 l → (k : ℕ) × (slope_of p a x1 y1 x2 y2 ≡ Some k) × (l % p ≡ k % p)
    slope_found l (inl chord) =
        let found = chord_found x1 y1 x2 y2 l chord in
        let two : one_point ≡ false = and_left (x1 == x2) _ (ne_eqb x1 x2 (λ same. no_chord x1 y1 x2 y2 l same chord)) in
        (found.0, ap (λ (b : Bool). if b then tangent_slope p a x1 y1 else chord_slope p x1 y1 x2 y2) two ∙ found.1, found.2)
    slope_found l (inr tangent) =
        let found = tangent_found a x1 y1 l tangent.2 in
        let one : one_point ≡ true = and_from (x1 == x2) _ (eq-eqb x1 x2 tangent.0) (eq-eqb y1 y2 tangent.1) in
        (found.0, ap (λ (b : Bool). if b then tangent_slope p a x1 y1 else chord_slope p x1 y1 x2 y2) one ∙ found.1, found.2)

    slope_back : (l : ℕ) → slope_of p a x1 y1 x2 y2 ≡ Some l → IsSlope p a x1 y1 x2 y2 l
    slope_back l e = by one_point refl e
      where
        by : (b : Bool) → one_point ≡ b → (if b then tangent_slope p a x1 y1 else chord_slope p x1 y1 x2 y2) ≡ Some l → IsSlope p a x1 y1 x2 y2 l
        by true one is = let parts = and_parts (x1 == x2) _ one in inr (eqb-true x1 x2 parts.0, eqb-true y1 y2 parts.1, tangent_back a x1 y1 l is)
        by false two is = inl (chord_back x1 y1 x2 y2 l is)

  -- the sum is found
  pub sum_found : (a : ℕ) (q s r : Point) → IsSum p a q s r → sum_of p a q s ≡ Some r
  sum_found a Infinity s r is = ap Some (sym is)
  sum_found a (At x1 y1) Infinity r is = ap Some (sym is)
  sum_found a (At x1 y1) (At x2 y2) Infinity is =
      ap (λ (b : Bool). if b then Some Infinity else option_map (third_of p x1 y1 x2) (slope_of p a x1 y1 x2 y2))
      (and_from (x1 == x2) _ (eq-eqb x1 x2 is.0) (eq-eqb ((y1 + y2) % p) 0 is.1))
  sum_found a (At x1 y1) (At x2 y2) (At x3 y3) is =
      let found = slope_found a x1 y1 x2 y2 is.0 is.1 in
      ap (λ (b : Bool). if b then Some Infinity else option_map (third_of p x1 y1 x2) (slope_of p a x1 y1 x2 y2)) (no_opposite a x1 y1 x2 y2 is.0 is.1)
      ∙ mapped (third_of p x1 y1 x2) (slope_of p a x1 y1 x2 y2) found.0 found.1
      ∙ ap Some (third_found x1 y1 x2 found.0 is.0 x3 y3 found.2 is.2)

  -- what is found is the sum
  sum_by : (a x1 y1 x2 y2 : ℕ) (r : Point) (b : Bool) → opposite a x1 y1 x2 y2 ≡ b
      → (if b then Some Infinity else option_map (third_of p x1 y1 x2) (slope_of p a x1 y1 x2 y2)) ≡ Some r → IsSum p a (At x1 y1) (At x2 y2) r
  sum_by a x1 y1 x2 y2 r true is e =
      let parts = and_parts (x1 == x2) _ is in
      subst (IsSum p a (At x1 y1) (At x2 y2)) (same_Some Infinity r e) (eqb-true x1 x2 parts.0, eqb-true ((y1 + y2) % p) 0 parts.1)
  sum_by a x1 y1 x2 y2 r false is e =
      let m = was_mapped (third_of p x1 y1 x2) (slope_of p a x1 y1 x2 y2) r e in
      subst (IsSum p a (At x1 y1) (At x2 y2)) m.2 (m.0, slope_back a x1 y1 x2 y2 m.0 m.1, third_back x1 y1 x2 m.0)

  pub sum_back : (a : ℕ) (q s r : Point) → sum_of p a q s ≡ Some r → IsSum p a q s r
  sum_back a Infinity s r e = sym (same_Some s r e)
  sum_back a (At x1 y1) Infinity r e = sym (same_Some (At x1 y1) r e)
  sum_back a (At x1 y1) (At x2 y2) r e = sum_by a x1 y1 x2 y2 r (opposite a x1 y1 x2 y2) refl e
