-- Curves and points that bytes describe are found by the tests of their bytes.
use Rattle.std.proofs.Common.{◌≡◌, ◌≢◌, ◌<◌, ◌≤◌, ◌+◌, ◌-◌, ◌*◌, ◌/◌, ◌%◌, ◌^◌, ◌∙◌, ℕ, zero, suc, Bool, true, false, not, List, length, get_or, Option, Some, None, if◌then◌else◌, refl, sym, ap, subst, arith}
use Rattle.std.specs.Prelude.{◌==◌, ◌&&◌, IfSome, MatchOption, nat_lt, slice_index}
use Rattle.std.proofs.lemmas.Bool.{and_from, and_parts, cond-false, cond-true, eq-eqb, eqb-true, eqb-false, false_from_ne_true, lt-ltb, ltb-true, ne_eqb, not-true, not_from_false}
use Rattle.std.proofs.lemmas.Option.{none-some, same_Some}
use Rattle.std.proofs.Math.Nat.{pow-suc}
use Rattle.jc_numbers.specs.Numbers.{IsBitLength}
use Rattle.jc_curves.specs.Curves.{AreCoefficients, AreShort, CurveNumbers, DescribeNone, IsDescribedBy, IsFieldNumber, IsGenerator, IsOrder, IsPoint}
use Rattle.jc_curves.specs.Points.{At, Point}
use Rattle.jc_curves.specs.declared.curves.CurveRefusal.{CurveRefusal}
use Rattle.jc_curves.specs.declared.curves.CurveRefusal.TheVariants as bad
use Rattle.jc_curves.specs.declared.curves.Parameters.{Parameters}
use Rattle.jc_public_keys.specs.CurveBytes.{AreNumbersOf, CurveBytes, IsCurveOf, a_of, b_of, bit_count, bits_of, bytes_of, curve_numbers, is_curve, is_on_curve, is_point, n_of, numbers_of, p_of, point_in, x_in, y_in}
use Rattle.jc_public_keys.proofs.BytesOfNumbers.{octets_are}

-- ---- points

module _ (p a b size : ℕ) (bytes : List ℕ) where
  -- bytes that are a point pass the test, and their coordinates are read
  point_passes : (x y : ℕ) → IsPoint p a b size x y bytes → is_point p a b size bytes ≡ true
  point_passes x y is =
      let e = is.encoded in
      let on : is_on_curve p a b x y ≡ true = and_from (nat_lt x p) _ (lt-ltb x p (is.on_curve).x_below)
      (and_from (nat_lt y p) _ (lt-ltb y p (is.on_curve).y_below) (eq-eqb ((y * y) % p) ((x * x * x + a * x + b) % p) (is.on_curve).equation)) in
      and_from (length bytes == 1 + 2 * size) _ (eq-eqb (length bytes) (1 + 2 * size) e.whole)
      (and_from (slice_index bytes 0 == 4) _ (eq-eqb (slice_index bytes 0) 4 e.form)
      (subst (λ u. is_on_curve p a b u (y_in size bytes) ≡ true) (sym e.x_is) (subst (λ v. is_on_curve p a b x v ≡ true) (sym e.y_is) on)))

  pub point_read : (x y : ℕ) → IsPoint p a b size x y bytes → point_in p a b size bytes ≡ Some (At x y)
  point_read x y is =
      ap (λ (t : Bool). if t then Some (At (x_in size bytes) (y_in size bytes)) else None) (point_passes x y is)
      ∙ (λ i. Some (At ((is.encoded).x_is i) ((is.encoded).y_is i)))

  -- and what passes is one
  passed_is : is_point p a b size bytes ≡ true → IsPoint p a b size (x_in size bytes) (y_in size bytes) bytes
  passed_is e =
      let whole = and_parts (length bytes == 1 + 2 * size) _ e in
      let form = and_parts (slice_index bytes 0 == 4) _ whole.1 in
      let x = and_parts (nat_lt (x_in size bytes) p) _ form.1 in
      let y = and_parts (nat_lt (y_in size bytes) p) _ x.1 in
      record {
        encoded = record { whole = eqb-true (length bytes) (1 + 2 * size) whole.0; form = eqb-true (slice_index bytes 0) 4 form.0; x_is = refl; y_is = refl };
        on_curve = record { x_below = ltb-true (x_in size bytes) p x.0; y_below = ltb-true (y_in size bytes) p y.0; equation = eqb-true _ _ y.1 };
      }

  -- so where nothing is a point, none is read
  none_passes : ((x y : ℕ) → IsPoint p a b size x y bytes → ⊥) → is_point p a b size bytes ≡ false
  none_passes not_one = false_from_ne_true (is_point p a b size bytes) (λ e. not_one (x_in size bytes) (y_in size bytes) (passed_is e))

  pub none_read : ((x y : ℕ) → IsPoint p a b size x y bytes → ⊥) → point_in p a b size bytes ≡ None
  none_read not_one = ap (λ (t : Bool). if t then Some (At (x_in size bytes) (y_in size bytes)) else None) (none_passes not_one)

  -- what is read is a point
  read_is : (q : Point) (t : Bool) → is_point p a b size bytes ≡ t → (if t then Some (At (x_in size bytes) (y_in size bytes)) else None) ≡ Some q
      → (x : ℕ) × (y : ℕ) × (q ≡ At x y) × IsPoint p a b size x y bytes
  read_is q true is e = (x_in size bytes, y_in size bytes, sym (same_Some (At (x_in size bytes) (y_in size bytes)) q e), passed_is is)
  read_is q false is e = absurd (none-some q e)

  pub point_is : (q : Point) → point_in p a b size bytes ≡ Some q → (x : ℕ) × (y : ℕ) × (q ≡ At x y) × IsPoint p a b size x y bytes
  point_is q e = read_is q (is_point p a b size bytes) refl e

-- ---- curves

pub some_first_byte : (bytes : List ℕ) → (get_or bytes 0 0 ≡ 0 → ⊥) → 0 < get_or bytes 0 0
some_first_byte bytes other = by (get_or bytes 0 0) other
  where
    by : (n : ℕ) → (n ≡ 0 → ⊥) → 0 < n
    by zero isnt = absurd (isnt refl)
    by (suc n) isnt = omega arith

module _ (parameters : Parameters) (small : (k : ℕ) → get_or parameters.field.now k 0 < 256) (some : 0 < get_or parameters.field.now 0 0) where
  abbrev p : ℕ
  p = p_of (bytes_of parameters)

  abbrev size : ℕ
  size = length parameters.field.now

  some_first : not (slice_index parameters.field.now 0 == 0) ≡ true
  some_first = not_from_false (slice_index parameters.field.now 0 == 0) (ne_eqb (get_or parameters.field.now 0 0) 0 (λ zero_is. omega (arith, some, zero_is)))

  pub curve_found : (c : CurveNumbers) → IsDescribedBy parameters c → IsCurveOf parameters c
  curve_found c is = record {
    described = is;
    size = octets_are parameters.field.now c.p_bits small some (subst (λ n. IsBitLength n c.p_bits) is.p is.p_bits);
  }

  pub curve_passes : (c : CurveNumbers) → IsDescribedBy parameters c → is_curve (bytes_of parameters) ≡ true
  curve_passes c is =
      let found = curve_found c is in
      let field : IsFieldNumber p = subst IsFieldNumber is.p is.field in
      let order : IsOrder (n_of (bytes_of parameters)) = subst IsOrder is.n is.order in
      let generator : IsGenerator parameters c.p_bits c.x c.y = is.generator in
      and_from (not (slice_index parameters.field.now 0 == 0)) _ some_first
      (and_from (p % 2 == 1 && nat_lt 3 p) _ (and_from (p % 2 == 1) _ (eq-eqb (p % 2) 1 field.0) (lt-ltb 3 p field.1))
      (and_from (nat_lt (a_of (bytes_of parameters)) p && nat_lt (b_of (bytes_of parameters)) p) _
      (and_from (nat_lt (a_of (bytes_of parameters)) p) _ (lt-ltb (a_of (bytes_of parameters)) p (is.coefficients).0) (lt-ltb (b_of (bytes_of parameters)) p (is.coefficients).1))
      (and_from (is_point p (a_of (bytes_of parameters)) (b_of (bytes_of parameters)) size parameters.generator.now) _
      (point_passes p (a_of (bytes_of parameters)) (b_of (bytes_of parameters)) size parameters.generator.now c.x c.y
      (subst (λ n. IsPoint p (a_of (bytes_of parameters)) (b_of (bytes_of parameters)) n c.x c.y parameters.generator.now) found.size generator))
      (and_from (n_of (bytes_of parameters) % 2 == 1) _ (eq-eqb (n_of (bytes_of parameters) % 2) 1 order.0) (lt-ltb 1 (n_of (bytes_of parameters)) order.1)))))

  -- the parts of the test
  record Passed : Type 0 where
    field : IsFieldNumber p
    coefficients : AreCoefficients parameters
    generator : IsPoint p (a_of (bytes_of parameters)) (b_of (bytes_of parameters)) size (x_in size parameters.generator.now) (y_in size parameters.generator.now) parameters.generator.now
    order : IsOrder (n_of (bytes_of parameters))

  passed_parts : is_curve (bytes_of parameters) ≡ true → Passed
  passed_parts e =
      let first = and_parts (not (slice_index parameters.field.now 0 == 0)) _ e in
      let field = and_parts (p % 2 == 1 && nat_lt 3 p) _ first.1 in
      let odd = and_parts (p % 2 == 1) _ field.0 in
      let coefficients = and_parts (nat_lt (a_of (bytes_of parameters)) p && nat_lt (b_of (bytes_of parameters)) p) _ field.1 in
      let both = and_parts (nat_lt (a_of (bytes_of parameters)) p) _ coefficients.0 in
      let generator = and_parts (is_point p (a_of (bytes_of parameters)) (b_of (bytes_of parameters)) size parameters.generator.now) _ coefficients.1 in
      let order = and_parts (n_of (bytes_of parameters) % 2 == 1) _ generator.1 in
      record {
        field = (eqb-true (p % 2) 1 odd.0, ltb-true 3 p odd.1);
        coefficients = (ltb-true (a_of (bytes_of parameters)) p both.0, ltb-true (b_of (bytes_of parameters)) p both.1);
        generator = passed_is p (a_of (bytes_of parameters)) (b_of (bytes_of parameters)) size parameters.generator.now generator.0;
        order = (eqb-true (n_of (bytes_of parameters) % 2) 1 order.0, ltb-true 1 (n_of (bytes_of parameters)) order.1);
      }

  -- parameters of no curve do not pass
  refuted : AreShort parameters → (why : CurveRefusal) → DescribeNone parameters why → Passed → ⊥
  refuted short bad.Long none passed = none short
  refuted short bad.Field none passed = none passed.field
  refuted short bad.Coefficient none passed = none.1 passed.coefficients
  refuted short bad.Generator none passed =
      let octets_same = octets_are parameters.field.now none.1 small some none.2 in
      none.3 (x_in size parameters.generator.now) (y_in size parameters.generator.now)
      (subst (λ n. IsPoint p (a_of (bytes_of parameters)) (b_of (bytes_of parameters)) n (x_in size parameters.generator.now) (y_in size parameters.generator.now) parameters.generator.now)
      (sym octets_same) passed.generator)
  refuted short bad.Order none passed = none.1 passed.order

  pub curve_refused : AreShort parameters → (why : CurveRefusal) → DescribeNone parameters why → is_curve (bytes_of parameters) ≡ false
  curve_refused short why none = false_from_ne_true (is_curve (bytes_of parameters)) (λ e. refuted short why none (passed_parts e))

-- a first byte of 0 does not pass
pub curve_without : (parameters : Parameters) → get_or parameters.field.now 0 0 ≡ 0 → is_curve (bytes_of parameters) ≡ false
curve_without parameters zero_is = false_from_ne_true (is_curve (bytes_of parameters)) (λ e.
    let first = and_parts (not (slice_index parameters.field.now 0 == 0)) _ e in
    eqb-false (slice_index parameters.field.now 0) 0 (not-true (slice_index parameters.field.now 0 == 0) first.0) zero_is)

-- ---- bits

-- a power of 2 is above its exponent
above_exponent : (k : ℕ) → k < 2 ^ k
above_exponent zero = omega arith
above_exponent (suc k) = let before = above_exponent k in omega (arith, before, pow-suc 2 k)

one_less : (b : ℕ) → suc b - 1 ≡ b
one_less b = omega arith

least_of : (n b : ℕ) → IsBitLength n (suc b) → 2 ^ b ≤ n
least_of n b is = subst (λ (t : ℕ). 2 ^ t ≤ n) (one_less b) (is.1 (omega arith))

halved : (n b : ℕ) → IsBitLength n (suc b) → IsBitLength (n / 2) b
halved n zero is = (omega (arith, is.0, pow-suc 2 0), λ some. absurd (omega (arith, some)))
halved n (suc b) is =
    let least : 2 ^ suc b ≤ n = least_of n (suc b) is in
    let half : 2 ^ b ≤ n / 2 = omega (arith, least, pow-suc 2 b) in
    (omega (arith, is.0, pow-suc 2 (suc b)), λ some. subst (λ (t : ℕ). 2 ^ t ≤ n / 2) (sym (one_less b)) half)

counted : (bound n b : ℕ) → b ≤ bound → IsBitLength n b → bit_count bound n ≡ b
unfolding bit_count
counted zero n b few is = omega (arith, few)
counted (suc bound) n zero few is =
    let none : n ≡ 0 = omega (arith, is.0) in cond-true (n == 0) 0 (suc (bit_count bound (n / 2))) (eq-eqb n 0 none)
counted (suc bound) n (suc b) few is =
    let least : 2 ^ b ≤ n = least_of n b is in
    let some : n ≢ 0 = λ none. absurd (omega (arith, least, none, above_exponent b)) in
    cond-false (n == 0) 0 (suc (bit_count bound (n / 2))) (ne_eqb n 0 some)
    ∙ ap suc (counted bound (n / 2) b (omega (arith, few)) (halved n b is))

few_bits : (n b : ℕ) → IsBitLength n b → b ≤ n
few_bits n zero is = omega arith
few_bits n (suc b) is = let least : 2 ^ b ≤ n = least_of n b is in omega (arith, least, above_exponent b)

pub bits_are : (n b : ℕ) → IsBitLength n b → bits_of n ≡ b
bits_are n b is = counted n n b (few_bits n b is) is

-- ---- numbers

module _ (parameters : Parameters) (c : CurveNumbers) (one : parameters.cofactor ≡ 1) (is : IsCurveOf parameters c) where
  generator_at : IsPoint (p_of (bytes_of parameters)) (a_of (bytes_of parameters)) (b_of (bytes_of parameters)) (length parameters.field.now) c.x c.y
      parameters.generator.now
  generator_at = subst (λ n. IsPoint (p_of (bytes_of parameters)) (a_of (bytes_of parameters)) (b_of (bytes_of parameters)) n c.x c.y parameters.generator.now) is.size
      is.described.generator

  pub numbers_found : c ≡ numbers_of (bytes_of parameters)
  numbers_found = λ j. record {
    p = (is.described).p j;
    a = (is.described).a j;
    b = (is.described).b j;
    x = (sym (generator_at.encoded).x_is) j;
    y = (sym (generator_at.encoded).y_is) j;
    n = (is.described).n j;
    h = ((is.described).h ∙ one) j;
    p_bits = (sym (bits_are c.p c.p_bits (is.described).p_bits) ∙ ap bits_of (is.described).p) j;
    n_bits = (sym (bits_are c.n c.n_bits (is.described).n_bits) ∙ ap bits_of (is.described).n) j;
  }

  pub numbers_read : is_curve (bytes_of parameters) ≡ true → Some c ≡ curve_numbers (bytes_of parameters)
  unfolding curve_numbers
  numbers_read passes = ap Some numbers_found ∙ sym (ap (λ (t : Bool). if t then Some (numbers_of (bytes_of parameters)) else None) passes)

  pub numbers_are : AreNumbersOf (bytes_of parameters) c
  numbers_are =
      let field = (is.described).field in
      let order = (is.described).order in
      record {
        field = let three = field.1 in omega (arith, three);
        size = is.size;
        above = order.1;
        order = (is.described).n;
        counted = (is.described).n_bits;
        bits = sym (bits_are c.n c.n_bits (is.described).n_bits);
      }

-- no numbers of parameters that describe no curve
pub no_numbers : (c : CurveBytes) → is_curve c ≡ false → None ≡ curve_numbers c
unfolding curve_numbers
no_numbers c e = sym (ap (λ (t : Bool). if t then Some (numbers_of c) else None) e)

-- what is found of parameters with the cofactor 1
module _ (parameters : Parameters) (one : parameters.cofactor ≡ 1) where
  pub found_numbers : (found : Option CurveNumbers)
      → MatchOption found (is_curve (bytes_of parameters) ≡ false) (λ c. IsCurveOf parameters c × (is_curve (bytes_of parameters) ≡ true))
      → found ≡ curve_numbers (bytes_of parameters)
  found_numbers None none = no_numbers (bytes_of parameters) none
  found_numbers (Some c) is = numbers_read parameters c one is.0 is.1

  pub good_numbers : (found : Option CurveNumbers) → MatchOption found (is_curve (bytes_of parameters) ≡ false) (λ c. IsCurveOf parameters c × (is_curve (bytes_of parameters) ≡ true))
      → IfSome found (AreNumbersOf (bytes_of parameters))
  good_numbers None none = tt
  good_numbers (Some c) is = numbers_are parameters c one is.0
