-- Shared secrets are what their functions say.
use Rattle.std.proofs.Common.{◌≡◌, ◌<◌, ◌*◌, ◌∙◌, ℕ, Bool, true, false, List, length, get_or, Option, Some, None, if◌then◌else◌, refl, sym, ap, subst, arith}
use Rattle.std.specs.Prelude.{◌&&◌, nat_lt, option_and_then}
use Rattle.std.proofs.lemmas.Bool.{and_from, and_parts, false_from_ne_true, lt-ltb, ltb-true}
use Rattle.jc_curves.specs.Calls.{IsBelowOrder, IsPointOf, IsSharedSecret, RefusesSecret}
use Rattle.jc_curves.specs.Curves.{CurveNumbers, IsFieldNumber, IsPoint, octets}
use Rattle.jc_curves.specs.Points.{At, Infinity, IsMultiple, Point}
use Rattle.jc_curves.specs.declared.curves.Parameters.{Parameters}
use Rattle.jc_curves.specs.declared.points.PointRefusal.{PointRefusal}
use Rattle.jc_curves.specs.declared.points.PointRefusal.TheVariants as refusal
use Rattle.jc_public_keys.specs.CurveBytes.{IsCurveOf, a_of, b_of, bytes_of, is_curve, n_of, p_of, point_in, x_bytes}
use Rattle.jc_public_keys.specs.CurveSums.{multiple_of}
use Rattle.jc_public_keys.specs.SharedSecrets.{shared_point}
use Rattle.jc_public_keys.proofs.BytesOfNumbers.{bytes_from}
use Rattle.jc_public_keys.proofs.CurvesFound.{none_read, point_read}
use Rattle.jc_public_keys.proofs.MultiplesFound.{multiple_back, multiple_found}

then_some : {A B : Type 0} (f : A → Option B) (o : Option A) (a : A) (b : B) → o ≡ Some a → f a ≡ Some b → option_and_then f o ≡ Some b
then_some f o a b first second = ap (option_and_then f) first ∙ second

then_none : {A B : Type 0} (f : A → Option B) (o : Option A) (a : A) → o ≡ Some a → f a ≡ None → option_and_then f o ≡ None
then_none f o a first second = ap (option_and_then f) first ∙ second

pub none_multiple : (p a k : ℕ) (q : Point) → 1 < p → ((r : Point) → IsMultiple p a k q r → ⊥) → (o : Option Point) → multiple_of p a k q ≡ o → o ≡ None
none_multiple p a k q above never None e = refl
none_multiple p a k q above never (Some r) e = absurd (never r (multiple_back p above a k q r e))

either_none : (t : Bool) → ◌≡◌ {A = Option Point} (if t then None else None) None
either_none true = refl
either_none false = refl

-- no secret of parameters that describe no curve
pub no_curve : (parameters : Parameters) (d factor : ℕ) (public : List ℕ) → is_curve (bytes_of parameters) ≡ false → shared_point (bytes_of parameters) d factor public ≡ None
no_curve parameters d factor public e =
    ap (λ (t : Bool). if t && (nat_lt 0 d && nat_lt d (n_of (bytes_of parameters)))
    then option_and_then (multiple_of (p_of (bytes_of parameters)) (a_of (bytes_of parameters)) (d * factor))
    (point_in (p_of (bytes_of parameters)) (a_of (bytes_of parameters)) (b_of (bytes_of parameters)) (length parameters.field.now) public) else None) e

module _ (parameters : Parameters) (c : CurveNumbers) (is : IsCurveOf parameters c) (passes : is_curve (bytes_of parameters) ≡ true) (d factor : ℕ) (public : List ℕ) where
  abbrev multiple_with : Point → Option Point
  multiple_with = multiple_of (p_of (bytes_of parameters)) (a_of (bytes_of parameters)) (d * factor)

  abbrev decoded : Option Point
  decoded = point_in (p_of (bytes_of parameters)) (a_of (bytes_of parameters)) (b_of (bytes_of parameters)) (length parameters.field.now) public

  above : 1 < p_of (bytes_of parameters)
  above = let field : IsFieldNumber (p_of (bytes_of parameters)) = subst IsFieldNumber (is.described).p (is.described).field in let three = field.1 in omega (arith, three)

  in_order : IsBelowOrder c d → (is_curve (bytes_of parameters) && (nat_lt 0 d && nat_lt d (n_of (bytes_of parameters)))) ≡ true
  in_order below = and_from (is_curve (bytes_of parameters)) _ passes (and_from (nat_lt 0 d) _ (lt-ltb 0 d below.0)
      (lt-ltb d (n_of (bytes_of parameters)) (subst (λ n. d < n) (is.described).n below.1)))

  with_order : IsBelowOrder c d → shared_point (bytes_of parameters) d factor public ≡ option_and_then multiple_with decoded
  with_order below = ap (λ (t : Bool). if t then option_and_then multiple_with decoded else None) (in_order below)

  read_point : (x y : ℕ) → IsPointOf c x y public → decoded ≡ Some (At x y)
  read_point x y point = point_read (p_of (bytes_of parameters)) (a_of (bytes_of parameters)) (b_of (bytes_of parameters)) (length parameters.field.now) public x y
      (subst (λ n. IsPoint (p_of (bytes_of parameters)) (a_of (bytes_of parameters)) (b_of (bytes_of parameters)) n x y public) is.size
      (subst (λ n. IsPoint (p_of (bytes_of parameters)) (a_of (bytes_of parameters)) n (octets c.p_bits) x y public) (is.described).b
      (subst (λ n. IsPoint (p_of (bytes_of parameters)) n c.b (octets c.p_bits) x y public) (is.described).a
      (subst (λ n. IsPoint n c.a c.b (octets c.p_bits) x y public) (is.described).p point))))

  no_point : ((x y : ℕ) → IsPointOf c x y public → ⊥) → decoded ≡ None
  no_point none = none_read (p_of (bytes_of parameters)) (a_of (bytes_of parameters)) (b_of (bytes_of parameters)) (length parameters.field.now) public (λ x y point. none x y
      (subst (λ n. IsPoint n c.a c.b (octets c.p_bits) x y public) (sym (is.described).p)
      (subst (λ n. IsPoint (p_of (bytes_of parameters)) n c.b (octets c.p_bits) x y public) (sym (is.described).a)
      (subst (λ n. IsPoint (p_of (bytes_of parameters)) (a_of (bytes_of parameters)) n (octets c.p_bits) x y public) (sym (is.described).b)
      (subst (λ n. IsPoint (p_of (bytes_of parameters)) (a_of (bytes_of parameters)) (b_of (bytes_of parameters)) n x y public) (sym is.size) point)))))

  multiple_is : (q r : Point) → IsMultiple c.p c.a (d * factor) q r → multiple_with q ≡ Some r
  multiple_is q r m = multiple_found (p_of (bytes_of parameters)) above (a_of (bytes_of parameters)) (d * factor) q r
      (subst (λ n. IsMultiple (p_of (bytes_of parameters)) n (d * factor) q r) (is.described).a (subst (λ n. IsMultiple n c.a (d * factor) q r) (is.described).p m))

  no_multiple : (q : Point) → ((r : Point) → IsMultiple c.p c.a (d * factor) q r → ⊥) → multiple_with q ≡ None
  no_multiple q none = none_multiple (p_of (bytes_of parameters)) (a_of (bytes_of parameters)) (d * factor) q above (λ r m. none r
      (subst (λ n. IsMultiple n c.a (d * factor) q r) (sym (is.described).p) (subst (λ n. IsMultiple (p_of (bytes_of parameters)) n (d * factor) q r) (sym (is.described).a) m)))
      (multiple_with q) refl

  -- the point that both sides share
  shared : IsBelowOrder c d → (x y : ℕ) → IsPointOf c x y public → (r : Point) → IsMultiple c.p c.a (d * factor) (At x y) r
      → shared_point (bytes_of parameters) d factor public ≡ Some r
  shared below x y point r m = with_order below ∙ then_some multiple_with decoded (At x y) r (read_point x y point) (multiple_is (At x y) r m)

  -- where nothing is agreed
  pub not_shared : (why : PointRefusal) → RefusesSecret c d factor public why
      → (f : Point → Option (List ℕ)) → f Infinity ≡ None → option_and_then f (shared_point (bytes_of parameters) d factor public) ≡ None
  not_shared refusal.PrivateKey none f at =
      ap (option_and_then f) (ap (λ (t : Bool). if t then option_and_then multiple_with decoded else None) (outside none))
    where
      outside : (IsBelowOrder c d → ⊥) → (is_curve (bytes_of parameters) && (nat_lt 0 d && nat_lt d (n_of (bytes_of parameters)))) ≡ false
      outside never = false_from_ne_true _ (λ e.
          let first = and_parts (is_curve (bytes_of parameters)) _ e in
          let both = and_parts (nat_lt 0 d) _ first.1 in
          never (ltb-true 0 d both.0, subst (λ n. d < n) (sym (is.described).n) (ltb-true d (n_of (bytes_of parameters)) both.1)))
  not_shared refusal.NotAPoint none f at = ap (option_and_then f) (when (nat_lt 0 d && nat_lt d (n_of (bytes_of parameters))))
    where
      when : (t : Bool) → (if is_curve (bytes_of parameters) && t then option_and_then multiple_with decoded else None) ≡ None
      when true = ap (λ (o : Option Point). if is_curve (bytes_of parameters) && true then option_and_then multiple_with o else None) (no_point none) ∙ either_none (is_curve (bytes_of parameters) && true)
      when false = ap (λ (o : Option Point). if is_curve (bytes_of parameters) && false then option_and_then multiple_with o else None) (no_point none) ∙ either_none (is_curve (bytes_of parameters) && false)
  not_shared refusal.Infinity none f at = by (nat_lt 0 d && nat_lt d (n_of (bytes_of parameters))) refl
    where
      there : option_and_then multiple_with decoded ≡ Some Infinity
      there = then_some multiple_with decoded (At none.0 none.1) Infinity (read_point none.0 none.1 none.2)
          (multiple_is (At none.0 none.1) Infinity (none.3).is)

      by : (t : Bool) → (nat_lt 0 d && nat_lt d (n_of (bytes_of parameters))) ≡ t → option_and_then f (shared_point (bytes_of parameters) d factor public) ≡ None
      by true e = ap (option_and_then f) (ap (λ (t : Bool). if t then option_and_then multiple_with decoded else None)
          (and_from (is_curve (bytes_of parameters)) _ passes e) ∙ there) ∙ at
      by false e = ap (option_and_then f) (ap (λ (t : Bool). if t then option_and_then multiple_with decoded else None)
          (ap (λ (t : Bool). is_curve (bytes_of parameters) && t) e ∙ ap (λ (t : Bool). t && false) passes))
  not_shared refusal.NotAField none f at = by (is_curve (bytes_of parameters) && (nat_lt 0 d && nat_lt d (n_of (bytes_of parameters))))
    where
      nothing : option_and_then multiple_with decoded ≡ None
      nothing = then_none multiple_with decoded (At none.0 none.1) (read_point none.0 none.1 none.2) (no_multiple (At none.0 none.1) none.3)

      by : (t : Bool) → option_and_then f (if t then option_and_then multiple_with decoded else None) ≡ None
      by true = ap (option_and_then f) nothing
      by false = refl

  -- what is agreed
  pub agreed : (to : List ℕ) → ((k : ℕ) → get_or to k 0 < 256) → length to ≡ octets c.p_bits → IsSharedSecret c d factor public to
      → option_and_then (x_bytes (length parameters.field.now)) (shared_point (bytes_of parameters) d factor public) ≡ Some to
  agreed to small long secret =
      then_some (x_bytes (length parameters.field.now)) (shared_point (bytes_of parameters) d factor public) (At secret.3 secret.4) to
      (shared secret.0 secret.1 secret.2 secret.5 (At secret.3 secret.4) (secret.6).is)
      (ap Some (sym (bytes_from to (length parameters.field.now) secret.3 small (long ∙ is.size) secret.7)))
