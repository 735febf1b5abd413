-- Signatures: digests as numbers, and what is computed modulo n.
use Rattle.std.proofs.Common.{◌≡◌, ℕ, ◌+◌, ◌-◌, ◌*◌, ◌/◌, ◌%◌, ◌^◌, ◌<◌, ◌≤◌, List, [], ◌∷◌, ◌++◌, Option, Some, None, MatchOption, get_or, length, length-append, take, drop, refl, sym, ap, subst, ◌∙◌, arith}
use Rattle.std.proofs.lemmas.List.{get_or-drop, length-drop, take-append-drop}
use Rattle.std.proofs.lemmas.Nat.{div-mul-add, mul-mod_first, pow-add, shr-shr}
use Rattle.std.proofs.Math.Nat.{mod-eq_of_lt, mod-mod, pow-zero}
use Rattle.std.proofs.Math.Seq.{take-length}
use Rattle.jc_numbers.specs.Inverses.{HasInverse, IsInverse}
use Rattle.jc_numbers.specs.Numbers.{number_of_bytes}
use Rattle.jc_numbers.proofs.NumbersOfBytes.{byte_first, byte_power, bytes_none, bytes_taken_lt}
use Rattle.jc_curves.specs.declared.multiples.CurvePoint.{CurvePoint}
use Rattle.jc_curves.specs.declared.points.PointRefusal.{PointRefusal}
use Rattle.jc_curves.specs.declared.points.PointRefusal.TheVariants as refusal
use Rattle.jc_curves.specs.Calls.{AreFactors, AreVerifiable, HasNoCoordinates, HasX, IsBelowOrder, IsPointOf, IsSignature, IsSumOfMultiples, IsTheSumOfMultiples, IsVerified, digest_number}
use Rattle.jc_curves.specs.Curves.{CurveNumbers}
use Rattle.jc_curves.specs.Points.{At, Infinity, IsMultiple, IsSum, IsTheMultiple, IsTheSum, Point}
use Rattle.jc_curves.specs.PointValues.{point_of}
use Rattle.jc_curves.proofs.Congruences.{sums, products, equals, inverse_of_same}

-- ---- digests

moved : (b p q n m : ℕ) → b * (p * q) + (n * q + m) ≡ (b * p + n) * q + m
moved b p q n m = grind arith

none_before : (q m : ℕ) → m ≡ 0 * q + m
none_before q m = grind arith

pub bytes_append : (xs ys : List ℕ) → number_of_bytes (xs ++ ys) ≡ number_of_bytes xs * 256 ^ length ys + number_of_bytes ys
bytes_append [] ys = none_before (256 ^ length ys) (number_of_bytes ys) ∙ ap (λ (n : ℕ). n * 256 ^ length ys + number_of_bytes ys) (sym bytes_none)
bytes_append (x ∷ xs) ys =
    byte_first x (xs ++ ys)
    ∙ (λ i. x * 256 ^ length-append xs ys i + bytes_append xs ys i)
    ∙ ap (λ (w : ℕ). x * w + (number_of_bytes xs * 256 ^ length ys + number_of_bytes ys)) (pow-add 256 (length xs) (length ys))
    ∙ moved x (256 ^ length xs) (256 ^ length ys) (number_of_bytes xs) (number_of_bytes ys)
    ∙ ap (λ (n : ℕ). n * 256 ^ length ys + number_of_bytes ys) (sym (byte_first x xs))

whole_quotient : (v : ℕ) → v / 1 ≡ v
whole_quotient v = omega arith

-- what bytes from a place on make
rest_below : (size : ℕ) (digest : List ℕ) → ((k : ℕ) → get_or digest k 0 < 256) → number_of_bytes (drop size digest) < 256 ^ length (drop size digest)
rest_below size digest bytes =
    let rest : List ℕ = drop size digest in
    let low : number_of_bytes (take (length rest) rest) < 256 ^ length rest =
    bytes_taken_lt rest (length rest) (omega arith) (λ k. subst (λ (b : ℕ). b < 256) (sym (get_or-drop size digest k 0)) (bytes (size + k))) in
    subst (λ (bs : List ℕ). number_of_bytes bs < 256 ^ length rest) (take-length rest) low

shifted : (v j k m : ℕ) → j + k ≡ m → v / 2 ^ j / 2 ^ k ≡ v / 2 ^ m
shifted v j k m is = shr-shr v j k ∙ ap (λ (n : ℕ). v / 2 ^ n) is

-- the number of the first bytes of a digest, without its lowest bits
pub digest_law : (digest : List ℕ) (v w bits size : ℕ) → ((k : ℕ) → get_or digest k 0 < 256) → size ≤ length digest → bits ≤ 8 * size
    → v ≡ number_of_bytes (take size digest) → w ≡ v / 2 ^ (8 * size - bits) → w ≡ digest_number bits digest
digest_law digest v w bits size bytes within fits is shift =
    let rest : List ℕ = drop size digest in
    let long : length rest ≡ length digest - size = length-drop size digest in
    let low : number_of_bytes rest < 256 ^ length rest = rest_below size digest bytes in
    let place : 256 ^ length rest ≡ 2 ^ (8 * (length digest - size)) =
    byte_power (length rest) ∙ ap (λ (n : ℕ). 2 ^ (8 * n)) long in
    let whole : number_of_bytes digest ≡ v * 256 ^ length rest + number_of_bytes rest =
    ap number_of_bytes (sym (take-append-drop size digest)) ∙ bytes_append (take size digest) rest
    ∙ ap (λ (n : ℕ). n * 256 ^ length rest + number_of_bytes rest) (sym is) in
    let front : number_of_bytes digest / 2 ^ (8 * (length digest - size)) ≡ v =
    (λ i. whole i / sym place i) ∙ div-mul-add v (256 ^ length rest) (number_of_bytes rest) low in
    shift ∙ ap (λ (n : ℕ). n / 2 ^ (8 * size - bits)) (sym front)
    ∙ shifted (number_of_bytes digest) (8 * (length digest - size)) (8 * size - bits) (8 * length digest - bits) (omega (arith, within, fits))

-- a digest of fewer bits than n
pub short_digest : (digest : List ℕ) (w bits : ℕ) → 8 * length digest ≤ bits → w ≡ number_of_bytes digest → w ≡ digest_number bits digest
short_digest digest w bits few is =
    let none : 0 ≡ 8 * length digest - bits = omega (arith, few) in
    is ∙ sym (ap (λ (d : ℕ). number_of_bytes digest / d) (ap (λ (n : ℕ). 2 ^ n) (sym none) ∙ pow-zero 2) ∙ whole_quotient (number_of_bytes digest))

-- ---- modulo n

pub inverse_mod : (n k v : ℕ) → IsInverse n (k % n) v → IsInverse n k v
inverse_mod n k v is = sym (mul-mod_first k v n) ∙ is

pub has_inverse_mod : (n k : ℕ) → HasInverse n k → HasInverse n (k % n)
has_inverse_mod n k has = inverse_of_same n k (k % n) (sym (mod-mod k n)) has

pub product_mod : (n k v u w : ℕ) → u ≡ k % n → w % n ≡ (u * v) % n → w % n ≡ (k * v) % n
product_mod n k v u w is made = made ∙ ap (λ (x : ℕ). (x * v) % n) is ∙ mul-mod_first k v n

pub signed_law : (n e r d re de ee along s : ℕ) → re ≡ r % n → de ≡ d % n → ee ≡ e % n → along % n ≡ (re * de) % n
    → s % n ≡ (ee + along) % n → s % n ≡ (e + r * d) % n
signed_law n e r d re de ee along s is_r is_d is_e is_along is =
    is ∙ sums n ee e along (r * d) (equals n _ _ is_e ∙ mod-mod e n)
    (is_along ∙ products n re r de d (equals n _ _ is_r ∙ mod-mod r n) (equals n _ _ is_d ∙ mod-mod d n))

pub proof_law : (n v sum total s : ℕ) → s % n ≡ (v * sum) % n → sum % n ≡ total % n → s % n ≡ (v * total) % n
proof_law n v sum total s is is_sum = is ∙ products n v v sum total refl is_sum

one_of : (k v w : ℕ) → v * (k * w) ≡ (k * v) * w
one_of k v w = grind arith

once : (v : ℕ) → v * 1 ≡ v
once v = omega arith

once_more : (w : ℕ) → 1 * w ≡ w
once_more w = omega arith

-- inverses of one number are congruent
pub one_inverse : (n k v w : ℕ) → 1 < n → IsInverse n k v → IsInverse n k w → v % n ≡ w % n
one_inverse n k v w above left right =
    let one : 1 % n ≡ 1 = mod-eq_of_lt above in
    equals n _ _ (sym (once v)) ∙ products n v v 1 (k * w) refl (one ∙ sym right) ∙ equals n _ _ (one_of k v w)
    ∙ products n (k * v) 1 w w (left ∙ sym one) refl ∙ equals n _ _ (once_more w)

-- ---- the one signature

same_x : (x y u v : ℕ) → At x y ≡ At u v → x ≡ u
same_x x y u v is = cc

not_infinite : {X : Type 0} (x y : ℕ) → At x y ≡ Infinity → X
not_infinite x y is = absurd (cc)

-- where a multiple has no coordinates, no r is the x of it
pub no_coordinates : {X : Type 0} (p a k : ℕ) (g : Point) (why : PointRefusal) (x y : ℕ) → HasNoCoordinates p a k g why → IsMultiple p a k g (At x y) → X
no_coordinates p a k g refusal.PrivateKey x y none has = absurd none
no_coordinates p a k g refusal.NotAPoint x y none has = absurd none
no_coordinates p a k g refusal.Infinity x y none has = not_infinite x y (none.one (At x y) has)
no_coordinates p a k g refusal.NotAField x y none has = absurd (none (At x y) has)

pub x_of_multiple : (p a k : ℕ) (g : Point) (x y u v : ℕ) → IsTheMultiple p a k g (At x y) → IsMultiple p a k g (At u v) → u ≡ x
x_of_multiple p a k g x y u v the has = same_x u v x y (the.one (At u v) has)

-- where s would be 0, there is no signature
pub no_s : (c : CurveNumbers) (d e k r x y v : ℕ) → 1 < c.n → IsTheMultiple c.p c.a k (At c.x c.y) (At x y) → r ≡ x % c.n → IsInverse c.n k v
    → (v * (e + r * d)) % c.n ≡ 0 → (r' s' : ℕ) → IsSignature c d e k r' s' → ⊥
no_s c d e k r x y v above the is_r inverse none r' s' signed =
    let same : r' ≡ r =
    signed.r_is ∙ ap (λ (u : ℕ). u % c.n) (x_of_multiple c.p c.a k (At c.x c.y) x y signed.x signed.y the signed.point) ∙ sym is_r in
    let zero_s : s' ≡ 0 =
    signed.s_is
    ∙ products c.n signed.inverse v (e + r' * d) (e + r * d) (one_inverse c.n k signed.inverse v above signed.inverted inverse)
    (equals c.n _ _ (ap (λ (u : ℕ). e + u * d) same)) ∙ none in
    absurd (omega (arith, zero_s, signed.s_some))

-- ---- verification

-- factors of one signature are one
pub one_factor : (n e s u v w x : ℕ) → 1 < n → IsInverse n s v → IsInverse n s w → u ≡ (e * v) % n → x ≡ (e * w) % n → x ≡ u
one_factor n e s u v w x above left right is other =
    other ∙ products n e e w v refl (one_inverse n s w v above right left) ∙ sym is

pub other_factors : (p a n e r s u v u' v' : ℕ) (g q t : Point) → 1 < n → AreFactors n e r s u v → AreFactors n e r s u' v'
    → IsSumOfMultiples p a u' g v' q t → IsSumOfMultiples p a u g v q t
other_factors p a n e r s u v u' v' g q t above factors other sum =
    subst (λ (k : ℕ). IsSumOfMultiples p a k g v q t) (one_factor n e s u factors.inverse other.inverse u' above factors.inverted other.inverted factors.u_is other.u_is)
    (subst (λ (k : ℕ). IsSumOfMultiples p a u' g k q t) (one_factor n r s v factors.inverse other.inverse v' above factors.inverted other.inverted factors.v_is other.v_is)
    sum)

-- bytes are one point
same_point : (c : CurveNumbers) (x y u v : ℕ) (bytes : List ℕ) → IsPointOf c x y bytes → IsPointOf c u v bytes → At u v ≡ At x y
same_point c x y u v bytes left right =
    λ i. At ((sym right.encoded.x_is ∙ left.encoded.x_is) i) ((sym right.encoded.y_is ∙ left.encoded.y_is) i)

-- a signature, and the point that is computed of it
pub verified_to : (c : CurveNumbers) (e r s u v f x y : ℕ) (public : List ℕ) (at : Point) → IsPointOf c x y public → IsBelowOrder c r
    → IsBelowOrder c s → AreFactors c.n e r s u v → f ≡ r → IsTheSumOfMultiples c.p c.a u (At c.x c.y) v (At x y) at → HasX c.n at f
    → (x : ℕ) × (y : ℕ) × IsPointOf c x y public × IsVerified c x y e r s
verified_to c e r s u v f x y public at point low_r low_s factors same the has = (
  x,
  y,
  point,
  record {
    r_below = low_r;
    s_below = low_s;
    u = u;
    v = v;
    factors = factors;
    point = at;
    sum = the.is;
    r_is = subst (λ (k : ℕ). HasX c.n at k) same has;
  },
)

sum_of_verified : (c : CurveNumbers) (e r s u v x y x' y' : ℕ) (public : List ℕ) → 1 < c.n → IsPointOf c x y public → AreFactors c.n e r s u v
    → IsPointOf c x' y' public → (verified : IsVerified c x' y' e r s)
    → IsSumOfMultiples c.p c.a u (At c.x c.y) v (At x y) verified.point
sum_of_verified c e r s u v x y x' y' public above point factors other verified =
    subst (λ (q : Point). IsSumOfMultiples c.p c.a u (At c.x c.y) v q verified.point) (same_point c x y x' y' public point other)
    (other_factors c.p c.a c.n e r s u v verified.u verified.v (At c.x c.y) (At x' y') verified.point above factors verified.factors verified.sum)

pub verified_from : (c : CurveNumbers) (e r s u v f x y : ℕ) (public : List ℕ) (at : Point) → 1 < c.n → IsPointOf c x y public
    → AreFactors c.n e r s u v → f ≡ r → IsTheSumOfMultiples c.p c.a u (At c.x c.y) v (At x y) at
    → (x : ℕ) × (y : ℕ) × IsPointOf c x y public × IsVerified c x y e r s → HasX c.n at f
verified_from c e r s u v f x y public at above point factors same the has =
    let verified = has.3 in
    let is : verified.point ≡ at =
    the.one verified.point (sum_of_verified c e r s u v x y has.0 has.1 public above point factors has.2 verified) in
    subst (λ (k : ℕ). HasX c.n at k) (sym same) (subst (λ (t : Point). HasX c.n t r) is verified.r_is)

pub no_sum_verified : (c : CurveNumbers) (e r s u v x y : ℕ) (public : List ℕ) → 1 < c.n → IsPointOf c x y public → AreFactors c.n e r s u v
    → ((t : Point) → IsSumOfMultiples c.p c.a u (At c.x c.y) v (At x y) t → ⊥)
    → (x : ℕ) × (y : ℕ) × IsPointOf c x y public × IsVerified c x y e r s → ⊥
no_sum_verified c e r s u v x y public above point factors none has =
    none has.3.point (sum_of_verified c e r s u v x y has.0 has.1 public above point factors has.2 has.3)

pub not_verifiable : (c : CurveNumbers) (x y e r s : ℕ) → (AreVerifiable c r s → ⊥) → IsVerified c x y e r s → ⊥
not_verifiable c x y e r s none verified = none (verified.r_below, verified.s_below, (verified.factors.inverse, verified.factors.inverted))

-- ---- the sum of two multiples

same_sum : (p a u : ℕ) (g : Point) (v : ℕ) (q left right t : Point) → IsTheMultiple p a u g left → IsTheMultiple p a v q right
    → (sum : IsSumOfMultiples p a u g v q t) → IsSum p a left right t
same_sum p a u g v q left right t the_left the_right sum =
    subst (λ (l : Point). IsSum p a l right t) (the_left.one sum.left sum.left_is)
    (subst (λ (r : Point). IsSum p a sum.left r t) (the_right.one sum.right sum.right_is) sum.sum)

pub sums_law : (p a u : ℕ) (g : Point) (v : ℕ) (q left right : Point) (field : List ℕ) (r : Option CurvePoint) → IsTheMultiple p a u g left
    → IsTheMultiple p a v q right → MatchOption r ((t : Point) → ¬ (IsSum p a left right t)) (λ at. IsTheSum p a left right (point_of field at))
    → MatchOption r ((t : Point) → ¬ (IsSumOfMultiples p a u g v q t)) (λ at. IsTheSumOfMultiples p a u g v q (point_of field at))
sums_law p a u g v q left right field None the_left the_right none =
    λ t sum. none t (same_sum p a u g v q left right t the_left the_right sum)
sums_law p a u g v q left right field (Some at) the_left the_right has = record {
  is = record { left = left; left_is = the_left.is; right = right; right_is = the_right.is; sum = has.is };
  one = λ t sum. has.one t (same_sum p a u g v q left right t the_left the_right sum);
}
