-- What calls over bytes compute, and when they refuse.
use Rattle.std.specs.Prelude.{◌≡◌, ℕ, ◌+◌, ◌-◌, ◌*◌, ◌/◌, ◌%◌, ◌^◌, ◌<◌, List, length}
use Rattle.jc_numbers.specs.Inverses.{HasInverse, IsInverse}
use Rattle.jc_numbers.specs.Numbers.{number_of_bytes}
use Rattle.jc_curves.specs.declared.points.PointRefusal.{PointRefusal}
use Rattle.jc_curves.specs.declared.points.PointRefusal.TheVariants as refusal
use Rattle.jc_curves.specs.declared.signatures.SignatureRefusal.{SignatureRefusal}
use Rattle.jc_curves.specs.declared.signatures.SignatureRefusal.TheVariants as unsigned
use Rattle.jc_curves.specs.Curves.{CurveNumbers, IsEncodedPoint, IsPoint, octets}
use Rattle.jc_curves.specs.Points.{Point, Infinity, At, IsMultiple, IsSum, IsTheMultiple}

-- bytes are a point of the curve
abbrev pub IsPointOf : CurveNumbers → ℕ → ℕ → List ℕ → Type 0
IsPointOf c x y bytes = IsPoint c.p c.a c.b (octets c.p_bits) x y bytes

-- k is from 1 to n - 1
abbrev pub IsBelowOrder : CurveNumbers → ℕ → Type 0
IsBelowOrder c k = (0 < k) × (k < c.n)

-- ---- multiples

-- why a multiple has no coordinates
abbrev pub HasNoCoordinates : ℕ → ℕ → ℕ → Point → PointRefusal → Type 0
HasNoCoordinates p a k q refusal.Infinity = IsTheMultiple p a k q Infinity
HasNoCoordinates p a k q refusal.NotAField = (r : Point) → ¬ (IsMultiple p a k q r)
HasNoCoordinates p a k q refusal.NotAPoint = ⊥
HasNoCoordinates p a k q refusal.PrivateKey = ⊥

-- to is the multiple of a point that bytes are
abbrev pub IsWrittenMultiple : CurveNumbers → ℕ → List ℕ → List ℕ → Type 0
IsWrittenMultiple c k bytes to = (x : ℕ) × (y : ℕ) × (u : ℕ) × (v : ℕ)
    × IsPointOf c x y bytes × IsTheMultiple c.p c.a k (At x y) (At u v) × IsEncodedPoint (octets c.p_bits) u v to

-- why none is written
abbrev pub RefusesMultiple : CurveNumbers → ℕ → List ℕ → PointRefusal → Type 0
RefusesMultiple c k bytes refusal.NotAPoint = (x y : ℕ) → ¬ (IsPointOf c x y bytes)
RefusesMultiple c k bytes refusal.Infinity = (x : ℕ) × (y : ℕ) × IsPointOf c x y bytes × HasNoCoordinates c.p c.a k (At x y) refusal.Infinity
RefusesMultiple c k bytes refusal.NotAField = (x : ℕ) × (y : ℕ) × IsPointOf c x y bytes × HasNoCoordinates c.p c.a k (At x y) refusal.NotAField
RefusesMultiple c k bytes refusal.PrivateKey = ⊥

-- to is the public key of a private one
abbrev pub IsPublicKey : CurveNumbers → ℕ → List ℕ → Type 0
IsPublicKey c k to = IsBelowOrder c k × (u : ℕ) × (v : ℕ) × IsTheMultiple c.p c.a k (At c.x c.y) (At u v)
    × IsEncodedPoint (octets c.p_bits) u v to

abbrev pub RefusesPublicKey : CurveNumbers → ℕ → PointRefusal → Type 0
RefusesPublicKey c k refusal.PrivateKey = ¬ (IsBelowOrder c k)
RefusesPublicKey c k refusal.NotAPoint = ⊥
RefusesPublicKey c k refusal.Infinity = IsBelowOrder c k × HasNoCoordinates c.p c.a k (At c.x c.y) refusal.Infinity
RefusesPublicKey c k refusal.NotAField = IsBelowOrder c k × HasNoCoordinates c.p c.a k (At c.x c.y) refusal.NotAField

-- ---- agreement: to is the x of the public key's multiple by the private key d, times the factor

abbrev pub IsSharedSecret : CurveNumbers → ℕ → ℕ → List ℕ → List ℕ → Type 0
IsSharedSecret c d factor public to = IsBelowOrder c d × (x : ℕ) × (y : ℕ) × (u : ℕ) × (v : ℕ)
    × IsPointOf c x y public × IsTheMultiple c.p c.a (d * factor) (At x y) (At u v) × (number_of_bytes to ≡ u)

abbrev pub RefusesSecret : CurveNumbers → ℕ → ℕ → List ℕ → PointRefusal → Type 0
RefusesSecret c d factor public refusal.PrivateKey = ¬ (IsBelowOrder c d)
RefusesSecret c d factor public refusal.NotAPoint = (x y : ℕ) → ¬ (IsPointOf c x y public)
RefusesSecret c d factor public refusal.Infinity =
    (x : ℕ) × (y : ℕ) × IsPointOf c x y public × HasNoCoordinates c.p c.a (d * factor) (At x y) refusal.Infinity
RefusesSecret c d factor public refusal.NotAField =
    (x : ℕ) × (y : ℕ) × IsPointOf c x y public × HasNoCoordinates c.p c.a (d * factor) (At x y) refusal.NotAField

-- ---- ECDSA (SEC 1, 4.1)

-- the number of a digest: its leftmost bits, as many as n has (SEC 1, 4.1.3, step 5)
abbrev pub digest_number : ℕ → List ℕ → ℕ
digest_number n_bits digest = number_of_bytes digest / 2 ^ (8 * length digest - n_bits)

-- r and s are the signature of e under the private key d by k (SEC 1, 4.1.3): r is the x of k G, and s = (e + r d) / k, neither 0
pub record IsSignature (c : CurveNumbers) (d e k r s : ℕ) : Type 0 where
  pub x : ℕ
  pub y : ℕ
  pub point : IsMultiple c.p c.a k (At c.x c.y) (At x y)
  pub r_is : r ≡ x % c.n
  pub r_some : 0 < r
  pub inverse : ℕ
  pub inverted : IsInverse c.n k inverse
  pub s_is : s ≡ (inverse * (e + r * d)) % c.n
  pub s_some : 0 < s

-- t is u times g and v times q, added
pub record IsSumOfMultiples (p a u : ℕ) (g : Point) (v : ℕ) (q t : Point) : Type 0 where
  pub left : Point
  pub left_is : IsMultiple p a u g left
  pub right : Point
  pub right_is : IsMultiple p a v q right
  pub sum : IsSum p a left right t

-- t is the one such point
pub record IsTheSumOfMultiples (p a u : ℕ) (g : Point) (v : ℕ) (q t : Point) : Type 0 where
  pub is : IsSumOfMultiples p a u g v q t
  pub one : (s : Point) → IsSumOfMultiples p a u g v q s → s ≡ t

-- u is e / s and v is r / s
pub record AreFactors (n e r s u v : ℕ) : Type 0 where
  pub inverse : ℕ
  pub inverted : IsInverse n s inverse
  pub u_is : u ≡ (e * inverse) % n
  pub v_is : v ≡ (r * inverse) % n

-- a point has an x, which is r modulo n
abbrev pub HasX : ℕ → Point → ℕ → Type 0
HasX n Infinity r = ⊥
HasX n (At x y) r = r ≡ x % n

-- r and s are from 1 to n - 1, and s has an inverse
abbrev pub AreVerifiable : CurveNumbers → ℕ → ℕ → Type 0
AreVerifiable c r s = IsBelowOrder c r × IsBelowOrder c s × HasInverse c.n s

-- r and s are a signature of e under a public key (SEC 1, 4.1.4): r is the x of (e / s) G + (r / s) Q
pub record IsVerified (c : CurveNumbers) (qx qy e r s : ℕ) : Type 0 where
  pub r_below : IsBelowOrder c r
  pub s_below : IsBelowOrder c s
  pub u : ℕ
  pub v : ℕ
  pub factors : AreFactors c.n e r s u v
  pub point : Point
  pub sum : IsSumOfMultiples c.p c.a u (At c.x c.y) v (At qx qy) point
  pub r_is : HasX c.n point r

-- why nothing is signed
abbrev pub RefusesSignature : CurveNumbers → ℕ → ℕ → ℕ → SignatureRefusal → Type 0
RefusesSignature c d e k unsigned.PrivateKey = ¬ (IsBelowOrder c d)
RefusesSignature c d e k unsigned.Nonce = IsBelowOrder c d × (IsBelowOrder c k → (r s : ℕ) → ¬ (IsSignature c d e k r s))
