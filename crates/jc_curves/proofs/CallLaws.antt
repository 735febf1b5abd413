-- What calls over bytes make of multiples.
use Rattle.std.proofs.Common.{◌≡◌, ℕ, ◌*◌, List, Result, Ok, Err, MatchResult}
use Rattle.jc_numbers.specs.Numbers.{number_of_bytes}
use Rattle.jc_curves.specs.declared.points.PointRefusal.{PointRefusal}
use Rattle.jc_curves.specs.declared.points.PointRefusal.TheVariants as refusal
use Rattle.jc_curves.specs.Calls.{HasNoCoordinates, IsBelowOrder, IsPointOf, IsPublicKey, IsSharedSecret, IsWrittenMultiple, RefusesMultiple, RefusesPublicKey, RefusesSecret}
use Rattle.jc_curves.specs.Curves.{CurveNumbers, IsEncodedPoint, octets}
use Rattle.jc_curves.specs.Points.{At, IsTheMultiple, Point}

-- to is the multiple of q
abbrev pub IsMultipleAt : CurveNumbers → ℕ → Point → List ℕ → Type 0
IsMultipleAt c k q to = (u : ℕ) × (v : ℕ) × IsTheMultiple c.p c.a k q (At u v) × IsEncodedPoint (octets c.p_bits) u v to

refused_multiple : (c : CurveNumbers) (k x y : ℕ) (bytes : List ℕ) (why : PointRefusal) → IsPointOf c x y bytes
    → HasNoCoordinates c.p c.a k (At x y) why → RefusesMultiple c k bytes why
refused_multiple c k x y bytes refusal.PrivateKey point none = absurd none
refused_multiple c k x y bytes refusal.NotAPoint point none = absurd none
refused_multiple c k x y bytes refusal.Infinity point none = (x, y, point, none)
refused_multiple c k x y bytes refusal.NotAField point none = (x, y, point, none)

pub multiple_call : (c : CurveNumbers) (k x y : ℕ) (bytes to : List ℕ) (r : Result (Unit {0}) PointRefusal) → IsPointOf c x y bytes
    → MatchResult r (λ _. IsMultipleAt c k (At x y) to) (HasNoCoordinates c.p c.a k (At x y))
    → MatchResult r (λ _. IsWrittenMultiple c k bytes to) (RefusesMultiple c k bytes)
multiple_call c k x y bytes to (Ok done) point has = (x, y, has.0, has.1, point, has.2, has.3)
multiple_call c k x y bytes to (Err why) point none = refused_multiple c k x y bytes why point none

refused_key : (c : CurveNumbers) (k : ℕ) (why : PointRefusal) → IsBelowOrder c k → HasNoCoordinates c.p c.a k (At c.x c.y) why
    → RefusesPublicKey c k why
refused_key c k refusal.PrivateKey below none = absurd none
refused_key c k refusal.NotAPoint below none = absurd none
refused_key c k refusal.Infinity below none = (below, none)
refused_key c k refusal.NotAField below none = (below, none)

pub key_call : (c : CurveNumbers) (k : ℕ) (to : List ℕ) (r : Result (Unit {0}) PointRefusal) → IsBelowOrder c k
    → MatchResult r (λ _. IsMultipleAt c k (At c.x c.y) to) (HasNoCoordinates c.p c.a k (At c.x c.y))
    → MatchResult r (λ _. IsPublicKey c k to) (RefusesPublicKey c k)
key_call c k to (Ok done) below has = (below, has.0, has.1, has.2, has.3)
key_call c k to (Err why) below none = refused_key c k why below none

refused_secret : (c : CurveNumbers) (d factor x y : ℕ) (public : List ℕ) (why : PointRefusal) → IsPointOf c x y public
    → HasNoCoordinates c.p c.a (d * factor) (At x y) why → RefusesSecret c d factor public why
refused_secret c d factor x y public refusal.PrivateKey point none = absurd none
refused_secret c d factor x y public refusal.NotAPoint point none = absurd none
refused_secret c d factor x y public refusal.Infinity point none = (x, y, point, none)
refused_secret c d factor x y public refusal.NotAField point none = (x, y, point, none)

pub secret_call : (c : CurveNumbers) (d factor x y : ℕ) (public to : List ℕ) (r : Result (Unit {0}) PointRefusal) → IsBelowOrder c d
    → IsPointOf c x y public
    → MatchResult r (λ _. (u : ℕ) × (v : ℕ) × IsTheMultiple c.p c.a (d * factor) (At x y) (At u v) × (number_of_bytes to ≡ u))
    (HasNoCoordinates c.p c.a (d * factor) (At x y))
    → MatchResult r (λ _. IsSharedSecret c d factor public to) (RefusesSecret c d factor public)
secret_call c d factor x y public to (Ok done) below point has = (below, x, y, has.0, has.1, point, has.2, has.3)
secret_call c d factor x y public to (Err why) below point none = refused_secret c d factor x y public why point none
