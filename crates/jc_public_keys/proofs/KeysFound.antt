-- Public keys over bytes are what their functions say.
use Rattle.std.proofs.Common.{◌≡◌, ◌<◌, ◌≤◌, ◌+◌, ◌∙◌, ℕ, zero, suc, Bool, true, false, List, [], ◌∷◌, ◌++◌, length, get_or, take, drop, replicate, Option, Some, None, if◌then◌else◌, refl, sym, ap, arith}
use Rattle.std.specs.Prelude.{nat_lt, option_and_then, option_map}
use Rattle.std.proofs.lemmas.Bool.{and_from, and_parts, false_from_ne_true, lt-ltb, ltb-true}
use Rattle.std.proofs.lemmas.List.{length-drop, length-take-le, take-append-drop}
use Rattle.jc_numbers.specs.Numbers.{number_of_bytes}
use Rattle.jc_numbers.proofs.NumbersOfBytes.{byte_first}
use Rattle.jc_curves.specs.Calls.{HasNoCoordinates, IsBelowOrder, IsPublicKey, RefusesPublicKey}
use Rattle.jc_curves.specs.Curves.{CurveNumbers, IsEncodedPoint, octets}
use Rattle.jc_curves.specs.Points.{At, Infinity, Point}
use Rattle.jc_curves.specs.declared.points.PointRefusal.{PointRefusal}
use Rattle.jc_curves.specs.declared.points.PointRefusal.TheVariants as refusal
use Rattle.jc_public_keys.specs.CurveKeys.{pair_of, point_bytes, public_on}
use Rattle.jc_public_keys.specs.CurveSums.{multiple_of}
use Rattle.jc_public_keys.specs.Ecdsa.{is_in_order}
use Rattle.jc_public_keys.specs.Rsa.{bytes_of_number}
use Rattle.jc_public_keys.proofs.BytesOfNumbers.{bytes_from, dropped_bytes, taken_bytes}
use Rattle.jc_public_keys.proofs.MultiplesFound.{multiple_found}
use Rattle.jc_public_keys.proofs.SecretsFound.{none_multiple}

-- ---- points

next_of : (n : ℕ) → 1 + n ≡ suc n
next_of n = omega arith

-- an encoded point is 04 and the bytes of x and y
pub encoded_bytes : (size x y : ℕ) (bytes : List ℕ) → ((k : ℕ) → get_or bytes k 0 < 256) → IsEncodedPoint size x y bytes
    → bytes ≡ 0x04 ∷ bytes_of_number size x ++ bytes_of_number size y
encoded_bytes size x y [] small is = let whole = is.whole in absurd (omega (arith, whole))
encoded_bytes size x y (b ∷ rest) small is =
    let whole = is.whole in
    let rest_small : (k : ℕ) → get_or rest k 0 < 256 = λ k. small (suc k) in
    let long : length rest ≡ size + size = omega (arith, whole) in
    let first_long : length (take size rest) ≡ size = length-take-le size rest (omega (arith, long)) in
    let second_long : length (drop size rest) ≡ size = omega (arith, length-drop size rest, long) in
    let first : take size rest ≡ bytes_of_number size x = bytes_from (take size rest) size x (taken_bytes rest size rest_small) first_long is.x_is in
    let y_is : number_of_bytes (drop size rest) ≡ y = ap (λ (n : ℕ). number_of_bytes (drop n (b ∷ rest))) (sym (next_of size)) ∙ is.y_is in
    let second : drop size rest ≡ bytes_of_number size y = bytes_from (drop size rest) size y (dropped_bytes rest size rest_small) second_long y_is in
    let form : b ≡ 0x04 = is.form in
    let parts : rest ≡ bytes_of_number size x ++ bytes_of_number size y = sym (take-append-drop size rest) ∙ (λ j. first j ++ second j) in
    (λ j. form j ∷ parts j)

-- ---- public keys

then_some : {A B : Type 0} (f : A → Option B) (o : Option A) (a : A) (b : B) → o ≡ Some a → f a ≡ Some b → option_and_then f o ≡ Some b
then_some f o a b first second = ap (option_and_then f) first ∙ second

module _ (c : CurveNumbers) (field : 1 < c.p) (d : ℕ) where
  abbrev multiple : Option Point
  multiple = multiple_of c.p c.a d (At c.x c.y)

  abbrev bytes : Option (List ℕ)
  bytes = option_and_then (point_bytes (octets c.p_bits)) multiple

  within : IsBelowOrder c d → is_in_order c d ≡ true
  within is = and_from (nat_lt 0 d) (nat_lt d c.n) (lt-ltb 0 d is.0) (lt-ltb d c.n is.1)

  without : (IsBelowOrder c d → ⊥) → is_in_order c d ≡ false
  without never = false_from_ne_true (is_in_order c d) (λ e.
      let both = and_parts (nat_lt 0 d) (nat_lt d c.n) e in never (ltb-true 0 d both.0, ltb-true d c.n both.1))

  -- the public key is written
  pub public_found : (to : List ℕ) → ((k : ℕ) → get_or to k 0 < 256) → IsPublicKey c d to → Some to ≡ public_on c d
  unfolding public_on
  public_found to small is = sym (
      ap (λ (t : Bool). if t then bytes else None) (within is.0)
      ∙ then_some (point_bytes (octets c.p_bits)) multiple (At is.1 is.2) to (multiple_found c.p field c.a d (At c.x c.y) (At is.1 is.2) (is.3).is)
      (ap Some (sym (encoded_bytes (octets c.p_bits) is.1 is.2 to small is.4)))
      )

  none_if : (o : Option (List ℕ)) → o ≡ None → (t : Bool) → (if t then o else None) ≡ None
  none_if o e true = e
  none_if o e false = refl

  at_infinity : HasNoCoordinates c.p c.a d (At c.x c.y) refusal.Infinity → bytes ≡ None
  at_infinity none = ap (option_and_then (point_bytes (octets c.p_bits))) (multiple_found c.p field c.a d (At c.x c.y) Infinity none.is)

  in_no_field : HasNoCoordinates c.p c.a d (At c.x c.y) refusal.NotAField → bytes ≡ None
  in_no_field none = ap (option_and_then (point_bytes (octets c.p_bits))) (none_multiple c.p c.a d (At c.x c.y) field none multiple refl)

  -- or there is none
  pub no_public : (why : PointRefusal) → RefusesPublicKey c d why → None ≡ public_on c d
  unfolding public_on
  no_public refusal.PrivateKey none = sym (ap (λ (t : Bool). if t then bytes else None) (without none))
  no_public refusal.NotAPoint none = absurd none
  no_public refusal.Infinity none = sym (none_if bytes (at_infinity none.1) (is_in_order c d))
  no_public refusal.NotAField none = sym (none_if bytes (in_no_field none.1) (is_in_order c d))

-- ---- key pairs

pub zeros_before : (k : ℕ) (xs : List ℕ) → number_of_bytes (replicate k 0 ++ xs) ≡ number_of_bytes xs
zeros_before zero xs = refl
zeros_before (suc k) xs = byte_first 0 (replicate k 0 ++ xs) ∙ omega arith ∙ zeros_before k xs

taken_zeros : (n m : ℕ) → n ≤ m → take n (replicate m 0) ≡ replicate {A = ℕ} n 0
taken_zeros zero m few = refl
taken_zeros (suc n) zero few = absurd (omega (arith, few))
taken_zeros (suc n) (suc m) few = (λ j. 0 ∷ taken_zeros n m (omega (arith, few)) j)

-- a number after zeros
pub after_zeros : (n m : ℕ) (xs : List ℕ) → n ≤ m → number_of_bytes (take n (replicate m 0) ++ xs) ≡ number_of_bytes xs
after_zeros n m xs few = ap (λ (ys : List ℕ). number_of_bytes (ys ++ xs)) (taken_zeros n m few) ∙ zeros_before n xs

-- a key pair is a private key and its public one
pub pair_found : (size : ℕ) (c : CurveNumbers) (d : ℕ) (private public : List ℕ) (found : Bool) → private ≡ bytes_of_number size d
    → (if found then Some public else None) ≡ public_on c d
    → (if found then Some (record { private = private; public = public }) else None) ≡ pair_of size c d
pair_found size c d private public true is e =
    (λ j. Some (record { private = is j; public = public })) ∙ ap (option_map (λ q. record { private = bytes_of_number size d; public = q })) e
pair_found size c d private public false is e = ap (option_map (λ q. record { private = bytes_of_number size d; public = q })) e
