-- Signatures by ECDSA over bytes are what their functions say.
use Rattle.std.proofs.Common.{◌≡◌, ◌<◌, ◌≤◌, ◌+◌, ◌*◌, ◌^◌, ◌∙◌, ℕ, Bool, true, false, List, [], ◌∷◌, length, get_or, Option, Some, None, refl, sym, ap, subst, arith}
use Rattle.std.specs.Bool.{Decides}
use Rattle.std.specs.Prelude.{option_map}
use Rattle.std.proofs.Math.Nat.{pow-le-pow_right}
use Rattle.jc_numbers.specs.Numbers.{IsBitLength, number_of_bytes}
use Rattle.jc_numbers.proofs.NumbersOfBytes.{byte_first}
use Rattle.jc_curves.specs.Calls.{IsBelowOrder, IsPointOf, IsSignature, IsVerified, RefusesSignature, digest_number}
use Rattle.jc_curves.specs.Curves.{CurveNumbers, octets}
use Rattle.jc_curves.specs.Der.{IsSignatureEncoding}
use Rattle.jc_curves.specs.Points.{Point}
use Rattle.jc_curves.specs.declared.signatures.SignatureRefusal.{SignatureRefusal}
use Rattle.jc_curves.specs.declared.signatures.SignatureRefusal.TheVariants as unsigned
use Rattle.jc_curves.proofs.PointBytes.{held}
use Rattle.jc_public_keys.specs.CurveBytes.{point_in}
use Rattle.jc_public_keys.specs.Ecdsa.{Numbers, is_verified, encoded, signed_by, verified_at, verified_numbers, verified_on}
use Rattle.jc_public_keys.proofs.CurvesFound.{point_is, point_read}
use Rattle.jc_public_keys.proofs.DerSignatures.{der_is, der_told, der_untold}
use Rattle.jc_public_keys.proofs.EcdsaFound.{in_order_is, found_signature, no_signature_found, verified_is}

-- ---- signing

module _ (c : CurveNumbers) (field : 1 < c.p) (above : 1 < c.n) (d : ℕ) (digest : List ℕ) (k : ℕ) where
  -- the encoding of a signature
  pub written : (r s : ℕ) (bytes : List ℕ) → ((i : ℕ) → get_or bytes i 0 < 256) → IsBelowOrder c d → IsBelowOrder c k
      → IsSignature c d (digest_number c.n_bits digest) k r s → IsSignatureEncoding r s bytes → Some bytes ≡ signed_by c d digest k
  unfolding signed_by
  written r s bytes small d_in k_in is encodes =
      ap Some (der_is r s bytes small encodes)
      ∙ sym (ap (option_map encoded) (found_signature c d (digest_number c.n_bits digest) k r s field above d_in k_in is))

  -- and none
  never : (why : SignatureRefusal) → RefusesSignature c d (digest_number c.n_bits digest) k why
      → IsBelowOrder c d → IsBelowOrder c k → (r s : ℕ) → IsSignature c d (digest_number c.n_bits digest) k r s → ⊥
  never unsigned.PrivateKey none d_in k_in r s is = none d_in
  never unsigned.Nonce none d_in k_in r s is = none.1 k_in r s is

  pub unwritten : (why : SignatureRefusal) → RefusesSignature c d (digest_number c.n_bits digest) k why → None ≡ signed_by c d digest k
  unfolding signed_by
  unwritten why none = sym (ap (option_map encoded) (no_signature_found c d (digest_number c.n_bits digest) k field (never why none)))

-- ---- verification

-- a number whose first byte is not 0, and that has more bytes than n needs, is not below n
pub large : (c : CurveNumbers) → IsBitLength c.n c.n_bits → (bytes : List ℕ) → 0 < get_or bytes 0 0 → octets c.n_bits < length bytes
    → IsBelowOrder c (number_of_bytes bytes) → ⊥
large c counted [] some many below = omega (arith, some)
large c counted (b ∷ bs) some many below =
    let within : octets c.n_bits ≤ length bs = omega (arith, many) in
    let most : 256 ^ octets c.n_bits ≤ 256 ^ length bs = pow-le-pow_right {n = 256} (omega arith) {i = octets c.n_bits} {j = length bs} within in
    let least = from_first b (256 ^ length bs) (number_of_bytes bs) (256 ^ octets c.n_bits) _ some most (byte_first b bs) in
    omega (arith, below.1, least, held c.n c.n_bits counted)
  where
    from_first : (b p y q t : ℕ) → 0 < b → q ≤ p → t ≡ b * p + y → q ≤ t
    from_first b p y q t some least is = grind (arith, some, least, is)

module _ (c : CurveNumbers) (field : 1 < c.p) (above : 1 < c.n) (public digest signature : List ℕ) where
  -- where bytes encode no signature
  pub no_numbers : ((r s : ℕ) → IsSignatureEncoding r s signature → ⊥) → false ≡ verified_on public digest signature c
  unfolding verified_on
  no_numbers none = sym (ap (verified_numbers c public digest) (der_untold signature none))

  module _ (r s : ℕ) (small : (k : ℕ) → get_or signature k 0 < 256) (encodes : IsSignatureEncoding r s signature) where
    abbrev point : Option Point
    point = point_in c.p c.a c.b (octets c.p_bits) public

    abbrev numbers : Numbers
    numbers = record { r = r; s = s }

    numbers_told : verified_on public digest signature c ≡ verified_at c digest point numbers
    unfolding verified_on
    numbers_told = ap (verified_numbers c public digest) (der_told r s signature small encodes)

    -- where r or s is not below n
    outside : (o : Option Point) → ((IsBelowOrder c r × IsBelowOrder c s) → ⊥) → verified_at c digest o numbers ≡ false
    outside None never = refl
    outside (Some q) never = outside_by (is_verified c q (digest_number c.n_bits digest) r s) refl
      where
        outside_by : (t : Bool) → is_verified c q (digest_number c.n_bits digest) r s ≡ t → t ≡ false
        outside_by false e = refl
        outside_by true e = absurd (never (in_order_is c q (digest_number c.n_bits digest) r s e))

    pub not_below : ((IsBelowOrder c r × IsBelowOrder c s) → ⊥) → false ≡ verified_on public digest signature c
    not_below never = sym (numbers_told ∙ outside point never)

    -- and where they are
    abbrev Verifies : Type 0
    Verifies = (x : ℕ) × (y : ℕ) × IsPointOf c x y public × IsVerified c x y (digest_number c.n_bits digest) r s

    at_point : (o : Option Point) → point ≡ o → verified_at c digest o numbers ≡ true → Verifies
    at_point None e holds = absurd (cc)
    at_point (Some q) e holds =
        let at = point_is c.p c.a c.b (octets c.p_bits) public q e in (
          at.0,
          at.1,
          at.3,
          (verified_is c at.0 at.1 (digest_number c.n_bits digest) r s field above).0
              (subst (λ (t : Point). is_verified c t (digest_number c.n_bits digest) r s ≡ true) at.2 holds),
        )

    passes : Verifies → verified_at c digest point numbers ≡ true
    passes is =
        ap (λ (o : Option Point). verified_at c digest o numbers) (point_read c.p c.a c.b (octets c.p_bits) public is.0 is.1 is.2)
        ∙ (verified_is c is.0 is.1 (digest_number c.n_bits digest) r s field above).1 is.3

    pub verifies : Decides (verified_on public digest signature c) Verifies
    verifies = (λ e. at_point point refl (sym numbers_told ∙ e), λ is. numbers_told ∙ passes is)
