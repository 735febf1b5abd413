-- The parts of a key stand within its data.
use Rattle.std.proofs.Common.{◌≡◌, ◌≤◌, ◌+◌, ℕ, true, Option, Some, None, subst, arith}
use Rattle.std.specs.Prelude.{IfSome}
use Rattle.std.proofs.lemmas.Bool.{false≢true}
use Rattle.jc_api_keys.specs.EcKeys.{is_on_curve}
use Rattle.jc_api_keys.specs.KeyParts.{bytes_of_parts, data_length, domain_parts, has_part, is_crt_part, is_rsa_part, place_of, room_of}
use Rattle.jc_api_keys.specs.declared.key_parts.KeyPart.{KeyPart}
use Rattle.jc_api_keys.specs.declared.key_parts.KeyPart.TheVariants as part
use Rattle.jc_api_keys.specs.declared.key_types.PairKey.{PairKey}
use Rattle.jc_api_keys.specs.declared.key_types.PairKey.TheVariants.{RsaPublic, RsaPrivate, RsaCrtPrivate, EcPublic, EcPrivate}

rsa_within : (n : ℕ) (x : KeyPart) → is_rsa_part x ≡ true → place_of n x + (2 + room_of n x) ≤ data_length RsaPublic n
unfolding bytes_of_parts
rsa_within n part.Modulus has = omega arith
rsa_within n part.Exponent has = omega arith
rsa_within n _ has = absurd (false≢true has)

crt_within : (n : ℕ) (x : KeyPart) → is_crt_part x ≡ true → place_of n x + (2 + room_of n x) ≤ data_length RsaCrtPrivate n
unfolding bytes_of_parts
crt_within n part.P has = omega arith
crt_within n part.Q has = omega arith
crt_within n part.Pq has = omega arith
crt_within n part.Dp1 has = omega arith
crt_within n part.Dq1 has = omega arith
crt_within n _ has = absurd (false≢true has)

public_within : (n : ℕ) (x : KeyPart) → has_part EcPublic x ≡ true → place_of n x + (2 + room_of n x) ≤ data_length EcPublic n
unfolding bytes_of_parts
public_within n part.Field has = omega arith
public_within n part.A has = omega arith
public_within n part.B has = omega arith
public_within n part.G has = omega arith
public_within n part.R has = omega arith
public_within n part.K has = omega arith
public_within n part.W has = omega arith
public_within n _ has = absurd (false≢true has)

private_within : (n : ℕ) (x : KeyPart) → has_part EcPrivate x ≡ true → place_of n x + (2 + room_of n x) ≤ data_length EcPrivate n
unfolding bytes_of_parts
private_within n part.Field has = omega arith
private_within n part.A has = omega arith
private_within n part.B has = omega arith
private_within n part.G has = omega arith
private_within n part.R has = omega arith
private_within n part.K has = omega arith
private_within n part.S has = omega arith
private_within n _ has = absurd (false≢true has)

-- a part that a key has stands within its data
pub within : (k : PairKey) (n : ℕ) (x : KeyPart) → has_part k x ≡ true → place_of n x + (2 + room_of n x) ≤ data_length k n
within RsaPublic n x has = rsa_within n x has
within RsaPrivate n x has = rsa_within n x has
within RsaCrtPrivate n x has = crt_within n x has
within EcPublic n x has = public_within n x has
within EcPrivate n x has = private_within n x has

domain_within : (k : PairKey) (n : ℕ) → is_on_curve k ≡ true → bytes_of_parts n domain_parts ≤ data_length k n
unfolding bytes_of_parts
domain_within RsaPublic n on = absurd (false≢true on)
domain_within RsaPrivate n on = absurd (false≢true on)
domain_within RsaCrtPrivate n on = absurd (false≢true on)
domain_within EcPublic n on = omega arith
domain_within EcPrivate n on = omega arith

-- so do the domain parameters of one on a curve
pub domain_within_if : (k : PairKey) (size : Option ℕ) (long : ℕ) → is_on_curve k ≡ true → IfSome size (λ n. data_length k n ≡ long)
    → IfSome size (λ n. bytes_of_parts n domain_parts ≤ long)
domain_within_if k (Some n) long on all = subst (λ (l : ℕ). bytes_of_parts n domain_parts ≤ l) all (domain_within k n on)
domain_within_if k None long on all = tt
