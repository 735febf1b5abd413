-- What the keys of a pair are.
use Rattle.std.specs.Ordering.{int_eq}
use Rattle.std.specs.Option.{option_and_then}
use Rattle.std.specs.Prelude.{ℕ, ℤ, pos, ◌==◌, Option, Some, None, if◌then◌else◌}
use Rattle.jc_api_keys.specs.KeyParts.{size_of}
use Rattle.jc_api_keys.specs.KeyTypes.{pair_key_named}
use Rattle.jc_api_keys.specs.declared.key_objects.contents.Key.{Key}
use Rattle.jc_api_keys.specs.declared.key_types.PairKey.{PairKey}
use Rattle.jc_api_keys.specs.declared.key_types.PairKey.TheVariants.{RsaPublic, RsaPrivate, RsaCrtPrivate, EcPublic, EcPrivate}
use Rattle.jc_api_pairs.specs.declared.key_pair.kinds.PairKind.{PairKind}
use Rattle.jc_api_pairs.specs.declared.key_pair.kinds.PairKind.TheVariants.{Rsa, Curve}
use Rattle.jc_api_pairs.specs.declared.key_pair.kinds.PrivateForm.TheVariants.{Exponent, Primes}

-- the kind of pairs of an algorithm: ALG_RSA, ALG_RSA_CRT, ALG_EC_FP
abbrev pub kind_named : ℤ → Option PairKind
kind_named v = if int_eq v (pos 1) then Some (Rsa Exponent) else if int_eq v (pos 2) then Some (Rsa Primes) else if int_eq v (pos 5) then Some Curve else None

-- the type of their public keys: TYPE_RSA_PUBLIC, TYPE_EC_FP_PUBLIC
abbrev pub public_type : PairKind → ℤ
public_type (Rsa form) = pos 4
public_type Curve = pos 11

-- and of their persistent private ones: TYPE_RSA_PRIVATE, TYPE_RSA_CRT_PRIVATE, TYPE_EC_FP_PRIVATE
abbrev pub private_type : PairKind → ℤ
private_type (Rsa Exponent) = pos 5
private_type (Rsa Primes) = pos 6
private_type Curve = pos 12

-- the kind of a pair by its private key, and by both
abbrev pub kind_with_rsa : Option PairKey → Option PairKind
kind_with_rsa (Some RsaPrivate) = Some (Rsa Exponent)
kind_with_rsa (Some RsaCrtPrivate) = Some (Rsa Primes)
kind_with_rsa _ = None

abbrev pub kind_with_curve : Option PairKey → Option PairKind
kind_with_curve (Some EcPrivate) = Some Curve
kind_with_curve _ = None

abbrev pub kind_with : Option PairKey → Option PairKey → Option PairKind
kind_with (Some RsaPublic) private = kind_with_rsa private
kind_with (Some EcPublic) private = kind_with_curve private
kind_with _ private = None

-- how many bytes the size of a key of a pair has
abbrev pub key_size : Key → Option ℕ
key_size key = option_and_then (λ k. size_of k key.elements.count) (pair_key_named key.number)

-- both have a size, and it is the same
abbrev pub kind_if : Option ℕ → Option ℕ → Option PairKind → Option PairKind
kind_if (Some n) (Some other) kind = if n == other then kind else None
kind_if _ other kind = None

-- the kind of pair that a public and a private key of one size are
abbrev pub kind_of_keys : Key → Key → Option PairKind
kind_of_keys public private = kind_if (key_size public) (key_size private) (kind_with (pair_key_named public.number) (pair_key_named private.number))
