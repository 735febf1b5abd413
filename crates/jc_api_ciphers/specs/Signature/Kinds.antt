-- All signatures, by their numbers: codes under a secret key, and signatures under a key of a pair.
use Rattle.std.specs.Ordering.{int_eq}
use Rattle.std.specs.Option.{option_map}
use Rattle.std.specs.Prelude.{ℕ, ℤ, pos, Option, Some, None, if◌then◌else◌}
use Rattle.jc_api_ciphers.specs.Signature.PairAlgorithms.{ecdsa_of_numbers, hash_of, pair_cipher_number, pair_named, pair_padding_number, pair_shorts, rsa_of_numbers}
use Rattle.jc_api_ciphers.specs.Signature.Algorithms.{digest_number, hash_number, signature_cipher_number, signature_named, signature_of_numbers}
use Rattle.jc_api_ciphers.specs.Signature.Algorithms.{signature_padding_number}
use Rattle.jc_api_ciphers.specs.Signature.Codes.{signature_shorts}
use Rattle.jc_api_ciphers.specs.declared.signature.algorithms.SignatureAlgorithm.{SignatureAlgorithm}
use Rattle.jc_api_ciphers.specs.declared.signature.kinds.SignatureKind.{SignatureKind}
use Rattle.jc_api_ciphers.specs.declared.signature.kinds.SignatureKind.TheVariants.{Code, Pair}

-- the signature of a number
abbrev pub code_or_pair : Option SignatureAlgorithm → ℤ → Option SignatureKind
code_or_pair (Some a) v = Some (Code a)
code_or_pair None v = option_map Pair (pair_named v)

unfoldable pub kind_named : ℤ → Option SignatureKind
kind_named v = code_or_pair (signature_named v) v

-- the one number of a signature by those of a hash function, a cipher and a padding
unfoldable pub kind_of_numbers : ℤ → ℤ → ℤ → Option ℤ
kind_of_numbers digest cipher padding =
    if int_eq cipher (pos 3) then rsa_of_numbers digest padding else if int_eq cipher (pos 5) then ecdsa_of_numbers digest padding
    else signature_of_numbers digest cipher padding

-- the three numbers
abbrev pub kind_digest_number : SignatureKind → ℤ
kind_digest_number (Code a) = digest_number a
kind_digest_number (Pair a) = hash_number (hash_of a)

abbrev pub kind_cipher_number : SignatureKind → ℤ
kind_cipher_number (Code a) = signature_cipher_number a
kind_cipher_number (Pair a) = pair_cipher_number a

abbrev pub kind_padding_number : SignatureKind → ℤ
kind_padding_number (Code a) = signature_padding_number a
kind_padding_number (Pair a) = pair_padding_number a

-- how many shorts a state has
abbrev pub kind_shorts : SignatureKind → ℕ
kind_shorts (Code a) = signature_shorts a
kind_shorts (Pair a) = pair_shorts a
