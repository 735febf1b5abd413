-- Signatures under a key of a pair, and their numbers (API specification, javacard.security.Signature).
use Rattle.std.specs.Ordering.{int_eq}
use Rattle.std.specs.Prelude.{ℕ, ℤ, pos, ◌+◌, Option, Some, None, if◌then◌else◌}
use Rattle.jc_digests.specs.declared.kept.HashAlgorithm.{HashAlgorithm}
use Rattle.jc_digests.specs.declared.kept.HashAlgorithm.TheVariants.{Md5, Sha1, Sha224, Sha256, Sha384, Sha512}
use Rattle.jc_public_keys.specs.declared.rsa_signatures.SignaturePadding.{SignaturePadding}
use Rattle.jc_public_keys.specs.declared.rsa_signatures.SignaturePadding.TheVariants.{Pkcs1, Pss}
use Rattle.jc_api_ciphers.specs.Cipher.Kinds.{rsa_shorts}
use Rattle.jc_api_keys.specs.DigestStates.{digest_shorts}
use Rattle.jc_api_ciphers.specs.declared.signature.pair_algorithms.PairSignature.{PairSignature}
use Rattle.jc_api_ciphers.specs.declared.signature.pair_algorithms.PairSignature.TheVariants.{Ecdsa, Iso9796, Rsa}

-- its hash function
abbrev pub hash_of : PairSignature → HashAlgorithm
hash_of (Rsa p h) = h
hash_of (Ecdsa h) = h
hash_of Iso9796 = Sha1

-- how many shorts hold the first bytes of a message, and how many a state has: those of the digest, and then these
abbrev pub kept_shorts : PairSignature → ℕ
kept_shorts (Rsa p h) = 0
kept_shorts (Ecdsa h) = 0
kept_shorts Iso9796 = rsa_shorts

abbrev pub pair_shorts : PairSignature → ℕ
pair_shorts a = digest_shorts (hash_of a) + kept_shorts a

-- ---- one number

-- ALG_RSA_SHA_PKCS1, ALG_RSA_MD5_PKCS1, ALG_RSA_SHA_224_PKCS1 to ALG_RSA_SHA_512_PKCS1
abbrev pub pkcs1_named : ℤ → Option PairSignature
pkcs1_named v =
    if int_eq v (pos 10) then Some (Rsa Pkcs1 Sha1) else if int_eq v (pos 11) then Some (Rsa Pkcs1 Md5)
    else if int_eq v (pos 39) then Some (Rsa Pkcs1 Sha224) else if int_eq v (pos 40) then Some (Rsa Pkcs1 Sha256)
    else if int_eq v (pos 41) then Some (Rsa Pkcs1 Sha384) else if int_eq v (pos 42) then Some (Rsa Pkcs1 Sha512) else None

-- ALG_RSA_SHA_PKCS1_PSS, ALG_RSA_MD5_PKCS1_PSS, ALG_RSA_SHA_224_PKCS1_PSS to ALG_RSA_SHA_512_PKCS1_PSS
abbrev pub pss_named : ℤ → Option PairSignature
pss_named v =
    if int_eq v (pos 21) then Some (Rsa Pss Sha1) else if int_eq v (pos 22) then Some (Rsa Pss Md5)
    else if int_eq v (pos 43) then Some (Rsa Pss Sha224) else if int_eq v (pos 44) then Some (Rsa Pss Sha256)
    else if int_eq v (pos 45) then Some (Rsa Pss Sha384) else if int_eq v (pos 46) then Some (Rsa Pss Sha512) else None

-- ALG_ECDSA_SHA, ALG_ECDSA_SHA_256, ALG_ECDSA_SHA_384, ALG_ECDSA_SHA_224, ALG_ECDSA_SHA_512
abbrev pub ecdsa_named : ℤ → Option PairSignature
ecdsa_named v =
    if int_eq v (pos 17) then Some (Ecdsa Sha1) else if int_eq v (pos 33) then Some (Ecdsa Sha256)
    else if int_eq v (pos 34) then Some (Ecdsa Sha384) else if int_eq v (pos 37) then Some (Ecdsa Sha224)
    else if int_eq v (pos 38) then Some (Ecdsa Sha512) else None

-- the signature of such a number: the first that there is
abbrev pub else_named : Option PairSignature → Option PairSignature → Option PairSignature
else_named None other = other
else_named (Some a) other = Some a

unfoldable pub pss_or_ecdsa_named : ℤ → Option PairSignature
pss_or_ecdsa_named v = else_named (pss_named v) (ecdsa_named v)

-- ALG_RSA_SHA_ISO9796, or one of the others
unfoldable pub pair_named : ℤ → Option PairSignature
pair_named v = if int_eq v (pos 9) then Some Iso9796 else else_named (pkcs1_named v) (pss_or_ecdsa_named v)

-- ---- three numbers, of a hash function, a cipher and a padding

-- SIG_CIPHER_RSA, SIG_CIPHER_ECDSA
abbrev pub pair_cipher_number : PairSignature → ℤ
pair_cipher_number (Rsa p h) = pos 3
pair_cipher_number (Ecdsa h) = pos 5
pair_cipher_number Iso9796 = pos 3

-- PAD_PKCS1, PAD_PKCS1_PSS, PAD_NULL, and PAD_ISO9796
abbrev pub encoding_number : SignaturePadding → ℤ
encoding_number Pkcs1 = pos 7
encoding_number Pss = pos 8

abbrev pub pair_padding_number : PairSignature → ℤ
pair_padding_number (Rsa p h) = encoding_number p
pair_padding_number (Ecdsa h) = pos 0
pair_padding_number Iso9796 = pos 10

-- the one number of such a signature with a hash function
abbrev pub pkcs1_of_number : ℤ → Option ℤ
pkcs1_of_number digest =
    if int_eq digest (pos 1) then Some (pos 10) else if int_eq digest (pos 2) then Some (pos 11) else if int_eq digest (pos 4) then Some (pos 40)
    else if int_eq digest (pos 5) then Some (pos 41) else if int_eq digest (pos 6) then Some (pos 42) else if int_eq digest (pos 7) then Some (pos 39) else None

abbrev pub pss_of_number : ℤ → Option ℤ
pss_of_number digest =
    if int_eq digest (pos 1) then Some (pos 21) else if int_eq digest (pos 2) then Some (pos 22) else if int_eq digest (pos 4) then Some (pos 44)
    else if int_eq digest (pos 5) then Some (pos 45) else if int_eq digest (pos 6) then Some (pos 46) else if int_eq digest (pos 7) then Some (pos 43) else None

abbrev pub ecdsa_of_number : ℤ → Option ℤ
ecdsa_of_number digest =
    if int_eq digest (pos 1) then Some (pos 17) else if int_eq digest (pos 4) then Some (pos 33) else if int_eq digest (pos 5) then Some (pos 34)
    else if int_eq digest (pos 6) then Some (pos 38) else if int_eq digest (pos 7) then Some (pos 37) else None

abbrev pub iso_of_number : ℤ → Option ℤ
iso_of_number digest = if int_eq digest (pos 1) then Some (pos 9) else None

-- that of RSA, with a padding, and of ECDSA, which has none
unfoldable pub rsa_of_numbers : ℤ → ℤ → Option ℤ
rsa_of_numbers digest padding =
    if int_eq padding (pos 7) then pkcs1_of_number digest else if int_eq padding (pos 8) then pss_of_number digest
    else if int_eq padding (pos 10) then iso_of_number digest else None

unfoldable pub ecdsa_of_numbers : ℤ → ℤ → Option ℤ
ecdsa_of_numbers digest padding = if int_eq padding (pos 0) then ecdsa_of_number digest else None
