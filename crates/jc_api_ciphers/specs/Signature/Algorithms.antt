-- The signatures and their numbers (API specification, javacard.security.Signature).
use Rattle.std.specs.Ordering.{int_eq}
use Rattle.std.specs.Prelude.{ℕ, ℤ, pos, int_le, Option, Some, None, if◌then◌else◌}
use Rattle.jc_digests.specs.Kept.{digest_size}
use Rattle.jc_digests.specs.declared.kept.HashAlgorithm.{HashAlgorithm}
use Rattle.jc_digests.specs.declared.kept.HashAlgorithm.TheVariants.{Md5, Sha1, Sha224, Sha256, Sha384, Sha512}
use Rattle.jc_ciphers.specs.Kept.{block_size}
use Rattle.jc_ciphers.specs.Kept.Macs.{cipher_of}
use Rattle.jc_ciphers.specs.declared.kept.BlockAlgorithm.{BlockAlgorithm}
use Rattle.jc_ciphers.specs.declared.kept.BlockAlgorithm.TheVariants.{Aes, Des}
use Rattle.jc_ciphers.specs.declared.kept.macs.MacAlgorithm.{MacAlgorithm}
use Rattle.jc_ciphers.specs.declared.kept.macs.MacAlgorithm.TheVariants.{Algorithm3, Cbc, Cmac}
use Rattle.jc_ciphers.specs.declared.padding.Padding.{Padding}
use Rattle.jc_ciphers.specs.declared.padding.Padding.TheVariants.{Method1, Method2, NoPadding, Pkcs5}
use Rattle.jc_api_ciphers.specs.declared.signature.algorithms.CodeLength.{CodeLength}
use Rattle.jc_api_ciphers.specs.declared.signature.algorithms.CodeLength.TheVariants.{Four, Whole}
use Rattle.jc_api_ciphers.specs.declared.signature.algorithms.SignatureAlgorithm.{SignatureAlgorithm}
use Rattle.jc_api_ciphers.specs.declared.signature.algorithms.SignatureAlgorithm.TheVariants.{Hmac, Mac}

-- a code by DES in algorithm 1 of ISO 9797-1, with a padding
abbrev pub des_mac : Padding → CodeLength → SignatureAlgorithm
des_mac p n = Mac (Cbc Des p) n

-- how many bytes a signature has
abbrev pub code_size : MacAlgorithm → CodeLength → ℕ
code_size a Four = 4
code_size a Whole = block_size (cipher_of a)

abbrev pub signature_size : SignatureAlgorithm → ℕ
signature_size (Mac a n) = code_size a n
signature_size (Hmac h) = digest_size h

-- ---- one number

-- ALG_DES_MAC4_NOPAD to ALG_DES_MAC8_PKCS5
abbrev pub des_mac_named : ℤ → Option SignatureAlgorithm
des_mac_named v =
    if int_eq v (pos 1) then Some (des_mac NoPadding Four) else if int_eq v (pos 2) then Some (des_mac NoPadding Whole)
    else if int_eq v (pos 3) then Some (des_mac Method1 Four) else if int_eq v (pos 4) then Some (des_mac Method1 Whole)
    else if int_eq v (pos 5) then Some (des_mac Method2 Four) else if int_eq v (pos 6) then Some (des_mac Method2 Whole)
    else if int_eq v (pos 7) then Some (des_mac Pkcs5 Four) else if int_eq v (pos 8) then Some (des_mac Pkcs5 Whole) else None

-- ALG_AES_MAC_128_NOPAD, ALG_DES_MAC4_ISO9797_1_M2_ALG3, ALG_DES_MAC8_ISO9797_1_M2_ALG3, ALG_HMAC_SHA1, ALG_HMAC_SHA_256, ALG_HMAC_SHA_384,
-- ALG_HMAC_SHA_512, ALG_HMAC_MD5, ALG_AES_CMAC_128
abbrev pub further_named : ℤ → Option SignatureAlgorithm
further_named v =
    if int_eq v (pos 18) then Some (Mac (Cbc Aes NoPadding) Whole) else if int_eq v (pos 19) then Some (Mac (Algorithm3 Method2) Four)
    else if int_eq v (pos 20) then Some (Mac (Algorithm3 Method2) Whole) else if int_eq v (pos 24) then Some (Hmac Sha1)
    else if int_eq v (pos 25) then Some (Hmac Sha256) else if int_eq v (pos 26) then Some (Hmac Sha384)
    else if int_eq v (pos 27) then Some (Hmac Sha512) else if int_eq v (pos 28) then Some (Hmac Md5)
    else if int_eq v (pos 49) then Some (Mac Cmac Whole) else None

-- the signature of such a number
unfoldable pub signature_named : ℤ → Option SignatureAlgorithm
signature_named v = if int_le v (pos 8) then des_mac_named v else further_named v

-- ---- three numbers, of a hash function, a cipher and a padding

-- ALG_MD5, ALG_SHA, ALG_SHA_224, ALG_SHA_256, ALG_SHA_384, ALG_SHA_512, and ALG_NULL
abbrev pub hash_number : HashAlgorithm → ℤ
hash_number Md5 = pos 2
hash_number Sha1 = pos 1
hash_number Sha224 = pos 7
hash_number Sha256 = pos 4
hash_number Sha384 = pos 5
hash_number Sha512 = pos 6

abbrev pub digest_number : SignatureAlgorithm → ℤ
digest_number (Mac a n) = pos 0
digest_number (Hmac h) = hash_number h

-- SIG_CIPHER_DES_MAC4 and SIG_CIPHER_DES_MAC8
abbrev pub des_number : CodeLength → ℤ
des_number Four = pos 1
des_number Whole = pos 2

-- these, SIG_CIPHER_AES_MAC128, SIG_CIPHER_AES_CMAC128, and SIG_CIPHER_HMAC
abbrev pub block_number : BlockAlgorithm → CodeLength → ℤ
block_number Aes n = pos 6
block_number Des n = des_number n

abbrev pub mac_number : MacAlgorithm → CodeLength → ℤ
mac_number (Cbc a p) n = block_number a n
mac_number (Algorithm3 p) n = des_number n
mac_number Cmac n = pos 10

abbrev pub signature_cipher_number : SignatureAlgorithm → ℤ
signature_cipher_number (Mac a n) = mac_number a n
signature_cipher_number (Hmac h) = pos 7

-- PAD_NOPAD, PAD_ISO9797_M1, PAD_ISO9797_M2, PAD_PKCS5
abbrev pub method_number : Padding → ℤ
method_number NoPadding = pos 1
method_number Method1 = pos 2
method_number Method2 = pos 3
method_number Pkcs5 = pos 6

-- with algorithm 3, PAD_ISO9797_1_M1_ALG3 and PAD_ISO9797_1_M2_ALG3
abbrev pub method_number_3 : Padding → ℤ
method_number_3 NoPadding = pos 1
method_number_3 Method1 = pos 4
method_number_3 Method2 = pos 5
method_number_3 Pkcs5 = pos 6

-- these, of CMAC PAD_ISO9797_M2, and PAD_NULL
abbrev pub mac_padding_number : MacAlgorithm → ℤ
mac_padding_number (Cbc a p) = method_number p
mac_padding_number (Algorithm3 p) = method_number_3 p
mac_padding_number Cmac = pos 3

abbrev pub signature_padding_number : SignatureAlgorithm → ℤ
signature_padding_number (Mac a n) = mac_padding_number a
signature_padding_number (Hmac h) = pos 0

-- the one number of a code by DES of 4 bytes, and of 8, with a padding
abbrev pub des_mac_4 : ℤ → Option ℤ
des_mac_4 padding =
    if int_eq padding (pos 1) then Some (pos 1) else if int_eq padding (pos 2) then Some (pos 3) else if int_eq padding (pos 3) then Some (pos 5)
    else if int_eq padding (pos 5) then Some (pos 19) else if int_eq padding (pos 6) then Some (pos 7) else None

abbrev pub des_mac_8 : ℤ → Option ℤ
des_mac_8 padding =
    if int_eq padding (pos 1) then Some (pos 2) else if int_eq padding (pos 2) then Some (pos 4) else if int_eq padding (pos 3) then Some (pos 6)
    else if int_eq padding (pos 5) then Some (pos 20) else if int_eq padding (pos 6) then Some (pos 8) else None

-- that of a code by AES, and of CMAC
abbrev pub one_if : ℤ → ℤ → ℤ → Option ℤ
one_if padding wanted number = if int_eq padding wanted then Some number else None

-- that of a code by a cipher, with a padding
unfoldable pub mac_of_numbers : ℤ → ℤ → Option ℤ
mac_of_numbers cipher padding =
    if int_eq cipher (pos 1) then des_mac_4 padding else if int_eq cipher (pos 2) then des_mac_8 padding
    else if int_eq cipher (pos 6) then one_if padding (pos 1) (pos 18) else if int_eq cipher (pos 10) then one_if padding (pos 3) (pos 49) else None

-- that of HMAC with a hash function
unfoldable pub hmac_of_number : ℤ → Option ℤ
hmac_of_number digest =
    if int_eq digest (pos 1) then Some (pos 24) else if int_eq digest (pos 2) then Some (pos 28) else if int_eq digest (pos 4) then Some (pos 25)
    else if int_eq digest (pos 5) then Some (pos 26) else if int_eq digest (pos 6) then Some (pos 27) else None

-- the one number of what three numbers name: HMAC has a hash function and no padding, a code by a cipher has no hash function
abbrev pub signature_of_numbers : ℤ → ℤ → ℤ → Option ℤ
signature_of_numbers digest cipher padding =
    if int_eq cipher (pos 7) then (if int_eq padding (pos 0) then hmac_of_number digest else None)
    else if int_eq digest (pos 0) then mac_of_numbers cipher padding else None
