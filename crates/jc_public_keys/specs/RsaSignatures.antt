-- Digests as they are encoded to be signed by RSA (RFC 8017, 8.1 and 8.2), for a modulus of n bytes whose highest bit is set.
use Rattle.std.specs.Str.{bytes_eq}
use Rattle.std.specs.Prelude.{ℕ, ◌+◌, ◌-◌, ◌*◌, nat_le, ◌&&◌, Bool, List, drop, length, take}
use Rattle.jc_digests.specs.Kept.{digest_size}
use Rattle.jc_digests.specs.declared.kept.HashAlgorithm.{HashAlgorithm}
use Rattle.jc_rsa.specs.Bytes.{xor}
use Rattle.jc_rsa.specs.EmsaPkcs1.{digest_info, digest_info_size, signature_block}
use Rattle.jc_rsa.specs.EmsaPss.{pss}
use Rattle.jc_rsa.specs.Mgf1.{mgf1}
use Rattle.jc_public_keys.specs.Random.{random_bytes}
use Rattle.jc_public_keys.specs.declared.rsa_signatures.SignaturePadding.{SignaturePadding}
use Rattle.jc_public_keys.specs.declared.rsa_signatures.SignaturePadding.TheVariants.{Pkcs1, Pss}

-- the fewest bytes of a modulus: a salt is as long as the digest
abbrev pub least_modulus : SignaturePadding → HashAlgorithm → ℕ
least_modulus Pkcs1 h = digest_info_size h + 11
least_modulus Pss h = 2 * digest_size h + 2

-- the encoding of a digest as n bytes; a salt is random bytes of a seed and the digest
abbrev pub signature_encoding : SignaturePadding → HashAlgorithm → List ℕ → List ℕ → ℕ → List ℕ
signature_encoding Pkcs1 h digest seed n = signature_block (digest_info h digest) n
signature_encoding Pss h digest seed n = pss h digest (random_bytes seed digest (digest_size h)) 1 n

-- the salt by which the block of an encoding ends, taken from under its mask
abbrev pub salt_in : HashAlgorithm → List ℕ → List ℕ
salt_in h em =
    let n : ℕ = length em - digest_size h - 1 in
    drop (n - digest_size h) (xor (take n em) (mgf1 h (take (digest_size h) (drop n em)) n))

-- bytes are an encoding of a digest
unfoldable pub is_pkcs1 : HashAlgorithm → List ℕ → List ℕ → Bool
is_pkcs1 h digest em = nat_le (length (digest_info h digest) + 11) (length em) && bytes_eq em (signature_block (digest_info h digest) (length em))

unfoldable pub is_pss : HashAlgorithm → List ℕ → List ℕ → Bool
is_pss h digest em = nat_le (digest_size h + digest_size h + 2) (length em) && bytes_eq em (pss h digest (salt_in h em) 1 (length em))

abbrev pub is_signature_encoding : SignaturePadding → HashAlgorithm → List ℕ → List ℕ → Bool
is_signature_encoding Pkcs1 h digest em = is_pkcs1 h digest em
is_signature_encoding Pss h digest em = is_pss h digest em
