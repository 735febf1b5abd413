-- EMSA-PKCS1-v1_5 (RFC 8017, 9.2).
use Rattle.std.specs.Prelude.{◌≡◌, ◌≤◌, ℕ, ◌+◌, ◌-◌, List, [], ◌∷◌, ◌++◌, length, replicate}
use Rattle.jc_digests.specs.declared.kept.HashAlgorithm.{HashAlgorithm}
use Rattle.jc_digests.specs.declared.kept.HashAlgorithm.TheVariants.{Md5, Sha1, Sha224, Sha256, Sha384, Sha512}

-- ---- DigestInfo (RFC 8017, A.2.4), by DER (X.690)

-- a tag, a length of less than 128 bytes, and the contents
abbrev pub element : ℕ → List ℕ → List ℕ
element tag contents = tag ∷ length contents ∷ contents

-- SEQUENCE, OBJECT IDENTIFIER, NULL, OCTET STRING
abbrev pub sequence : List ℕ → List ℕ
sequence contents = element 0x30 contents

abbrev pub object_identifier : List ℕ → List ℕ
object_identifier contents = element 0x06 contents

abbrev pub null : List ℕ
null = element 0x05 []

abbrev pub octet_string : List ℕ → List ℕ
octet_string contents = element 0x04 contents

-- 1.2.840.113549.2.5; 1.3.14.3.2.26; 2.16.840.1.101.3.4.2 and 4, 1, 2, 3 (RFC 8017, B.1)
abbrev pub hash_identifier : HashAlgorithm → List ℕ
hash_identifier Md5 = 0x2a ∷ 0x86 ∷ 0x48 ∷ 0x86 ∷ 0xf7 ∷ 0x0d ∷ 0x02 ∷ 0x05 ∷ []
hash_identifier Sha1 = 0x2b ∷ 0x0e ∷ 0x03 ∷ 0x02 ∷ 0x1a ∷ []
hash_identifier Sha224 = 0x60 ∷ 0x86 ∷ 0x48 ∷ 0x01 ∷ 0x65 ∷ 0x03 ∷ 0x04 ∷ 0x02 ∷ 0x04 ∷ []
hash_identifier Sha256 = 0x60 ∷ 0x86 ∷ 0x48 ∷ 0x01 ∷ 0x65 ∷ 0x03 ∷ 0x04 ∷ 0x02 ∷ 0x01 ∷ []
hash_identifier Sha384 = 0x60 ∷ 0x86 ∷ 0x48 ∷ 0x01 ∷ 0x65 ∷ 0x03 ∷ 0x04 ∷ 0x02 ∷ 0x02 ∷ []
hash_identifier Sha512 = 0x60 ∷ 0x86 ∷ 0x48 ∷ 0x01 ∷ 0x65 ∷ 0x03 ∷ 0x04 ∷ 0x02 ∷ 0x03 ∷ []

-- the hash function, with parameters NULL, and a digest
unfoldable pub digest_info : HashAlgorithm → List ℕ → List ℕ
digest_info a digest = sequence (sequence (object_identifier (hash_identifier a) ++ null) ++ octet_string digest)

-- its bytes before the digest (RFC 8017, 9.2, note 1)
abbrev pub digest_info_prefix : HashAlgorithm → List ℕ
digest_info_prefix Md5 = 0x30 ∷ 0x20 ∷ 0x30 ∷ 0x0c ∷ 0x06 ∷ 0x08 ∷ 0x2a ∷ 0x86 ∷ 0x48 ∷ 0x86 ∷ 0xf7 ∷ 0x0d ∷ 0x02 ∷ 0x05 ∷ 0x05 ∷ 0x00 ∷ 0x04 ∷ 0x10 ∷ []
digest_info_prefix Sha1 = 0x30 ∷ 0x21 ∷ 0x30 ∷ 0x09 ∷ 0x06 ∷ 0x05 ∷ 0x2b ∷ 0x0e ∷ 0x03 ∷ 0x02 ∷ 0x1a ∷ 0x05 ∷ 0x00 ∷ 0x04 ∷ 0x14 ∷ []
digest_info_prefix Sha224 =
    0x30 ∷ 0x2d ∷ 0x30 ∷ 0x0d ∷ 0x06 ∷ 0x09 ∷ 0x60 ∷ 0x86 ∷ 0x48 ∷ 0x01 ∷
    0x65 ∷ 0x03 ∷ 0x04 ∷ 0x02 ∷ 0x04 ∷ 0x05 ∷ 0x00 ∷ 0x04 ∷ 0x1c ∷ []
digest_info_prefix Sha256 =
    0x30 ∷ 0x31 ∷ 0x30 ∷ 0x0d ∷ 0x06 ∷ 0x09 ∷ 0x60 ∷ 0x86 ∷ 0x48 ∷ 0x01 ∷
    0x65 ∷ 0x03 ∷ 0x04 ∷ 0x02 ∷ 0x01 ∷ 0x05 ∷ 0x00 ∷ 0x04 ∷ 0x20 ∷ []
digest_info_prefix Sha384 =
    0x30 ∷ 0x41 ∷ 0x30 ∷ 0x0d ∷ 0x06 ∷ 0x09 ∷ 0x60 ∷ 0x86 ∷ 0x48 ∷ 0x01 ∷
    0x65 ∷ 0x03 ∷ 0x04 ∷ 0x02 ∷ 0x02 ∷ 0x05 ∷ 0x00 ∷ 0x04 ∷ 0x30 ∷ []
digest_info_prefix Sha512 =
    0x30 ∷ 0x51 ∷ 0x30 ∷ 0x0d ∷ 0x06 ∷ 0x09 ∷ 0x60 ∷ 0x86 ∷ 0x48 ∷ 0x01 ∷
    0x65 ∷ 0x03 ∷ 0x04 ∷ 0x02 ∷ 0x03 ∷ 0x05 ∷ 0x00 ∷ 0x04 ∷ 0x40 ∷ []

-- how many bytes it has
abbrev pub digest_info_size : HashAlgorithm → ℕ
digest_info_size Md5 = 34
digest_info_size Sha1 = 35
digest_info_size Sha224 = 47
digest_info_size Sha256 = 51
digest_info_size Sha384 = 67
digest_info_size Sha512 = 83

-- ---- the encoding

-- the encoding of n bytes of data T, of at most n - 11 bytes: 00 01 PS 00 T, with PS of bytes FF
unfoldable pub signature_block : List ℕ → ℕ → List ℕ
signature_block t n = 0x00 ∷ 0x01 ∷ replicate (n - length t - 3) 0xff ++ 0x00 ∷ t

-- em is the encoding of data T
pub record IsSignatureBlock (t em : List ℕ) : Type 0 where
  pub fits : length t + 11 ≤ length em
  pub is : em ≡ signature_block t (length em)
