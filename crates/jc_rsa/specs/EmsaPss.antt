-- EMSA-PSS (RFC 8017, 9.1) with MGF1 over the same hash function. An encoding of n bytes has 8 n - spare bits.
use Rattle.std.specs.Prelude.{◌≡◌, ◌≤◌, ℕ, ◌+◌, ◌-◌, ◌/◌, ◌^◌, List, [], ◌∷◌, ◌++◌, bit_and, length, replicate}
use Rattle.jc_digests.specs.Kept.{digest_size}
use Rattle.jc_digests.specs.declared.kept.HashAlgorithm.{HashAlgorithm}
use Rattle.jc_rsa.specs.Bytes.{xor}
use Rattle.jc_rsa.specs.Hashing.{digest_of}
use Rattle.jc_rsa.specs.Mgf1.{mgf1}

-- H: the digest of eight zeros, the message's digest, and the salt
unfoldable pub salted_digest : HashAlgorithm → List ℕ → List ℕ → List ℕ
salted_digest a digest salt = digest_of a (replicate 8 0x00 ++ digest ++ salt)

-- DB, of n bytes: PS ‖ 01 ‖ salt, with PS of zeros
unfoldable pub salt_block : List ℕ → ℕ → List ℕ
salt_block salt n = replicate (n - length salt - 1) 0x00 ++ 0x01 ∷ salt

-- the leftmost bits of the first byte are zeros
unfoldable pub cleared : ℕ → List ℕ → List ℕ
cleared spare [] = []
cleared spare (x ∷ xs) = bit_and x (0xff / 2 ^ spare) ∷ xs

-- EM, of H and DB: maskedDB ‖ H ‖ BC
unfoldable pub sealed : HashAlgorithm → List ℕ → List ℕ → ℕ → List ℕ
sealed a hash block spare = cleared spare (xor block (mgf1 a hash (length block))) ++ hash ++ 0xbc ∷ []

-- the encoding of a message's digest as n bytes
unfoldable pub pss : HashAlgorithm → List ℕ → List ℕ → ℕ → ℕ → List ℕ
pss a digest salt spare n = sealed a (salted_digest a digest salt) (salt_block salt (n - digest_size a - 1)) spare

-- this is an encoding of a message's digest with a salt of this length
pub record IsPss (a : HashAlgorithm) (digest : List ℕ) (salt_size spare : ℕ) (em : List ℕ) : Type 0 where
  pub salt : List ℕ
  pub whole : length salt ≡ salt_size
  pub fits : digest_size a + salt_size + 2 ≤ length em
  pub is : em ≡ pss a digest salt spare (length em)
