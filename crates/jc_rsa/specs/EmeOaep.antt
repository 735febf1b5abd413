-- EME-OAEP (RFC 8017, 7.1) with an empty label, and MGF1 over the same hash function.
use Rattle.std.specs.Prelude.{◌≡◌, ◌≤◌, ℕ, ◌+◌, ◌-◌, ◌*◌, List, [], ◌∷◌, ◌++◌, length, replicate}
use Rattle.jc_digests.specs.Kept.{digest_size}
use Rattle.jc_digests.specs.declared.kept.HashAlgorithm.{HashAlgorithm}
use Rattle.jc_rsa.specs.Bytes.{xor}
use Rattle.jc_rsa.specs.Hashing.{digest_of}
use Rattle.jc_rsa.specs.Mgf1.{mgf1}

-- DB, of n bytes: lHash ‖ PS ‖ 01 ‖ M, with PS of zeros
unfoldable pub data_block : HashAlgorithm → List ℕ → ℕ → List ℕ
data_block a m n = digest_of a [] ++ replicate (n - length m - digest_size a - 1) 0x00 ++ 0x01 ∷ m

-- EM, of a seed and a DB: 00 ‖ maskedSeed ‖ maskedDB
unfoldable pub masked : HashAlgorithm → List ℕ → List ℕ → List ℕ
masked a seed block =
    let masked_block : List ℕ = xor block (mgf1 a seed (length block)) in
    0x00 ∷ xor seed (mgf1 a masked_block (length seed)) ++ masked_block

-- the encoding of a message as k bytes
unfoldable pub oaep : HashAlgorithm → List ℕ → List ℕ → ℕ → List ℕ
oaep a seed m k = masked a seed (data_block a m (k - digest_size a - 1))

-- this is the DB of a message
pub record IsDataBlock (a : HashAlgorithm) (m block : List ℕ) : Type 0 where
  pub fits : length m + digest_size a + 1 ≤ length block
  pub is : block ≡ data_block a m (length block)

-- this is an encoding of a message
pub record IsOaep (a : HashAlgorithm) (m em : List ℕ) : Type 0 where
  pub seed : List ℕ
  pub whole : length seed ≡ digest_size a
  pub fits : length m + 2 * digest_size a + 2 ≤ length em
  pub is : em ≡ oaep a seed m (length em)
