-- MGF1 (RFC 8017, B.2.1).
use Rattle.std.specs.Prelude.{ℕ, zero, suc, List, [], ◌++◌, take}
use Rattle.std.specs.Int.{div_ceil, to_be_bytes, w32}
use Rattle.jc_digests.specs.Kept.{digest_size}
use Rattle.jc_digests.specs.declared.kept.HashAlgorithm.{HashAlgorithm}
use Rattle.jc_rsa.specs.Hashing.{digest_of}

-- Hash (seed ‖ I2OSP (0, 4)) ‖ … ‖ Hash (seed ‖ I2OSP (n - 1, 4))
unfoldable pub mask_blocks : HashAlgorithm → List ℕ → ℕ → List ℕ
mask_blocks a seed zero = []
mask_blocks a seed (suc n) = mask_blocks a seed n ++ digest_of a (seed ++ to_be_bytes w32 n)

-- the first n bytes of the fewest blocks that have as many
unfoldable pub mgf1 : HashAlgorithm → List ℕ → ℕ → List ℕ
mgf1 a seed n = take n (mask_blocks a seed (div_ceil n (digest_size a)))
