-- How many bytes digests, blocks and states have.
use Rattle.std.proofs.Common.{◌≡◌, ◌≤◌, ◌+◌, ℕ, refl, arith}
use Rattle.jc_digests.specs.Kept.{block_size, digest_size, form_of, hash_size}
use Rattle.jc_digests.specs.declared.kept.HashAlgorithm.{HashAlgorithm}
use Rattle.jc_digests.specs.declared.kept.HashAlgorithm.TheVariants.{Md5, Sha1, Sha224, Sha256, Sha384, Sha512}

pub digest_few : (a : HashAlgorithm) → digest_size a ≤ 64
digest_few Md5 = omega arith
digest_few Sha1 = omega arith
digest_few Sha224 = omega arith
digest_few Sha256 = omega arith
digest_few Sha384 = omega arith
digest_few Sha512 = omega arith

pub digest_fits : (a : HashAlgorithm) → digest_size a ≤ block_size a
digest_fits Md5 = omega arith
digest_fits Sha1 = omega arith
digest_fits Sha224 = omega arith
digest_fits Sha256 = omega arith
digest_fits Sha384 = omega arith
digest_fits Sha512 = omega arith

pub block_few : (a : HashAlgorithm) → block_size a ≤ 128
block_few Md5 = omega arith
block_few Sha1 = omega arith
block_few Sha224 = omega arith
block_few Sha256 = omega arith
block_few Sha384 = omega arith
block_few Sha512 = omega arith

-- where the length stands in a state
pub length_at : (a : HashAlgorithm) → (form_of a).width + (form_of a).block ≡ hash_size a + block_size a
length_at Md5 = refl
length_at Sha1 = refl
length_at Sha224 = refl
length_at Sha256 = refl
length_at Sha384 = refl
length_at Sha512 = refl

pub block_some : (a : HashAlgorithm) → 1 ≤ block_size a
block_some Md5 = omega arith
block_some Sha1 = omega arith
block_some Sha224 = omega arith
block_some Sha256 = omega arith
block_some Sha384 = omega arith
block_some Sha512 = omega arith
