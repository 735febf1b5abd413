-- The bytes of a DigestInfo before the digest are those that DER makes.
use Rattle.std.proofs.Common.{◌≡◌, ◌+◌, ◌++◌, ℕ, List, length, refl}
use Rattle.jc_digests.specs.Kept.{digest_size}
use Rattle.jc_digests.specs.declared.kept.HashAlgorithm.{HashAlgorithm}
use Rattle.jc_digests.specs.declared.kept.HashAlgorithm.TheVariants.{Md5, Sha1, Sha224, Sha256, Sha384, Sha512}
use Rattle.jc_rsa.specs.EmsaPkcs1.{digest_info, digest_info_prefix, digest_info_size}

pub digest_info-is : (a : HashAlgorithm) (digest : List ℕ) → length digest ≡ digest_size a → digest_info_prefix a ++ digest ≡ digest_info a digest
unfolding digest_info
digest_info-is Md5 digest long = rw long refl
digest_info-is Sha1 digest long = rw long refl
digest_info-is Sha224 digest long = rw long refl
digest_info-is Sha256 digest long = rw long refl
digest_info-is Sha384 digest long = rw long refl
digest_info-is Sha512 digest long = rw long refl

pub prefix-size : (a : HashAlgorithm) → length (digest_info_prefix a) + digest_size a ≡ digest_info_size a
prefix-size Md5 = refl
prefix-size Sha1 = refl
prefix-size Sha224 = refl
prefix-size Sha256 = refl
prefix-size Sha384 = refl
prefix-size Sha512 = refl
