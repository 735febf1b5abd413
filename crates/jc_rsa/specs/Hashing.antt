-- Digests by the name of their hash function.
use Rattle.std.specs.Prelude.{ℕ, List}
use Rattle.md5.specs.Md5.{md5}
use Rattle.sha1.specs.Sha1.{sha1}
use Rattle.sha2.specs.Sha256.{sha224, sha256}
use Rattle.sha2.specs.Sha512.{sha384, sha512}
use Rattle.jc_digests.specs.declared.kept.HashAlgorithm.{HashAlgorithm}
use Rattle.jc_digests.specs.declared.kept.HashAlgorithm.TheVariants.{Md5, Sha1, Sha224, Sha256, Sha384, Sha512}

-- the digest of a message: Hash of RFC 8017
unfoldable pub digest_of : HashAlgorithm → List ℕ → List ℕ
digest_of Md5 m = md5 m
digest_of Sha1 m = sha1 m
digest_of Sha224 m = sha224 m
digest_of Sha256 m = sha256 m
digest_of Sha384 m = sha384 m
digest_of Sha512 m = sha512 m
