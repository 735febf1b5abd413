-- How many shorts the state of a digest has at most.
use Rattle.std.proofs.Common.{◌≤◌, arith}
use Rattle.jc_digests.specs.declared.kept.HashAlgorithm.{HashAlgorithm}
use Rattle.jc_digests.specs.declared.kept.HashAlgorithm.TheVariants.{Md5, Sha1, Sha224, Sha256, Sha384, Sha512}
use Rattle.jc_api_keys.specs.DigestStates.{digest_shorts}

pub few_shorts : (a : HashAlgorithm) → digest_shorts a ≤ 100
few_shorts Md5 = omega arith
few_shorts Sha1 = omega arith
few_shorts Sha224 = omega arith
few_shorts Sha256 = omega arith
few_shorts Sha384 = omega arith
few_shorts Sha512 = omega arith
