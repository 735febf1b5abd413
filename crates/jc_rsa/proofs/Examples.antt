-- The published examples, computed from the definitions, so that a wrong step does not check.
use Rattle.std.proofs.Common.{◌≡◌, refl}
use Rattle.sha1.specs.Sha1.{first_words, schedule, rounds, compress, hash_after, digest_bytes, sha1}
use Rattle.jc_digests.specs.declared.kept.HashAlgorithm.TheVariants.{Sha1}
use Rattle.jc_rsa.specs.Bytes.{xor}
use Rattle.jc_rsa.specs.EmeOaep.{data_block, masked, oaep}
use Rattle.jc_rsa.specs.EmsaPss.{cleared, pss, salt_block, salted_digest, sealed}
use Rattle.jc_rsa.specs.Laws.{digest, message, oaep_encoding, pss_encoding, salt, seed}
use Rattle.jc_rsa.specs.Hashing.{digest_of}
use Rattle.jc_rsa.specs.Mgf1.{mask_blocks, mgf1}

pub oaep_holds : oaep Sha1 seed message 128 ≡ oaep_encoding
unfolding first_words schedule rounds compress hash_after digest_bytes sha1 digest_of mask_blocks mgf1 xor data_block masked oaep
oaep_holds = refl

pub pss_holds : pss Sha1 digest salt 1 128 ≡ pss_encoding
unfolding first_words schedule rounds compress hash_after digest_bytes sha1 digest_of mask_blocks mgf1 xor cleared salt_block salted_digest sealed pss
pss_holds = refl
