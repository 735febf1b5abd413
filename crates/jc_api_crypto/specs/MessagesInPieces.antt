-- A message that comes in pieces, and the states that its hash function keeps between them.
use Rattle.std.specs.Prelude.{ℕ, ◌≡◌, ◌<◌, ◌^◌, List, [], ◌++◌, length, replicate, ◌+◌, fold}
use Rattle.md5.specs.Md5.{md5}
use Rattle.sha1.specs.Sha1.{sha1}
use Rattle.sha2.specs.Sha256.{sha224, sha256}
use Rattle.sha2.specs.Sha512.{sha384, sha512}
use Rattle.jc_digests.specs.Kept.{after_blocks, digest_of_state, form_of, hash_in, initial_of, length_in, open_in, state_after, state_size, whole_blocks}
use Rattle.jc_digests.specs.Kept.{HashForm, block_size}
use Rattle.jc_digests.specs.declared.kept.HashAlgorithm.{HashAlgorithm}
use Rattle.jc_digests.specs.declared.kept.HashAlgorithm.TheVariants.{Md5, Sha1, Sha224, Sha256, Sha384, Sha512}
use Rattle.std.specs.List.{concat}
use Rattle.jc_ciphers.specs.Kept.Hmac.{hmac_of_state, hmac_state_after}
use Rattle.jc_ciphers.specs.Macs.{hmac}

-- the hash functions of the standards
abbrev pub hash_of : HashAlgorithm → List ℕ → List ℕ
hash_of Md5 m = md5 m
hash_of Sha1 m = sha1 m
hash_of Sha224 m = sha224 m
hash_of Sha256 m = sha256 m
hash_of Sha384 m = sha384 m
hash_of Sha512 m = sha512 m

-- a state holds a message: its hash value is that of the whole blocks, its open block is the rest, and its length is the message's
pub record HoldsMessage (f : HashForm) (initial m state : List ℕ) : Type 0 where
  pub hash : hash_in f initial state ≡ whole_blocks f initial m
  pub rest : open_in f state ≡ after_blocks f m
  pub long : length_in f state ≡ length m

-- of any message shorter than 2^64 bytes, in any pieces, the digest is that of the standard: a state to which nothing came holds the empty
-- message, once a piece follows it holds the longer message, and the digest of a state is that of the message that it holds
pub record AreOfTheWhole (a : HashAlgorithm) : Type 0 where
  pub nothing : HoldsMessage (form_of a) (initial_of a) [] (replicate (state_size a) 0)
  pub longer : (m piece state : List ℕ) → length (m ++ piece) < 2 ^ 64 → HoldsMessage (form_of a) (initial_of a) m state
      → HoldsMessage (form_of a) (initial_of a) (m ++ piece) (state_after a state piece)
  pub digest : (m state : List ℕ) → HoldsMessage (form_of a) (initial_of a) m state → digest_of_state a state ≡ hash_of a m

-- ---- codes by HMAC of a message that comes in pieces

-- under a key, the code of any pieces and a last one is HMAC (RFC 2104) of the whole, over the hash function of the standard
abbrev pub HmacsAreOfTheWhole : Type 0
HmacsAreOfTheWhole =
    (a : HashAlgorithm) (key last : List ℕ) (pieces : List (List ℕ)) → length key < 2 ^ 64 → block_size a + length (concat pieces ++ last) < 2 ^ 64
    → hmac_of_state a key (fold (hmac_state_after a key) (replicate (state_size a) 0) pieces) last
    ≡ hmac (hash_of a) (block_size a) key (concat pieces ++ last)
