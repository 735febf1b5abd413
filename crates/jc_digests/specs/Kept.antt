-- Digests whose state stands as bytes between two pieces of a message: the hash value of the whole blocks, the open block, and the length
-- of the message. Zeros are the state of no message.
use Rattle.std.specs.Prelude.{ℕ, ◌+◌, ◌-◌, ◌*◌, ◌/◌, ◌%◌, ◌^◌, ◌==◌, List, [], ◌∷◌, ◌++◌, length, replicate, take, drop, if◌then◌else◌}
use Rattle.std.specs.Int.{to_be_bytes, to_le_bytes, w32, w64, w128}
use Rattle.md5.specs.Md5 as M5
use Rattle.sha1.specs.Sha1 as S1
use Rattle.sha2.specs.Sha256 as S256
use Rattle.sha2.specs.Sha512 as S512
use Rattle.jc_digests.specs.declared.kept.HashAlgorithm.{HashAlgorithm}
use Rattle.jc_digests.specs.declared.kept.HashAlgorithm.TheVariants.{Md5, Sha1, Sha224, Sha256, Sha384, Sha512}
use Rattle.jc_digests.specs.Pieces.{bytes_of_words, closed, hash_after}

-- how hash functions take in blocks, and how a hash value and a length stand as bytes
pub record HashForm : Type 0 where
  pub compressed : List ℕ → List ℕ → List ℕ
  pub block : ℕ  -- how many bytes a block has
  pub width : ℕ  -- how many bytes a hash value has
  pub bytes : List ℕ → List ℕ  -- a hash value by its bytes
  pub value : List ℕ → List ℕ  -- the hash value of the first bytes
  pub field : ℕ → List ℕ  -- the length that ends the padding, of this many bytes

-- words of 32 bits, and of 64, low or high byte first
abbrev pub md_5 : HashForm
md_5 = record {
  compressed = M5.compress;
  block = 64;
  width = 16;
  bytes = λ h. bytes_of_words (to_le_bytes w32) h 4;
  value = λ b. M5.word_at b 0 ∷ M5.word_at b 4 ∷ M5.word_at b 8 ∷ M5.word_at b 12 ∷ [];
  field = λ n. to_le_bytes w64 (n * 8 % 2 ^ 64);
}

abbrev pub sha_1 : HashForm
sha_1 = record {
  compressed = S1.compress;
  block = 64;
  width = 20;
  bytes = λ h. bytes_of_words (to_be_bytes w32) h 5;
  value = λ b. S256.word_at b 0 ∷ S256.word_at b 4 ∷ S256.word_at b 8 ∷ S256.word_at b 12 ∷ S256.word_at b 16 ∷ [];
  field = λ n. to_be_bytes w64 (n * 8 % 2 ^ 64);
}

abbrev pub sha_256 : HashForm
sha_256 = record {
  compressed = S256.compress;
  block = 64;
  width = 32;
  bytes = λ h. bytes_of_words (to_be_bytes w32) h 8;
  value = λ b. S256.word_at b 0 ∷ S256.word_at b 4 ∷ S256.word_at b 8 ∷ S256.word_at b 12 ∷ S256.word_at b 16 ∷ S256.word_at b 20
      ∷ S256.word_at b 24 ∷ S256.word_at b 28 ∷ [];
  field = λ n. to_be_bytes w64 (n * 8 % 2 ^ 64);
}

abbrev pub sha_512 : HashForm
sha_512 = record {
  compressed = S512.compress;
  block = 128;
  width = 64;
  bytes = λ h. bytes_of_words (to_be_bytes w64) h 8;
  value = λ b. S512.word_at b 0 ∷ S512.word_at b 8 ∷ S512.word_at b 16 ∷ S512.word_at b 24 ∷ S512.word_at b 32 ∷ S512.word_at b 40
      ∷ S512.word_at b 48 ∷ S512.word_at b 56 ∷ [];
  field = λ n. to_be_bytes w128 (n * 8 % 2 ^ 128);
}

abbrev pub form_of : HashAlgorithm → HashForm
form_of Md5 = md_5
form_of Sha1 = sha_1
form_of Sha224 = sha_256
form_of Sha256 = sha_256
form_of Sha384 = sha_512
form_of Sha512 = sha_512

-- the initial hash value
abbrev pub initial_of : HashAlgorithm → List ℕ
initial_of Md5 = M5.initial_hash
initial_of Sha1 = S1.initial_hash
initial_of Sha224 = S256.initial_hash_224
initial_of Sha256 = S256.initial_hash_256
initial_of Sha384 = S512.initial_hash_384
initial_of Sha512 = S512.initial_hash_512

-- how many bytes a digest has
abbrev pub digest_size : HashAlgorithm → ℕ
digest_size Md5 = 16
digest_size Sha1 = 20
digest_size Sha224 = 28
digest_size Sha256 = 32
digest_size Sha384 = 48
digest_size Sha512 = 64

-- how many bytes of a hash value, of a block, and of a state there are
abbrev pub hash_size : HashAlgorithm → ℕ
hash_size Md5 = 16
hash_size Sha1 = 20
hash_size Sha224 = 32
hash_size Sha256 = 32
hash_size Sha384 = 64
hash_size Sha512 = 64

abbrev pub block_size : HashAlgorithm → ℕ
block_size Md5 = 64
block_size Sha1 = 64
block_size Sha224 = 64
block_size Sha256 = 64
block_size Sha384 = 128
block_size Sha512 = 128

abbrev pub state_size : HashAlgorithm → ℕ
state_size a = hash_size a + block_size a + 8

-- ---- what a state says

abbrev pub length_in : HashForm → List ℕ → ℕ
length_in f state = S512.word_at state (f.width + f.block)

-- the initial hash value, where nothing came
abbrev pub hash_in : HashForm → List ℕ → List ℕ → List ℕ
hash_in f initial state = if length_in f state == 0 then initial else f.value state

-- the bytes of the open block that came
abbrev pub open_in : HashForm → List ℕ → List ℕ
open_in f state = take (length_in f state % f.block) (take f.block (drop f.width state))

-- the state of a hash value, of the bytes of an open block, and of a length
abbrev pub state_of : HashForm → List ℕ → List ℕ → ℕ → List ℕ
state_of f hash rest n = f.bytes hash ++ (rest ++ replicate (f.block - length rest) 0) ++ to_be_bytes w64 n

-- ---- what becomes of it

-- the hash value of the whole blocks of a message, from a hash value on, and the bytes after them
abbrev pub whole_blocks : HashForm → List ℕ → List ℕ → List ℕ
whole_blocks f hash m = hash_after f.compressed f.block hash m (length m / f.block)

abbrev pub after_blocks : HashForm → List ℕ → List ℕ
after_blocks f m = drop (length m / f.block * f.block) m

-- the state once a piece follows
unfoldable pub next_state : HashForm → List ℕ → List ℕ → List ℕ → List ℕ
next_state f initial state piece =
    let m : List ℕ = open_in f state ++ piece in
    state_of f (whole_blocks f (hash_in f initial state) m) (after_blocks f m) ((length_in f state + length piece) % 2 ^ 64)

-- the hash value of the message with its padding
unfoldable pub last_hash : HashForm → List ℕ → List ℕ → List ℕ
last_hash f initial state = closed f.compressed f.block (hash_in f initial state) (open_in f state) (f.field (length_in f state))

-- the state once a piece follows, and the digest of the message that a state has taken in
abbrev pub state_after : HashAlgorithm → List ℕ → List ℕ → List ℕ
state_after a state piece = next_state (form_of a) (initial_of a) state piece

abbrev pub digest_of_state : HashAlgorithm → List ℕ → List ℕ
digest_of_state a state = take (digest_size a) ((form_of a).bytes (last_hash (form_of a) (initial_of a) state))

-- the state of a message of which the hash value of its whole blocks is all that is known, and which has no other bytes
abbrev pub state_from : HashAlgorithm → List ℕ → ℕ → List ℕ
state_from a hash n = hash ++ replicate (block_size a) 0 ++ to_be_bytes w64 n
