-- HMAC whose state stands as bytes between two pieces of a message: the state of its inner digest. Zeros are the state of no message.
use Rattle.std.specs.Prelude.{◌≡◌, ℕ, ◌+◌, ◌<◌, ◌^◌, ◌==◌, List, ◌++◌, fold, length, replicate, if◌then◌else◌}
use Rattle.std.specs.List.{concat}
use Rattle.jc_digests.specs.Kept.{block_size, digest_of_state, form_of, length_in, state_after, state_size}
use Rattle.jc_digests.specs.declared.kept.HashAlgorithm.{HashAlgorithm}
use Rattle.jc_ciphers.specs.Macs.{hmac, key_block, marked}

-- the state of a digest that has taken in a message in one piece, and its digest
abbrev pub state_of_whole : HashAlgorithm → List ℕ → List ℕ
state_of_whole a m = state_after a (replicate (state_size a) 0) m

abbrev pub digest_of_whole : HashAlgorithm → List ℕ → List ℕ
digest_of_whole a m = digest_of_state a (state_of_whole a m)

-- the state of a digest that has taken in a marked key
abbrev pub keyed_state : HashAlgorithm → List ℕ → ℕ → List ℕ
keyed_state a key pad = state_of_whole a (marked (key_block (digest_of_whole a) (block_size a) key) pad (block_size a))

-- the inner digest's state: where nothing came, it has taken in the marked key
abbrev pub inner_state : HashAlgorithm → List ℕ → List ℕ → List ℕ
inner_state a key state = if length_in (form_of a) state == 0 then keyed_state a key 0x36 else state

-- the state once a piece follows, and the code of a message that ends by a piece
abbrev pub hmac_state_after : HashAlgorithm → List ℕ → List ℕ → List ℕ → List ℕ
hmac_state_after a key state piece = state_after a (inner_state a key state) piece

abbrev pub hmac_of_state : HashAlgorithm → List ℕ → List ℕ → List ℕ → List ℕ
hmac_of_state a key state piece =
    digest_of_state a (state_after a (keyed_state a key 0x5c) (digest_of_state a (hmac_state_after a key state piece)))

-- ---- the code of a message in pieces

-- of any pieces whose states a hash function takes in one after another, shorter than 2^64 bytes together: their digest is that of the
-- whole, and the state has their length
pub record DigestsTheWhole (a : HashAlgorithm) (digest : List ℕ → List ℕ) : Type 0 where
  pub digested : (pieces : List (List ℕ)) → length (concat pieces) < 2 ^ 64
      → digest_of_state a (fold (state_after a) (replicate (state_size a) 0) pieces) ≡ digest (concat pieces)
  pub long : (pieces : List (List ℕ)) → length (concat pieces) < 2 ^ 64
      → length_in (form_of a) (fold (state_after a) (replicate (state_size a) 0) pieces) ≡ length (concat pieces)

-- where a hash function does, the code of any pieces and a last one is that of the whole
abbrev pub HmacIsOfTheWhole : Type 0
HmacIsOfTheWhole =
    (a : HashAlgorithm) (digest : List ℕ → List ℕ) → DigestsTheWhole a digest → (key last : List ℕ) (pieces : List (List ℕ))
    → length key < 2 ^ 64 → block_size a + length (concat pieces ++ last) < 2 ^ 64
    → hmac_of_state a key (fold (hmac_state_after a key) (replicate (state_size a) 0) pieces) last
    ≡ hmac digest (block_size a) key (concat pieces ++ last)
