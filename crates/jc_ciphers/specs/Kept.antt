-- Messages under block ciphers, whose state stands as bytes between two pieces: 1 once anything came, how many bytes of the open block are
-- filled, the chaining block, and the open block. Zeros are the state of no message.
pub mod Conversion
pub mod Hmac
pub mod Macs
use Rattle.std.specs.Prelude.{◌≡◌, ℕ, ◌+◌, ◌-◌, ◌*◌, ◌/◌, ◌⊎◌, Bool, List, ◌∷◌, ◌++◌, length, replicate, take, drop, nat_eq, slice_index, if◌then◌else◌}
use Rattle.jc_ciphers.specs.Aes as Aes
use Rattle.jc_ciphers.specs.Des as Des
use Rattle.jc_ciphers.specs.TripleDes.{IsTripleLength, parts_of, triple_decrypted, triple_encrypted}
use Rattle.jc_ciphers.specs.declared.kept.BlockAlgorithm.{BlockAlgorithm}
use Rattle.jc_ciphers.specs.declared.kept.BlockAlgorithm.TheVariants as algorithm
use Rattle.jc_ciphers.specs.Modes.{chain_after, output}

-- how many bytes a block and a state have
abbrev pub block_size : BlockAlgorithm → ℕ
block_size algorithm.Aes = 16
block_size algorithm.Des = 8

abbrev pub state_size : BlockAlgorithm → ℕ
state_size a = 2 + 2 * block_size a

-- a key of AES has 16, 24 or 32 bytes, one of DES 8, one of triple DES 16 or 24
abbrev pub IsKeyLength : BlockAlgorithm → ℕ → Type 0
IsKeyLength algorithm.Aes n = Aes.IsKeyLength n
IsKeyLength algorithm.Des n = (n ≡ 8) ⊎ IsTripleLength n

-- a block enciphered under a key, and deciphered
abbrev pub encrypted_under : BlockAlgorithm → List ℕ → List ℕ → List ℕ
encrypted_under algorithm.Aes key b = Aes.encrypted key b
encrypted_under algorithm.Des key b = if nat_eq (length key) 8 then Des.encrypted key b else triple_encrypted (parts_of key) b

abbrev pub decrypted_under : BlockAlgorithm → List ℕ → List ℕ → List ℕ
decrypted_under algorithm.Aes key b = Aes.decrypted key b
decrypted_under algorithm.Des key b = if nat_eq (length key) 8 then Des.decrypted key b else triple_decrypted (parts_of key) b

-- ---- what a state says, of blocks of `size` bytes

-- the chaining block: the vector, where nothing came
abbrev pub chain_in : ℕ → List ℕ → List ℕ → List ℕ
chain_in size vector state = if nat_eq (slice_index state 0) 0 then vector else take size (drop 2 state)

-- the bytes of the open block that came
abbrev pub open_in : ℕ → List ℕ → List ℕ
open_in size state = take (slice_index state 1) (drop (2 + size) state)

-- the state of a chaining block and of the bytes of an open block
abbrev pub state_of : ℕ → List ℕ → List ℕ → List ℕ
state_of size chain rest = 1 ∷ length rest ∷ chain ++ rest ++ replicate (size - length rest) 0

-- ---- what becomes of it

-- how many blocks of n bytes are converted: all that are whole; if a last one is held back, all that a byte follows
abbrev pub ready_blocks : Bool → ℕ → ℕ → ℕ
ready_blocks holds size n = if holds then (n - 1) / size else n / size

-- the state once a piece follows; it stays where nothing is open or comes
unfoldable pub next_state : (List ℕ → List ℕ → List ℕ) → ℕ → Bool → List ℕ → List ℕ → List ℕ → List ℕ
next_state chained size holds vector state piece =
    let m : List ℕ = open_in size state ++ piece in
    let k : ℕ = ready_blocks holds size (length m) in
    if nat_eq (length m) 0 then state
    else state_of size (chain_after chained size (chain_in size vector state) m k) (drop (k * size) m)

-- what is written of the message as a piece follows
unfoldable pub next_output : (List ℕ → List ℕ → List ℕ) → (List ℕ → List ℕ → List ℕ) → ℕ → Bool → List ℕ → List ℕ → List ℕ → List ℕ
next_output chained written size holds vector state piece =
    let m : List ℕ = open_in size state ++ piece in
    output chained written size (chain_in size vector state) m (ready_blocks holds size (length m))
