-- What the modes are to one another.
use Rattle.std.specs.Prelude.{◌≡◌, ℕ, ◌*◌, ◌<◌, List, length, slice_index, [], ◌++◌, drop, nat_eq, replicate}
use Rattle.jc_ciphers.specs.Modes.{output, xor_first, chain_after}
use Rattle.std.specs.Option.{option_map}
use Rattle.jc_ciphers.specs.declared.kept.conversion.Conversion.{Conversion}
use Rattle.jc_ciphers.specs.Kept.Conversion.{chained_of, conversion_after, conversion_end, conversion_output, converted, holds_back, size_of, written_of}
use Rattle.jc_ciphers.specs.Kept.{chain_in, open_in, ready_blocks, state_size}

-- a list of `size` bytes
pub record IsBlock (size : ℕ) (b : List ℕ) : Type 0 where
  pub long : length b ≡ size
  pub byte : (i : ℕ) → slice_index b i < 256

-- d undoes e on blocks
pub record Undoes (size : ℕ) (d e : List ℕ → List ℕ) : Type 0 where
  pub back : (b : List ℕ) → IsBlock size b → d (e b) ≡ b
  pub block : (b : List ℕ) → IsBlock size b → IsBlock size (e b)

-- ECB and CBC of n whole blocks, of what a cipher and its inverse make of a block
abbrev pub ecb : ℕ → (List ℕ → List ℕ) → List ℕ → List ℕ → ℕ → List ℕ
ecb size e first m n = output (λ c b. c) (λ c b. e b) size first m n

abbrev pub cbc_encrypted : ℕ → (List ℕ → List ℕ) → List ℕ → List ℕ → ℕ → List ℕ
cbc_encrypted size e first m n = output (λ c b. e (xor_first c b size)) (λ c b. e (xor_first c b size)) size first m n

abbrev pub cbc_decrypted : ℕ → (List ℕ → List ℕ) → List ℕ → List ℕ → ℕ → List ℕ
cbc_decrypted size d first m n = output (λ c b. b) (λ c b. xor_first (d b) c size) size first m n

-- deciphering undoes enciphering, of each message of whole blocks and each first chaining block
abbrev pub EcbIsUndone : Type 0
EcbIsUndone =
    (size : ℕ) (d e : List ℕ → List ℕ) (first m : List ℕ) (n : ℕ) → Undoes size d e → IsBlock size first → IsBlock (n * size) m
    → ecb size d first (ecb size e first m n) n ≡ m

abbrev pub CbcIsUndone : Type 0
CbcIsUndone =
    (size : ℕ) (d e : List ℕ → List ℕ) (first m : List ℕ) (n : ℕ) → Undoes size d e → IsBlock size first → IsBlock (n * size) m
    → cbc_decrypted size d first (cbc_encrypted size e first m n) n ≡ m

-- ---- messages through a mode in pieces: what is written of all pieces is what the mode makes of the whole message

-- how many blocks of a message are converted before its end
abbrev pub blocks_of : Conversion → List ℕ → ℕ
blocks_of v m = ready_blocks (holds_back v.direction v.padding) (size_of v) (length m)

-- a state holds a message: whether it has bytes, the chaining block after the blocks that are converted, and the bytes after them; w is what
-- the mode writes of those blocks
pub record HoldsMessage (v : Conversion) (key vector m state w : List ℕ) : Type 0 where
  pub came : nat_eq (slice_index state 0) 0 ≡ nat_eq (length m) 0
  pub chain : chain_in (size_of v) vector state ≡ chain_after (chained_of v key) (size_of v) vector m (blocks_of v m)
  pub rest : open_in (size_of v) state ≡ drop (blocks_of v m * size_of v) m
  pub out : w ≡ output (chained_of v key) (written_of v key) (size_of v) vector m (blocks_of v m)

-- zeros hold the empty message; once a piece follows, the state holds the longer message, of which is written what was and what is now; and at
-- the end what was written and what is written last are what becomes of the whole message, which is refused where the end is
pub record AreOfTheWhole (v : Conversion) (key vector : List ℕ) : Type 0 where
  pub nothing : HoldsMessage v key vector [] (replicate (state_size v.algorithm) 0) []
  pub longer : (m piece state w : List ℕ) → HoldsMessage v key vector m state w
      → HoldsMessage v key vector (m ++ piece) (conversion_after v key vector state piece) (w ++ conversion_output v key vector state piece)
  pub ended : (m piece state w : List ℕ) → HoldsMessage v key vector m state w
      → option_map (λ out. w ++ out) (conversion_end v key vector state piece) ≡ converted v key vector (m ++ piece)

-- the outputs of any pieces and of the end are what becomes of the whole message
abbrev pub ConversionsAreOfTheWhole : Type 0
ConversionsAreOfTheWhole =
    (v : Conversion) (key vector : List ℕ) → length vector ≡ size_of v → AreOfTheWhole v key vector
