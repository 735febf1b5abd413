-- Modes of block ciphers, on lists of bytes.
use Rattle.std.specs.Prelude.{◌≡◌, ℕ, zero, suc, ◌+◌, ◌*◌, List, [], ◌∷◌, ◌++◌, bit_xor, drop, length, take, slice_index}

-- the exclusive-or of bytes at the first n places
unfoldable pub xor_first : List ℕ → List ℕ → ℕ → List ℕ
xor_first xs ys zero = []
xor_first xs ys (suc n) = xor_first xs ys n ++ bit_xor (slice_index xs n) (slice_index ys n) ∷ []

-- block n of a message
abbrev pub block_at : ℕ → List ℕ → ℕ → List ℕ
block_at size m n = take size (drop (n * size) m)

-- the chaining block after n blocks of a message, from a first one
unfoldable pub chain_after : (List ℕ → List ℕ → List ℕ) → ℕ → List ℕ → List ℕ → ℕ → List ℕ
chain_after chained size first m zero = first
chain_after chained size first m (suc n) = chained (chain_after chained size first m n) (block_at size m n)

-- what a mode writes of the first n blocks of a message
unfoldable pub output : (List ℕ → List ℕ → List ℕ) → (List ℕ → List ℕ → List ℕ) → ℕ → List ℕ → List ℕ → ℕ → List ℕ
output chained written size first m zero = []
output chained written size first m (suc n) =
    output chained written size first m n ++ written (chain_after chained size first m n) (block_at size m n)

-- the blocks of a message m were converted but for its last bytes, the first `used` of b; w is all that was written
pub record IsUnderWay (chained written : List ℕ → List ℕ → List ℕ) (size : ℕ) (first m c b : List ℕ) (used : ℕ) (w : List ℕ) : Type 0 where
  pub blocks : ℕ
  pub chain : c ≡ chain_after chained size first m blocks
  pub long : blocks * size + used ≡ length m
  pub rest : take used b ≡ drop (blocks * size) m
  pub out : w ≡ output chained written size first m blocks
