-- Message authentication codes over what a block cipher makes of a block.
use Rattle.std.specs.Prelude.{ℕ, zero, suc, ◌+◌, ◌-◌, ◌*◌, ◌/◌, ◌%◌, List, [], ◌∷◌, ◌++◌, bit_xor, length, replicate, take, nat_eq, nat_le, nat_lt, if◌then◌else◌, slice_index}
use Rattle.jc_ciphers.specs.Modes.{xor_first}

-- the end of MAC algorithm 3 of ISO 9797-1, of the last chaining block: deciphered under the second key, and enciphered under the first
abbrev pub finished_3 : (List ℕ → List ℕ) → (List ℕ → List ℕ) → List ℕ → List ℕ
finished_3 encrypted decrypted chain = encrypted (decrypted chain)

-- ---- CMAC (SP 800-38B)

-- byte i of a block shifted left by a bit
abbrev pub doubled_byte : ℕ → List ℕ → ℕ → ℕ
doubled_byte size b i = slice_index b i * 2 % 256 + (if nat_lt (i + 1) size then slice_index b (i + 1) / 128 else 0)

-- R of a block's size: 0 … 0 10000111, and 0 … 0 11011 of 8 bytes
abbrev pub remainder_byte : ℕ → ℕ → ℕ
remainder_byte size i = if nat_eq (i + 1) size then (if nat_eq size 8 then 0x1b else 0x87) else 0

abbrev pub reduced_byte : ℕ → List ℕ → ℕ → ℕ
reduced_byte size b i = bit_xor (doubled_byte size b i) (if nat_le 128 (slice_index b 0) then remainder_byte size i else 0)

-- f 0, …, f (n - 1)
unfoldable pub listed : (ℕ → ℕ) → ℕ → List ℕ
listed f zero = []
listed f (suc n) = listed f n ++ f n ∷ []

-- a block shifted left by a bit, exclusive-or R if the first bit was 1 (6.1)
abbrev pub doubled : ℕ → List ℕ → List ℕ
doubled size b = listed (reduced_byte size b) size

-- K 1 and K 2 (6.1)
abbrev pub first_subkey : (List ℕ → List ℕ) → ℕ → List ℕ
first_subkey encrypted size = doubled size (encrypted (replicate size 0))

abbrev pub second_subkey : (List ℕ → List ℕ) → ℕ → List ℕ
second_subkey encrypted size = doubled size (first_subkey encrypted size)

-- the last block, the first u bytes of b, with its subkey (6.2, steps 3 and 4)
abbrev pub last_block : (List ℕ → List ℕ) → ℕ → List ℕ → ℕ → List ℕ
last_block encrypted size b u =
    if nat_eq u size then xor_first b (first_subkey encrypted size) size
    else xor_first (take u b ++ 0x80 ∷ replicate (size - (u + 1)) 0) (second_subkey encrypted size) size

-- the code of a message whose blocks but the last gave the chaining block (6.2, steps 5 and 6)
abbrev pub cmac_end : (List ℕ → List ℕ) → ℕ → List ℕ → List ℕ → ℕ → List ℕ
cmac_end encrypted size chain b u = encrypted (xor_first chain (last_block encrypted size b u) size)

-- ---- HMAC (RFC 2104)

-- a key of a block's length: the key, or its digest if it is longer, and zeros
abbrev pub key_block : (List ℕ → List ℕ) → ℕ → List ℕ → List ℕ
key_block digest size key =
    if nat_lt size (length key) then digest key ++ replicate (size - length (digest key)) 0 else key ++ replicate (size - length key) 0

-- the first bytes of a key, each exclusive-or the same byte
abbrev pub marked : List ℕ → ℕ → ℕ → List ℕ
marked key pad size = listed (λ (i : ℕ). bit_xor (slice_index key i) pad) size

abbrev pub hmac : (List ℕ → List ℕ) → ℕ → List ℕ → List ℕ → List ℕ
hmac digest size key m =
    digest (marked (key_block digest size key) 0x5c size ++ digest (marked (key_block digest size key) 0x36 size ++ m))

-- the inner digest holds the marked key and a message, the outer one its marked key
pub record IsKeyed {A : Type 0} (holds : A → List ℕ → Type 0) (digest : List ℕ → List ℕ) (size : ℕ) (i o : A) (key m : List ℕ) : Type 0 where
  pub inner : holds i (marked (key_block digest size key) 0x36 size ++ m)
  pub outer : holds o (marked (key_block digest size key) 0x5c size)
