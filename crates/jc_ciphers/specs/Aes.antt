-- AES of FIPS 197: the cipher, its inverse and the key expansion, on lists of bytes. Section numbers are
-- the standard's. The state is a list of 16 bytes, whose row r and column c stand at r + 4 * c (3.4).
use Rattle.std.specs.Prelude.{◌≡◌, ℕ, zero, suc, ◌+◌, ◌-◌, ◌*◌, ◌/◌, ◌%◌, ◌≤◌, ◌⊎◌, List, [], ◌∷◌, ◌++◌, length, bit_xor, nat_lt, nat_eq, if◌then◌else◌, ◌&&◌, slice_index}
use Rattle.jc_ciphers.specs.AesField.{times, sub_byte, inv_sub_byte, times_power}

-- the state whose row r and column c is f r c
abbrev pub state_of : (ℕ → ℕ → ℕ) → List ℕ
state_of f =
    f 0 0 ∷ f 1 0 ∷ f 2 0 ∷ f 3 0 ∷ f 0 1 ∷ f 1 1 ∷ f 2 1 ∷ f 3 1
    ∷ f 0 2 ∷ f 1 2 ∷ f 2 2 ∷ f 3 2 ∷ f 0 3 ∷ f 1 3 ∷ f 2 3 ∷ f 3 3 ∷ []

-- row r and column c of a state
abbrev pub at : List ℕ → ℕ → ℕ → ℕ
at s r c = slice_index s (r + 4 * c)

-- 5.1.1
abbrev pub sub_bytes : List ℕ → List ℕ
sub_bytes s = state_of (λ r c. sub_byte (at s r c))

-- row r moves by r places (5.1.2)
abbrev pub shift_rows : List ℕ → List ℕ
shift_rows s = state_of (λ r c. at s r ((c + r) % 4))

-- each column times the matrix with the rows 2 3 1 1, each turned by one (5.1.3)
abbrev pub mixed_byte : ℕ → ℕ → ℕ → ℕ → ℕ
mixed_byte a b c d = bit_xor (bit_xor (bit_xor (times a 2) (times b 3)) c) d

abbrev pub mixed_column : ℕ → ℕ → ℕ → ℕ → List ℕ
mixed_column a b c d = mixed_byte a b c d ∷ mixed_byte b c d a ∷ mixed_byte c d a b ∷ mixed_byte d a b c ∷ []

abbrev pub mix_columns : List ℕ → List ℕ
mix_columns s = state_of (λ r c. mixed_byte (at s r c) (at s ((r + 1) % 4) c) (at s ((r + 2) % 4) c) (at s ((r + 3) % 4) c))

-- the state and the round key of four words from word 4 * n of the schedule w (5.1.4)
abbrev pub add_round_key : List ℕ → List ℕ → ℕ → List ℕ
add_round_key s w n = state_of (λ r c. bit_xor (at s r c) (slice_index w (16 * n + (r + 4 * c))))

-- 5.3.2
abbrev pub inv_sub_bytes : List ℕ → List ℕ
inv_sub_bytes s = state_of (λ r c. inv_sub_byte (at s r c))

-- 5.3.1
abbrev pub inv_shift_rows : List ℕ → List ℕ
inv_shift_rows s = state_of (λ r c. at s r ((c + 4 - r) % 4))

-- each column times the matrix with the rows 14 11 13 9, each turned by one (5.3.3)
abbrev pub inv_mixed_byte : ℕ → ℕ → ℕ → ℕ → ℕ
inv_mixed_byte a b c d = bit_xor (bit_xor (bit_xor (times a 14) (times b 11)) (times c 13)) (times d 9)

abbrev pub inv_mixed_column : ℕ → ℕ → ℕ → ℕ → List ℕ
inv_mixed_column a b c d = inv_mixed_byte a b c d ∷ inv_mixed_byte b c d a ∷ inv_mixed_byte c d a b ∷ inv_mixed_byte d a b c ∷ []

abbrev pub inv_mix_columns : List ℕ → List ℕ
inv_mix_columns s = state_of (λ r c. inv_mixed_byte (at s r c) (at s ((r + 1) % 4) c) (at s ((r + 2) % 4) c) (at s ((r + 3) % 4) c))

-- ---- the key's expansion (5.2). A word is four bytes, and word i of a list stands at 4 * i

-- a word by its bytes
abbrev pub word_of : (ℕ → ℕ) → List ℕ
word_of f = f 0 ∷ f 1 ∷ f 2 ∷ f 3 ∷ []

-- the word before word i
abbrev pub word_before : List ℕ → ℕ → List ℕ
word_before w i = word_of (λ j. slice_index w (4 * (i - 1) + j))

abbrev pub rot_word : List ℕ → List ℕ
rot_word t = word_of (λ j. slice_index t ((j + 1) % 4))

abbrev pub sub_word : List ℕ → List ℕ
sub_word t = word_of (λ j. sub_byte (slice_index t j))

abbrev pub xor_words : List ℕ → List ℕ → List ℕ
xor_words s t = word_of (λ j. bit_xor (slice_index s j) (slice_index t j))

-- Rcon [n], whose first byte is x ^ (n - 1)
abbrev pub round_constant : ℕ → List ℕ
round_constant n = times_power 1 (n - 1) ∷ 0 ∷ 0 ∷ 0 ∷ []

-- temp of a word of the schedule, of a key of k words: t is the word before it, and n times k words come before it, and r more
abbrev pub mixed_word : ℕ → List ℕ → ℕ → ℕ → List ℕ
mixed_word k t n r =
    if nat_eq r 0 then xor_words (sub_word (rot_word t)) (round_constant n)
    else (if nat_lt 6 k && nat_eq r 4 then sub_word t else t)

-- word i of the schedule that begins with the words w
abbrev pub next_word : List ℕ → List ℕ → ℕ → List ℕ
next_word key w i =
    if nat_lt i (length key / 4)
    then word_of (λ j. slice_index key (4 * i + j))
    else xor_words (word_of (λ j. slice_index w (4 * (i - length key / 4) + j)))
    (mixed_word (length key / 4) (word_before w i) (i / (length key / 4)) (i % (length key / 4)))

-- the first n words of the key's schedule
unfoldable pub schedule : List ℕ → ℕ → List ℕ
schedule key zero = []
schedule key (suc n) = schedule key n ++ next_word key (schedule key n) n

-- how many rounds a key of its length has: 10, 12 or 14
abbrev pub round_count : List ℕ → ℕ
round_count key = length key / 4 + 6

-- a key has 16, 24 or 32 bytes
abbrev pub IsKeyLength : ℕ → Type 0
IsKeyLength n = (n ≡ 16) ⊎ ((n ≡ 24) ⊎ (n ≡ 32))

-- ---- the cipher (5.1) and its inverse (5.3), with the schedule w

-- the state after n rounds with MixColumns
unfoldable pub rounds : List ℕ → List ℕ → ℕ → List ℕ
rounds w s zero = add_round_key s w 0
rounds w s (suc n) = add_round_key (mix_columns (shift_rows (sub_bytes (rounds w s n)))) w (n + 1)

unfoldable pub cipher_with : List ℕ → ℕ → List ℕ → List ℕ
cipher_with w count s = add_round_key (shift_rows (sub_bytes (rounds w s (count - 1)))) w count

-- the state after n rounds with InvMixColumns
unfoldable pub inv_rounds : List ℕ → ℕ → List ℕ → ℕ → List ℕ
inv_rounds w count s zero = add_round_key s w count
inv_rounds w count s (suc n) =
    inv_mix_columns (add_round_key (inv_sub_bytes (inv_shift_rows (inv_rounds w count s n))) w (count - (n + 1)))

unfoldable pub inv_cipher_with : List ℕ → ℕ → List ℕ → List ℕ
inv_cipher_with w count s =
    add_round_key (inv_sub_bytes (inv_shift_rows (inv_rounds w count s (count - 1)))) w 0

-- the block under the key
unfoldable pub encrypted : List ℕ → List ℕ → List ℕ
encrypted key block = cipher_with (schedule key (4 * (round_count key + 1))) (round_count key) block

-- the block back
unfoldable pub decrypted : List ℕ → List ℕ → List ℕ
decrypted key block = inv_cipher_with (schedule key (4 * (round_count key + 1))) (round_count key) block

abbrev pub IsRoundCount : ℕ → Type 0
IsRoundCount n = (1 ≤ n) × (n ≤ 14)
