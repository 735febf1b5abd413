-- DES of FIPS 46-3, on lists of bits, the leftmost first.
use Rattle.std.specs.Prelude.{ℕ, zero, suc, ◌+◌, ◌-◌, ◌*◌, ◌/◌, ◌%◌, ◌^◌, List, [], ◌∷◌, ◌++◌, length, Bool, true, false, bit_xor, nat_le, ◌&&◌, if◌then◌else◌, slice_index}
use Rattle.jc_ciphers.specs.DesTables.{initial_permutation, final_permutation, expansion, permutation, key_choice_1, key_choice_2, shifts, substitutions}

-- f 0, …, f (n - 1)
unfoldable pub listed : (ℕ → ℕ) → ℕ → List ℕ
listed f zero = []
listed f (suc n) = listed f n ++ f n ∷ []

-- the bits of a list that a table names, by numbers from 1
abbrev pub selected_bit : List ℕ → List ℕ → ℕ → ℕ
selected_bit table bits i = slice_index bits (slice_index table i - 1)

abbrev pub select : List ℕ → List ℕ → List ℕ
select table bits = listed (selected_bit table bits) (length table)

-- a table may name bit t of a list of n bits
abbrev pub is_place : ℕ → ℕ → Bool
is_place n t = nat_le 1 t && nat_le t n

-- the bits of eight bytes
abbrev pub bit_of_bytes : List ℕ → ℕ → ℕ
bit_of_bytes bytes i = slice_index bytes (i / 8) / 2 ^ (7 - i % 8) % 2

abbrev pub bits_of : List ℕ → List ℕ
bits_of bytes = listed (bit_of_bytes bytes) 64

-- bit i of a list of bits
abbrev pub bit : List ℕ → ℕ → ℕ
bit bits i = slice_index bits i % 2

-- the eight bytes of these bits
abbrev pub byte_of_bits : List ℕ → ℕ → ℕ
byte_of_bits bits i =
    128 * bit bits (8 * i) + 64 * bit bits (8 * i + 1) + 32 * bit bits (8 * i + 2) + 16 * bit bits (8 * i + 3)
    + 8 * bit bits (8 * i + 4) + 4 * bit bits (8 * i + 5) + 2 * bit bits (8 * i + 6) + bit bits (8 * i + 7)

abbrev pub bytes_of : List ℕ → List ℕ
bytes_of bits = listed (byte_of_bits bits) 8

-- what S-box n, from 0 on, makes of its six bits: the first and the last name a row, the others a column
abbrev pub substitute : List ℕ → ℕ → ℕ
substitute bits n = slice_index substitutions (64 * n
    + (16 * (2 * bit bits (6 * n) + bit bits (6 * n + 5))
    + (8 * bit bits (6 * n + 1) + 4 * bit bits (6 * n + 2) + 2 * bit bits (6 * n + 3) + bit bits (6 * n + 4))))

-- the eight S-boxes
abbrev pub substituted_bit : List ℕ → ℕ → ℕ
substituted_bit bits i = substitute bits (i / 4) / 2 ^ (3 - i % 4) % 2

abbrev pub substituted : List ℕ → List ℕ
substituted bits = listed (substituted_bit bits) 32

-- the round key in 48 bits from bit 48 * n of the schedule
abbrev pub keyed_bit : List ℕ → List ℕ → ℕ → ℕ → ℕ
keyed_bit bits keys n i = bit_xor (slice_index bits i) (slice_index keys (48 * n + i))

abbrev pub keyed : List ℕ → List ℕ → ℕ → List ℕ
keyed bits keys n = listed (keyed_bit bits keys n) 48

-- f (R, K)
unfoldable pub mangled : List ℕ → List ℕ → ℕ → List ℕ
mangled right keys n = select permutation (substituted (keyed (select expansion right) keys n))

-- L and R after a round: R, and L with f of R added
abbrev pub right_bit : List ℕ → ℕ → ℕ
right_bit block i = slice_index block (32 + i)

unfoldable pub right_of : List ℕ → List ℕ
right_of block = listed (right_bit block) 32

abbrev pub round_bit : List ℕ → List ℕ → ℕ → ℕ
round_bit block mixed i =
    if nat_le 32 i then bit_xor (slice_index block (i - 32)) (slice_index mixed (i - 32)) else slice_index block (32 + i)

unfoldable pub round : List ℕ → List ℕ → ℕ → List ℕ
round block keys n = listed (round_bit block (mangled (right_of block) keys n)) 64

-- which round key the nth round has
abbrev pub place_of : Bool → ℕ → ℕ
place_of backwards n = if backwards then 15 - n else n

-- L n and R n
unfoldable pub rounds : Bool → List ℕ → List ℕ → ℕ → List ℕ
rounds backwards keys block zero = block
rounds backwards keys block (suc n) = round (rounds backwards keys block n) keys (place_of backwards n)

-- the two halves after the last round, exchanged: the right one first
abbrev pub swapped_bit : List ℕ → ℕ → ℕ
swapped_bit block i = slice_index block ((i + 32) % 64)

abbrev pub swapped : List ℕ → List ℕ
swapped block = listed (swapped_bit block) 64

-- enciphering, and deciphering with the round keys backwards
unfoldable pub crypted : Bool → List ℕ → List ℕ → List ℕ
crypted backwards keys bytes =
    bytes_of (select final_permutation (swapped (rounds backwards keys (select initial_permutation (bits_of bytes)) 16)))

-- ---- the key schedule

-- each half rotated left by s places
abbrev pub shifted_bit : List ℕ → ℕ → ℕ → ℕ
shifted_bit halves s i = slice_index halves (i / 28 * 28 + (i % 28 + s) % 28)

abbrev pub shifted : List ℕ → ℕ → List ℕ
shifted halves s = listed (shifted_bit halves s) 56

-- C n and D n
unfoldable pub halves : List ℕ → ℕ → List ℕ
halves key zero = select key_choice_1 (bits_of key)
halves key (suc n) = shifted (halves key n) (slice_index shifts n)

-- K 1 to K n
unfoldable pub schedule : List ℕ → ℕ → List ℕ
schedule key zero = []
schedule key (suc n) = schedule key n ++ select key_choice_2 (halves key (suc n))

-- a block under a key of eight bytes, whose parity bits do not count
unfoldable pub encrypted : List ℕ → List ℕ → List ℕ
encrypted key block = crypted false (schedule key 16) block

unfoldable pub decrypted : List ℕ → List ℕ → List ℕ
decrypted key block = crypted true (schedule key 16) block
