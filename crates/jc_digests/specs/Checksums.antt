-- Checksums of ISO 3309: remainders of polynomials over GF(2). The coefficient of x ^ i of a remainder is its bit w - 1 - i, and bytes
-- come with their lowest bit first.
use Rattle.std.specs.Prelude.{ℕ, zero, suc, ◌+◌, ◌-◌, ◌/◌, ◌%◌, ◌^◌, List, [], ◌∷◌, bit_xor, nat_eq, if◌then◌else◌}

-- the remainder by the generator g, without its highest term, once a bit b follows a message with the remainder r
abbrev pub bit_in : ℕ → ℕ → ℕ → ℕ
bit_in g r b = bit_xor (r / 2) (if nat_eq ((r + b) % 2) 1 then g else 0)

-- once the n lowest bits of a byte follow
unfoldable pub bits_in : ℕ → ℕ → ℕ → ℕ → ℕ
bits_in g r x zero = r
bits_in g r x (suc n) = bit_in g (bits_in g r x n) (x / 2 ^ n % 2)

-- once a message follows
unfoldable pub remainder : ℕ → ℕ → List ℕ → ℕ
remainder g r [] = r
remainder g r (x ∷ xs) = remainder g (bits_in g r x 8) xs

-- x ^ 16 + x ^ 12 + x ^ 5 + 1
abbrev pub generator_16 : ℕ
generator_16 = 0x8408

-- x ^ 32 + x ^ 26 + x ^ 23 + x ^ 22 + x ^ 16 + x ^ 12 + x ^ 11 + x ^ 10 + x ^ 8 + x ^ 7 + x ^ 5 + x ^ 4 + x ^ 2 + x + 1
abbrev pub generator_32 : ℕ
generator_32 = 0xedb88320

-- the checksums: the complement of the remainder that begins with ones
abbrev pub crc_16 : List ℕ → ℕ
crc_16 m = 0xffff - remainder generator_16 0xffff m

abbrev pub crc_32 : List ℕ → ℕ
crc_32 m = 0xffffffff - remainder generator_32 0xffffffff m
